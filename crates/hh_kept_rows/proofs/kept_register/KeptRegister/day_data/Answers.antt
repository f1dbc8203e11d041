use Rattle.std.proofs.Common.{◌≡◌}
use Rattle.hh_kept_rows.specs.steps.DayRolls.{IsRollOf, led_units_on}
use Rattle.hh_kept_rows.proofs.DayLaws.{all_on_date}
use Rattle.hh_kept_rows.proofs.kept_register.KeptRegister.day_data.Goals as goal

pub missing_meter-missing_meter-requires : goal.missing_meter-missing_meter-requires
missing_meter-missing_meter-requires c =
    let roll = c.in_ok-roll.ensures in
    rw (c.deref-3.ensures.value, c.deref-4.ensures.value, c.in_ok-periods.ensures)
    (all_on_date (λ date. c.in_ok-roll.roll.units.items ≡ led_units_on c.args.self.now date) c.args.day.now.date c.args.day.now.count roll.units)

pub data_of-requires : goal.data_of-requires
data_of-requires c =
    rw (c.deref-7.ensures.value, c.in_ok-periods.ensures)
    (all_on_date (λ date. IsRollOf c.args.self.now date c.in_ok-roll.roll) c.args.day.now.date c.args.day.now.count c.in_ok-roll.ensures)
