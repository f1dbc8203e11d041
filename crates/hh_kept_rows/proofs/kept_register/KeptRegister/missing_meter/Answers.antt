use Rattle.std.proofs.Common.{sym, ◌∙◌}
use Rattle.std.specs.Prelude.{is_none}
use Rattle.hh_states.specs.DaySettlement.{unit_periods_at}
use Rattle.hh_states.specs.PeriodSettlement.{reading_of}
use Rattle.hh_kept_rows.proofs.DayLaws.{not_yet_in, now_found_in}
use Rattle.hh_kept_rows.proofs.kept_register.KeptRegister.missing_meter.Goals as goal

pub loop-at-preserved : goal.loop-at-preserved
loop-at-preserved c =
    not_yet_in (λ key. is_none (reading_of c.args.self.now key)) (unit_periods_at c.args.self.now) c.args.periods.now c.loop-at.at-index c.at-item.result c.loop-at-test.true c.at-item.is c.loop-at.invariant
    (sym c.missing_meter_at.ensures ∙ c.in_default.is)

pub returns-in-Some : goal.returns-in-Some
returns-in-Some c =
    sym (now_found_in (λ key. is_none (reading_of c.args.self.now key)) (unit_periods_at c.args.self.now) c.args.periods.now c.loop-at.at-index c.at-item.result c.in-Some.key c.loop-at-test.true c.at-item.is c.loop-at.invariant
    (sym c.missing_meter_at.ensures ∙ c.in-Some.is))
