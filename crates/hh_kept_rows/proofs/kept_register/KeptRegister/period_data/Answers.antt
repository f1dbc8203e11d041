use Rattle.std.proofs.Common.{map, ap, subst, sym, ◌∙◌}
use Rattle.std.specs.Prelude.{filter_map}
use Rattle.hh_calc.specs.Terms.{period_data, Rows}
use Rattle.hh_states.specs.PeriodSettlement.{unit_at, units_on}
use Rattle.hh_kept_rows.specs.steps.DayRolls.{AreLedOn}
use Rattle.hh_kept_rows.specs.steps.KeptContracts.{period_contracts}
use Rattle.hh_kept_rows.proofs.DayLaws.{are_led, rows_at, units_led}
use Rattle.hh_kept_rows.proofs.kept_register.KeptRegister.period_data.Goals as goal

pub units_at-requires : goal.units_at-requires
units_at-requires c =
    let tables = c.args.self.now in
    let date = c.args.at.now.date in
    subst (AreLedOn tables date) (sym (c.deref-2.ensures.value ∙ c.requires.roll.units)) (are_led tables date (units_on tables date))

pub returns : goal.returns
returns c =
    let tables = c.args.self.now in
    let at = c.args.at.now in
    c.new.ensures
    ∙ (λ i. period_data
    ((c.in_ok-accounts.ensures.items ∙ c.deref.ensures.value ∙ c.requires.roll.accounts) i)
    ((c.in_ok-units.ensures ∙ ap (filter_map (unit_at tables at)) (c.deref-2.ensures.value ∙ c.requires.roll.units) ∙ units_led tables at (units_on tables at.date)) i)
    (Rows ((c.requires.contracts ∙ ap (λ rows. period_contracts rows at.period) c.requires.roll.contracts ∙ ap (map (λ r. r.contract)) (rows_at tables at)) i))
    (c.price_at-price.ensures i))
