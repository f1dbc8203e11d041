use Rattle.std.proofs.Common.{◌≡◌, ◌∙◌, ap, sym}
use Rattle.sqlite.specs.Effect.{Database}
use Rattle.sqlite.specs.Held.{state}
use Rattle.hh_registrations.specs.Registrations.{RegistrationsView, succession_ranges}
use Rattle.hh_registrations.specs.UnitSteps.{steps_of_rows}
use Rattle.hh_rules.specs.Leads.{registered_units}
use Rattle.hh_sqlrows.specs.Contents.{registered_of}
use Rattle.hh_sqlrows.specs.Forms.{rows_under_keys}
use Rattle.hh_sqlrows.specs.OfficeTables as tables
use Rattle.hh_sqlparts.proofs.ReadingLaws.{found_both, only}
use Rattle.hh_sqlparts.proofs.UnitStepLaws.{no_steps, no_successions}
use Rattle.hh_sqlparts.proofs.before_load.select_unit_changes.Goals as goal

pub returns-then-not-have_units-clause-value : goal.returns-then-not-have_units-clause-value
returns-then-not-have_units-clause-value g c stands office settled =
    let none = sym c.have_units.ensures ∙ c.if-not-have_units.true in
    record {
      steps = c.new.ensures.items ∙ sym (no_steps c.args.rows.now none _);
      successions = c.new-then-not-have_units.ensures.items ∙ sym (no_successions c.args.rows.now none _);
    }

pub returns-clause-value : goal.returns-clause-value
returns-clause-value g c stands office settled =
    let s0 = state g.S.Store c.args.conn.now in
    let s1 = state g.S.Store c.all_units.new.conn in
    let s2 = state g.S.Store c.all_leads.new.conn in
    let units = c.in_ok-units.ensures in
    let leads = c.in_ok-leads.ensures in
    let P1 : Database → Type 0 = λ db. c.in_ok-units.units ≡ rows_under_keys tables.units db.trees in
    let P2 : Database → Type 0 = λ db. c.in_ok-leads.leads ≡ rows_under_keys tables.leads db.trees in
    let all = found_both s0 s1 s2 (only _ _ _ units.frame) (only _ _ _ leads.frame) P1 P2 (λ stands office _. units.value stands office) (λ stands office _. leads.value stands office) stands office settled in
    let held : c.of.result ≡ registered_units (registered_of s0.now.trees) = c.of.ensures ∙ (λ i. record { units = all.0 i; leads = all.1 i }) in
    record {
      steps = c.in_ok-changes_of.ensures.steps ∙ ap (steps_of_rows c.args.rows.now) held;
      successions = c.in_ok-changes_of.ensures.successions ∙ ap (λ (x : RegistrationsView). succession_ranges c.args.rows.now x.leads) held;
    }
