use Rattle.std.proofs.Common.{◌∙◌, ap, subst, sym}
use Rattle.std.proofs.lemmas.Result.{on_ok_weaker}
use Rattle.sqlite.specs.Effect.{Database}
use Rattle.sqlite.specs.Held.{state}
use Rattle.hh_registrations.specs.Registrations.{one_lead_each}
use Rattle.hh_sqltables.specs.Forms.{IsOfficeOf}
use Rattle.hh_sqlrows.specs.OfficeSchema.{office_of_one}
use Rattle.hh_sqlrows.proofs.BecomingLaws.{may_become_made}
use Rattle.hh_sqlmigration.specs.steps.ToTwo.{BecomesTwo}
use Rattle.hh_sqlmigration.specs.steps.Writes.{WritesTwo}
use Rattle.hh_sqlmigration.proofs.StepLaws.{two_made}
use Rattle.hh_sqlmigration.proofs.migrating.add_leads.Goals as goal

pub returns-clause-taken : goal.returns-clause-taken
returns-clause-taken g c clean =
    let old = state g.S.Store c.args.connection.now in
    let new = state g.S.Store c.commit_two.new.connection in
    let entries = c.deref-2.result.now in
    let reading = c.in_ok-units.ensures.frame in
    on_ok_weaker c.commit_two.result (λ changed.
    let stands = reading.stood changed.was_open in
    let office = c.requires.office stands in
    let left = reading.left changed.was_open office (c.requires.settled stands) in
    let are = c.deref-2.ensures.value ∙ c.in_ok-leads.ensures ∙ ap one_lead_each (c.deref.ensures.value ∙ c.in_ok-units.ensures.value changed.was_open office) in
    record {
      was_open = stands;
      is_open = changed.is_open;
      settled = changed.settled;
      step = two_made old.now new.now c.args.settings.now entries office (c.requires.settings stands) are
          (subst (λ (db : Database). WritesTwo entries c.args.settings.now db new.now) left.0 (changed.changed (subst (IsOfficeOf office_of_one) (sym left.0) office)));
    }) (c.commit_two.ensures.made clean)

pub returns-clause-crash : goal.returns-clause-crash
returns-clause-crash g c =
    let old = state g.S.Store c.args.connection.now in
    let mid = state g.S.Store c.select_all.new.conn in
    let new = state g.S.Store c.commit_two.new.connection in
    let entries = c.deref-2.result.now in
    let reading = c.in_ok-units.ensures.frame in
    may_become_made BecomesTwo old mid new
    (λ stands. reading.crash tt (c.requires.office stands))
    (λ stands clean. let up = reading.stays tt clean in (up, (reading.left up (c.requires.office stands) (c.requires.settled stands)).1))
    c.commit_two.ensures.honest (WritesTwo entries c.args.settings.now mid.now)
    (λ up.
    let stands = reading.stood up in
    let left = reading.left up (c.requires.office stands) (c.requires.settled stands) in
    c.commit_two.ensures.crash (subst (IsOfficeOf office_of_one) (sym left.0) (c.requires.office stands)))
    (λ up db writes.
    let stands = reading.stood up in
    let office = c.requires.office stands in
    let settled = c.requires.settled stands in
    let left = reading.left up office settled in
    let are = c.deref-2.ensures.value ∙ c.in_ok-leads.ensures ∙ ap one_lead_each (c.deref.ensures.value ∙ c.in_ok-units.ensures.value up office) in
    let made : BecomesTwo old.now db =
    two_made old.now db c.args.settings.now entries office (c.requires.settings stands) are
    (subst (λ (d : Database). WritesTwo entries c.args.settings.now d db) left.0 writes) in
    subst (λ (d : Database). BecomesTwo d db) (settled ∙ sym left.1) made)
