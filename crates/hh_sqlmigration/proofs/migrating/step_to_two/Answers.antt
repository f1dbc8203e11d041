use Rattle.sqlite.specs.Held.{state}
use Rattle.hh_sqlrows.proofs.BecomingLaws.{may_become_after, no_more}
use Rattle.hh_sqlmigration.specs.steps.ToTwo.{BecomesTwo}
use Rattle.hh_sqlmigration.proofs.migrating.step_to_two.Goals as goal

pub returns-clause-crash : goal.returns-clause-crash
returns-clause-crash g c =
    let old = state g.S.Store c.args.connection.now in
    let mid = state g.S.Store c.settings_of_one.new.connection in
    let new = state g.S.Store c.add_leads.new.connection in
    let read = c.in_ok-settings.ensures in
    may_become_after BecomesTwo old mid new (no_more old mid read.crash) (λ stands clean. let up = read.stays clean in (up, (read.left up).2)) c.add_leads.ensures.honest
    c.add_leads.ensures.crash
