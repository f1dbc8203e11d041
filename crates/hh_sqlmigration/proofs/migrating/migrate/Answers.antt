use Rattle.std.proofs.Common.{IsTrue, rules}
use Rattle.std.proofs.lemmas.Result.{on_ok_weaker}
use Rattle.sqlite.specs.Effect.{Database}
use Rattle.sqlite.specs.Held.{state}
use Rattle.hh_sqlrows.proofs.BecomingLaws.{may_become_so, no_more}
use Rattle.hh_sqlmigration.specs.steps.ToTwo.{BecomesTwo}
use Rattle.hh_sqlmigration.proofs.HoldsLaws.{becomes_holds, migrated_by_step, present_before}
use Rattle.hh_sqlmigration.proofs.migrating.migrate.Goals as goal

pub returns-then-has_office_of_one-clause-migrated : goal.returns-then-has_office_of_one-clause-migrated
returns-then-has_office_of_one-clause-migrated g c clean =
    on_ok_weaker c.step_to_two.result (migrated_by_step (state g.S.Store c.args.connection.now) (state g.S.Store c.step_to_two.new.connection) (c.has_office_of_one.ensures.settled (search rules)))
    (c.step_to_two.ensures.taken clean)

pub returns-then-has_office_of_one-clause-crash : goal.returns-then-has_office_of_one-clause-crash
returns-then-has_office_of_one-clause-crash g c =
    may_become_so BecomesTwo _ (state g.S.Store c.args.connection.now) (state g.S.Store c.step_to_two.new.connection) becomes_holds c.step_to_two.ensures.crash
