use Rattle.std.proofs.Common.{◌≡◌, refl, rules, subst}
use Rattle.sqlite.specs.Held.{state}
use Rattle.sqlite.specs.State.{Survives}
use Rattle.hh_sqlrows.specs.Leaving.{MayStand}
use Rattle.hh_sqlrows.proofs.CommitLaws.{survives_making}
use Rattle.hh_sqlmigration.specs.steps.Writes.{WritesTwo}
use Rattle.hh_sqlmigration.proofs.migrating.commit_two.Goals as goal

pub returns-in-Err-clause-crash : goal.returns-in-Err-clause-crash
returns-in-Err-clause-crash g c office =
    let old = state g.S.Store c.args.connection.now in
    let mid = state g.S.Store c.write_two.new.tx.conn.now in
    let start = c.transaction-tx.ensures.begun in
    let P = WritesTwo c.args.leads.now c.args.settings.now old.now in
    let made = survives_making g.S.Store P c.args.connection.now mid (state g.S.Store c.commit.new.self.0) (rw start at c.in_ok-write_two.ensures.frame.survives)
    (λ clean. (rw start at c.in_ok-write_two.ensures.writes) clean refl office) c.in-Err.ensures.survives in
    let same : c.commit.new.self.0 ≡ c.connection-2-1.given.0 = search rules in
    subst (λ h. Survives old (state g.S.Store h) (MayStand P)) same made
