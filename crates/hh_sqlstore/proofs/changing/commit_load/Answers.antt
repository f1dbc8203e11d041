use Rattle.std.proofs.Common.{◌≡◌, rules, subst}
use Rattle.sqlite.specs.Held.{state}
use Rattle.sqlite.specs.State.{Survives}
use Rattle.hh_sqlchanges.specs.Writes.{ChangesByLoad}
use Rattle.hh_sqlrows.specs.Leaving.{MayStand}
use Rattle.hh_sqlrows.proofs.CommitLaws.{survives_making}
use Rattle.hh_sqlstore.proofs.changing.commit_load.Goals as goal

pub returns-in-Err-clause-crash : goal.returns-in-Err-clause-crash
returns-in-Err-clause-crash g c office =
    let old = state g.S.Store c.args.connection.now in
    let P = ChangesByLoad c.args.change.now c.args.steps.now c.args.positions.now c.args.touched.now old.now in
    let made = survives_making g.S.Store P c.args.connection.now _ (state g.S.Store c.commit.new.self.0) (search rules) (search rules) c.in-Err.ensures.survives in
    let same : c.commit.new.self.0 ≡ c.connection-2-1.given.0 = search rules in
    subst (λ h. Survives old (state g.S.Store h) (MayStand P)) same made
