use Rattle.std.proofs.Common.{◌≡◌, ℕ, arith, subst}
use Rattle.sqlite.specs.Held.{state}
use Rattle.sqlite.specs.State.{HasCleanDisk}
use Rattle.hh_sqltables.proofs.FrameLaws.{writes_as, writes_then}
use Rattle.hh_sqlrows.specs.Making.{IsMadeUpTo}
use Rattle.hh_sqlrows.proofs.MakeLaws.{all_filled}
use Rattle.hh_sqlrows.proofs.make.make_tables.Goals as goal

pub tables-preserved : goal.tables-preserved
tables-preserved g c =
    let mid = state g.S.Store c.tables.tx.conn.now in
    let new = state g.S.Store c.make_table.new.tx.conn.now in
    let one = c.in_ok-make_table.ensures in
    let kept = c.tables.invariant in
    let before : HasCleanDisk new → HasCleanDisk mid = λ clean. omega (arith, one.frame.survives.clean, clean) in
    record {
      frame = writes_as g.S.Store _ _ _ _ (writes_then g.S.Store _ _ _ tt _ kept.frame one.frame);
      makes = λ clean inside is. one.makes clean (kept.frame.inside (before clean) inside) (kept.makes (before clean) inside is);
    }

pub returns-clause-makes : goal.returns-clause-makes
returns-clause-makes g c clean inside is =
    let last = (state g.S.Store c.tables.tx.conn.now).now in
    let all : c.tables.at ≡ 17 = omega (arith, c.tables.auto.at-end, c.tables-test.false) in
    all_filled last (subst (λ (n : ℕ). IsMadeUpTo n last) all (c.tables.invariant.makes clean inside is))
