use Rattle.std.proofs.Common.{◌≡◌, ◌+◌, ◌++◌, ◌∷◌, [], List, arith, subst, sym, take}
use Rattle.sqlite.specs.Held.{state}
use Rattle.sqlite.specs.State.{HasCleanDisk}
use Rattle.hh_sqltables.proofs.ManyLaws.{puts_more, take_next}
use Rattle.hh_sqltables.proofs.FrameLaws.{writes_then}
use Rattle.hh_sqltables.specs.Forms.{PutsAllIn}
use Rattle.hh_sqltables.proofs.table_calls.replace_all.Goals as goal

pub rows-preserved : goal.rows-preserved
rows-preserved g c =
    let form = g.T.OfficeTable.form in
    let old = state g.S.Store c.args.tx.now.conn.now in
    let mid = state g.S.Store c.rows.tx.conn.now in
    let new = state g.S.Store c.replace.new.tx.conn.now in
    let one = c.in_ok-replace.ensures in
    let kept = c.rows.invariant in
    let entry : g.row.T-Key.Denot × g.row.T-Value.Denot = c.row-item.result in
    let whole : take (c.rows.row-index + 1) c.args.rows.now ≡ take c.rows.row-index c.args.rows.now ++ entry ∷ [] = take_next c.args.rows.now c.rows.row-index entry (omega arith) c.row-item.is in
    let before : HasCleanDisk new → HasCleanDisk mid = λ clean. omega (arith, one.frame.survives.clean, clean) in
    record {
      frame = writes_then g.S.Store _ _ _ tt _ kept.frame one.frame;
      puts = λ clean inside is.
          let all = kept.puts (before clean) inside is in
          subst (λ (es : List (g.row.T-Key.Denot × g.row.T-Value.Denot)). PutsAllIn g.T.OfficeTable.schema form es old.now new.now) (sym whole) (puts_more g.T.OfficeTable.schema form _ _ old.now mid.now new.now all (one.puts clean (kept.frame.inside (before clean) inside) all.is_office));
    }
