use Rattle.std.proofs.Common.{◌≡◌, ◌+◌, ◌++◌, ◌∷◌, [], List, arith, subst, sym, take}
use Rattle.sqlite.specs.Held.{state}
use Rattle.sqlite.specs.State.{HasCleanDisk}
use Rattle.hh_rows.specs.declared.rows.Row.{Row}
use Rattle.hh_sqlrows.proofs.FrameLaws.{writes_then}
use Rattle.hh_sqlrows.proofs.ManyLaws.{take_next}
use Rattle.hh_sqlchanges.specs.steps.Becoming.{Becomes}
use Rattle.hh_sqlchanges.specs.steps.FileRows.{with_file_rows}
use Rattle.hh_sqlchanges.proofs.LoadLaws.{rows_more}
use Rattle.hh_sqlchanges.proofs.file_rows.write_each_row.Goals as goal

pub rows-preserved : goal.rows-preserved
rows-preserved g c =
    let old = state g.S.Store c.args.tx.now.conn.now in
    let mid = state g.S.Store c.rows.tx.conn.now in
    let new = state g.S.Store c.write_file_row.new.tx.conn.now in
    let one = c.in_ok-write_file_row.ensures in
    let kept = c.rows.invariant in
    let whole : take (c.rows.row-index + 1) c.args.rows.now ≡ take c.rows.row-index c.args.rows.now ++ c.row-item.result ∷ [] = take_next c.args.rows.now c.rows.row-index c.row-item.result (omega arith) c.row-item.is in
    let before : HasCleanDisk new → HasCleanDisk mid = λ clean. omega (arith, one.frame.survives.clean, clean) in
    record {
      frame = writes_then g.S.Store _ _ _ tt _ kept.frame one.frame;
      writes = λ clean inside is.
          let all = kept.writes (before clean) inside is in
          subst (λ (rs : List Row). Becomes (with_file_rows rs) old.now new.now) (sym whole) (rows_more (take c.rows.row-index c.args.rows.now) c.row-item.result old.now mid.now new.now all (one.writes clean (kept.frame.inside (before clean) inside) all.stays.is_office));
    }
