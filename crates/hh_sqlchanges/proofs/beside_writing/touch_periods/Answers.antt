use Rattle.std.proofs.Common.{◌≡◌, ◌+◌, ◌++◌, ◌∷◌, [], ◌∙◌, List, ap, arith, map, subst, sym, take}
use Rattle.sqlite.specs.Held.{state}
use Rattle.sqlite.specs.State.{HasCleanDisk}
use Rattle.hh_rows.specs.declared.settlement_period.SettlementPeriod.{SettlementPeriod}
use Rattle.hh_sqlrows.specs.no_columns.NoColumns.{NoColumns}
use Rattle.hh_sqlrows.proofs.FrameLaws.{writes_then}
use Rattle.hh_sqlrows.proofs.ManyLaws.{map_last, puts_more, take_next}
use Rattle.hh_sqlrows.specs.Forms.{PutsAll}
use Rattle.hh_sqlrows.specs.OfficeSchema.{office}
use Rattle.hh_sqlrows.specs.OfficeTables.{touched}
use Rattle.hh_sqlchanges.specs.steps.Becoming.{touched_entry}
use Rattle.hh_sqlchanges.proofs.beside_writing.touch_periods.Goals as goal

pub periods-preserved : goal.periods-preserved
periods-preserved g c =
    let old = state g.S.Store c.args.tx.now.conn.now in
    let mid = state g.S.Store c.periods.tx.conn.now in
    let new = state g.S.Store c.replace.new.tx.conn.now in
    let one = c.in_ok-replace.ensures in
    let kept = c.periods.invariant in
    let whole : map touched_entry (take (c.periods.at-index + 1) c.args.periods.now) ≡ map touched_entry (take c.periods.at-index c.args.periods.now) ++ touched_entry c.at-item.result ∷ [] =
    ap (map touched_entry) (take_next c.args.periods.now c.periods.at-index c.at-item.result (omega arith) c.at-item.is) ∙ map_last touched_entry _ _ in
    let before : HasCleanDisk new → HasCleanDisk mid = λ clean. omega (arith, one.frame.survives.clean, clean) in
    record {
      frame = writes_then g.S.Store _ _ _ tt _ kept.frame one.frame;
      puts = λ clean inside is.
          let all = kept.puts (before clean) inside is in
          subst (λ (es : List (SettlementPeriod × NoColumns)). PutsAll touched es old.now new.now) (sym whole) (puts_more office touched _ _ old.now mid.now new.now all (one.puts clean (kept.frame.inside (before clean) inside) all.is_office));
    }
