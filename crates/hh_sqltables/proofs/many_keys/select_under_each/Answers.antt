use Rattle.std.proofs.Common.{arith, filter}
use Rattle.sqlite.specs.Held.{state}
use Rattle.hh_sqltables.specs.Forms.{rows_under_keys}
use Rattle.hh_sqltables.proofs.FrameLaws.{reads_as, reads_failed, reads_then, settles}
use Rattle.hh_sqltables.proofs.ManyKeys.{selects_more}
use Rattle.hh_sqltables.proofs.many_keys.select_under_each.Goals as goal

pub asked-preserved : goal.asked-preserved
asked-preserved g c =
    let table = g.T.OfficeTable in
    let old = state g.S.Store c.args.conn.now in
    let mid = state g.S.Store c.asked.conn in
    let new = state g.S.Store c.select_under.new.conn in
    let so_far = c.asked.invariant in
    let last = settles table.schema mid new _ c.in_ok-more.ensures.frame in
    record {
      frame = reads_as old new _ _ (reads_then table.schema old mid new tt _ so_far.frame last);
      selected = selects_more table.schema (λ db a. filter (λ e. g.T.Under.is_under a e.0) (rows_under_keys table.form db.trees)) old mid new tt _ so_far.frame last
          c.args.asked.now c.asked.one-index c.one-item.result (omega arith) c.one-item.is
          c.asked.found.items c.in_ok-more.more.items c.append.new.self.items so_far.selected c.in_ok-more.ensures.value c.in_ok-append.ensures.items;
    }

pub returns-in_err-more-clause-frame : goal.returns-in_err-more-clause-frame
returns-in_err-more-clause-frame g c =
    let table = g.T.OfficeTable in
    let old = state g.S.Store c.args.conn.now in
    let mid = state g.S.Store c.asked.conn in
    let new = state g.S.Store c.select_under.new.conn in
    reads_failed _ old new _ _ c.from_residual.ensures.1 (reads_then table.schema old mid new tt _ c.asked.invariant.frame (settles table.schema mid new _ c.select_under.ensures.frame))

pub returns-in_err-append-clause-frame : goal.returns-in_err-append-clause-frame
returns-in_err-append-clause-frame g c =
    let table = g.T.OfficeTable in
    let old = state g.S.Store c.args.conn.now in
    let mid = state g.S.Store c.asked.conn in
    let new = state g.S.Store c.select_under.new.conn in
    reads_failed _ old new _ _ c.from_residual-in_err-append.ensures.1 (reads_then table.schema old mid new tt _ c.asked.invariant.frame (settles table.schema mid new _ c.select_under.ensures.frame))
