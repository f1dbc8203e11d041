use Rattle.std.proofs.Common.{◌++◌, ap, arith, sym, ◌∙◌}
use Rattle.std.proofs.lemmas.List.{append-nil}
use Rattle.sqlite.specs.Held.{state}
use Rattle.hh_sqltables.specs.Forms.{entry_under, found_entry, rows_under_keys}
use Rattle.hh_sqltables.proofs.FrameLaws.{reads_as, reads_failed, reads_then, settles}
use Rattle.hh_sqltables.proofs.ManyKeys.{selects_more}
use Rattle.hh_sqltables.proofs.many_keys.select_each.Goals as goal
use Rattle.hh_sqltables.proofs.many_keys.select_each.Goals.{in-Some+in_ok-push, in_default}

pub keys-preserved : goal.keys-preserved
keys-preserved g c =
    let table = g.T.OfficeTable in
    let old = state g.S.Store c.args.conn.now in
    let mid = state g.S.Store c.keys.conn in
    let new = state g.S.Store c.select.new.conn in
    let key = c.key-item.result in
    let so_far = c.keys.invariant in
    let last = settles table.schema mid new _ c.in_ok-value.ensures.frame in
    record {
      frame = reads_as old new _ _ (reads_then table.schema old mid new tt _ so_far.frame last);
      selected = selects_more table.schema (λ db. entry_under table.form.order (rows_under_keys table.form db.trees)) old mid new tt _ so_far.frame last
          c.args.keys.now c.keys.key-index key (omega arith) c.key-item.is
          c.keys.found.items (found_entry key c.in_ok-value.field-0) c.match-branch-2.found.items so_far.selected (λ stands office. ap (found_entry key) (c.in_ok-value.ensures.value stands office))
          (elim c.match-branch-2.branch [
            | in-Some+in_ok-push w ↦ ap (λ all. all.items) w.found-is ∙ w.in_ok-push.ensures.items ∙ ap (λ found. c.keys.found.items ++ found_entry key found) (sym w.in-Some.is)
            | in_default w ↦ ap (λ all. all.items) w.found-is ∙ sym (append-nil c.keys.found.items) ∙ ap (λ found. c.keys.found.items ++ found_entry key found) (sym w.in_default.is)
          ]);
    }

pub returns-in_err-value-clause-frame : goal.returns-in_err-value-clause-frame
returns-in_err-value-clause-frame g c =
    let table = g.T.OfficeTable in
    let old = state g.S.Store c.args.conn.now in
    let mid = state g.S.Store c.keys.conn in
    let new = state g.S.Store c.select.new.conn in
    reads_failed _ old new _ _ c.from_residual.ensures.1 (reads_then table.schema old mid new tt _ c.keys.invariant.frame (settles table.schema mid new _ c.select.ensures.frame))

pub returns-in_err-push-clause-frame : goal.returns-in_err-push-clause-frame
returns-in_err-push-clause-frame g c =
    let table = g.T.OfficeTable in
    let old = state g.S.Store c.args.conn.now in
    let mid = state g.S.Store c.keys.conn in
    let new = state g.S.Store c.select.new.conn in
    reads_failed _ old new _ _ c.from_residual-in_err-push.ensures.1 (reads_then table.schema old mid new tt _ c.keys.invariant.frame (settles table.schema mid new _ c.select.ensures.frame))
