use Rattle.std.proofs.Common.{◌≡◌, ◌+◌, true, sym, ap, ◌∙◌, arith, rules}
use Rattle.std.specs.Result.{is_ok}
use Rattle.std.proofs.lemmas.List.{length_push}
use Rattle.hh_texts.proofs.RowFacts.{all-end, all-many, all-length, all-field, all-row, names-columns}
use Rattle.hh_texts.proofs.form.rows_under.Goals as goal

pub returns-then-not-branch-clause-rows : goal.returns-then-not-branch-clause-rows
returns-then-not-branch-clause-rows g c =
    all-end _ _ _ _ _ _ c.loop-row.invariant.same (rw c.if-not-branch.true at c.in_ok-next_record.ensures.record)

pub returns-then-len-columns-clause-rows : goal.returns-then-len-columns-clause-rows
returns-then-len-columns-clause-rows g c =
    rw c.at_row.ensures
    (all-length _ _ _ _ _ _ _ _ c.loop-row.invariant.same (rw c.if-not-branch.false at c.in_ok-next_record.ensures.record) (omega arith) (λ e. absurd (omega (arith, names-columns _ _ c.header-columns.ensures))))

pub returns-in-Err-clause-rows : goal.returns-in-Err-clause-rows
returns-in-Err-clause-rows g c =
    rw c.at_field.ensures
    (all-field _ _ _ _ _ _ _ _ _ c.loop-row.invariant.same (rw c.if-not-branch.false at c.in_ok-next_record.ensures.record) (omega arith) (omega (arith, names-columns _ _ c.header-columns.ensures)) (sym c.read_row.ensures ∙ c.in-Err.is))

pub loop-row-preserved : goal.loop-row-preserved
loop-row-preserved g c =
    let good : is_ok c.push.result ≡ true = search rules in
    let items = rw good at c.push.ensures.items in
    record {
      few = rw items (ap (λ n. n + 1) (length_push c.loop-row.rows.items c.in-Ok.read ∙ c.loop-row.invariant.few));
      reading = c.in_ok-next_record.ensures.reading;
      same =
          rw items (all-row _ _ _ _ _ _ _ _ _ c.loop-row.invariant.same (rw c.if-not-branch.false at c.in_ok-next_record.ensures.record) (omega arith) (omega (arith, names-columns _ _ c.header-columns.ensures)) (sym c.read_row.ensures ∙ c.in-Ok.is));
    }

pub returns-then-branch-clause-rows : goal.returns-then-branch-clause-rows
returns-then-branch-clause-rows g c =
    rw c.of.ensures (all-many _ _ _ _ _ _ _ _ c.loop-row.invariant.same (rw c.if-branch.true at c.in_ok-next_record-2.ensures.record) (omega arith))

pub returns-clause-rows : goal.returns-clause-rows
returns-clause-rows g c = all-end _ _ _ _ _ _ c.loop-row.invariant.same (rw c.if-branch.false at c.in_ok-next_record-2.ensures.record)
