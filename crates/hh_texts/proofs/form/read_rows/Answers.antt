use Rattle.std.proofs.Common.{None, Some, arith, map, sym, ap, ◌∙◌}
use Rattle.std.specs.Prelude.{option_map}
use Rattle.std.proofs.lemmas.Bool.Decides.{nat_tests}
use Rattle.hh_texts.specs.Rows.{rows_of}
use Rattle.hh_texts.proofs.RowFacts.{rows_of-records, rows_under-none, rows_under-form}
use Rattle.hh_texts.proofs.form.read_rows.Goals as goal

pub returns-then-bytes-gt-MOST_BYTES-clause-rows : goal.returns-then-bytes-gt-MOST_BYTES-clause-rows
unfolding rows_of
returns-then-bytes-gt-MOST_BYTES-clause-rows g c = grind (arith, nat_tests)

pub returns-then-not-branch-clause-rows : goal.returns-then-not-branch-clause-rows
returns-then-not-branch-clause-rows g c =
    let forms = map g.F.Form.form c.args.forms.now in
    rw c.of-then-not-branch.ensures (rows_of-records forms c.args.bytes.now _ (omega arith) c.records_in-reader.ensures.all
    ∙ rows_under-none forms _ (rw c.if-not-branch.true at c.in_ok-next_record.ensures.record))

pub returns-in-Some-clause-rows : goal.returns-in-Some-clause-rows
returns-in-Some-clause-rows g c =
    let form = g.F.Form.form in
    let forms = map form c.args.forms.now in
    let records = rows_of-records forms c.args.bytes.now _ (omega arith) c.records_in-reader.ensures.all in
    let found = sym (ap (option_map (λ f. form f.now)) c.in-Some.is) ∙ c.form_under.ensures in
    let under = rows_under-form forms _ _ _ (Some (form c.in-Some.form.now)) (rw c.if-not-branch.false at c.in_ok-next_record.ensures.record) found in
    rw (records ∙ under) c.rows_under.ensures.rows

pub returns-clause-rows : goal.returns-clause-rows
returns-clause-rows g c =
    let form = g.F.Form.form in
    let forms = map form c.args.forms.now in
    let records = rows_of-records forms c.args.bytes.now _ (omega arith) c.records_in-reader.ensures.all in
    let found = sym (ap (option_map (λ f. form f.now)) c.in-None.is) ∙ c.form_under.ensures in
    rw c.of-in-None.ensures (records ∙ rows_under-form forms _ _ _ None (rw c.if-not-branch.false at c.in_ok-next_record.ensures.record) found)
