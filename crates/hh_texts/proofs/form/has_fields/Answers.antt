use Rattle.std.proofs.Common.{sym, ◌∙◌, arith}
use Rattle.csv.specs.Records.{fields_of}
use Rattle.hh_texts.proofs.RowFacts.{same_fields-differ, same_fields-next, field_at-none}
use Rattle.hh_texts.proofs.form.has_fields.Goals as goal

pub returns-in_default : goal.returns-in_default
returns-in_default c = absurd (field_at-none _ _ (omega arith) (sym c.in_default.ensures.value))

pub returns-then-ne : goal.returns-then-ne
returns-then-ne c =
    sym (sym c.loop-i.invariant
    ∙ same_fields-differ (fields_of c.args.fields.now) c.args.names.now c.loop-i.i _ _ _ (omega arith) (sym c.in-Some.ensures.value) c.as_bytes.ensures.value c.if-ne.ensures)

pub loop-i-preserved : goal.loop-i-preserved
loop-i-preserved c =
    sym (same_fields-next (fields_of c.args.fields.now) c.args.names.now c.loop-i.i _ _ _ (omega arith) (sym c.in-Some.ensures.value) c.as_bytes.ensures.value c.if-ne.ensures)
    ∙ c.loop-i.invariant
