use Rattle.std.proofs.Common.{◌≡◌, map, drop}
use Rattle.csv.specs.Records.{fields_of}
use Rattle.hh_texts.specs.Rows.{same_fields}
use Rattle.hh_texts.proofs.form.has_fields.Given as goal

-- the fields that are left decide
abbrev pub invariant-loop-i : goal.invariant-loop-i
invariant-loop-i l =
    let names = map (λ name. name.now) l.names in
    same_fields (drop l.i (fields_of l.fields)) (drop l.i names) ≡ same_fields (fields_of l.fields) names
