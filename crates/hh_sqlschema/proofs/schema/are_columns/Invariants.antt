use Rattle.std.proofs.Common.{◌≡◌, map, take}
use Rattle.hh_sqlrows.specs.OfficeSchema.{present}
use Rattle.hh_sqlschema.proofs.schema.are_columns.Given as goal

abbrev pub invariant-columns : goal.invariant-columns
invariant-columns l = take l.at l.columns ≡ map (λ c. present c.0.now c.1) (take l.at l.named)
