use Rattle.std.proofs.Common.{◌≡◌, map, take}
use Rattle.hh_sqlrows.specs.OfficeSchema.{key_index}
use Rattle.hh_sqlschema.proofs.schema.are_key_indexes.Given as goal

abbrev pub invariant-indexes : goal.invariant-indexes
invariant-indexes l = take l.at l.indexes ≡ map key_index (take l.at l.tables)
