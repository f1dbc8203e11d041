use Rattle.std.proofs.Common.{◌≡◌, take}
use Rattle.hh_sqlrows.specs.OfficeSchema.{office_tables}
use Rattle.hh_sqlschema.proofs.schema.are_tables.Given as goal

abbrev pub invariant-tables : goal.invariant-tables
invariant-tables l = take l.at l.tables ≡ take l.at office_tables
