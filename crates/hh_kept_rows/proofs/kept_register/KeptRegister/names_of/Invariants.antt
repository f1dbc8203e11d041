use Rattle.std.proofs.Common.{◌≡◌, take, true}
use Rattle.std.specs.List.{All}
use Rattle.hh_rules.specs.RegisterView.{tables_in}
use Rattle.hh_kept_rows.specs.Parts.{whole_of}
use Rattle.hh_kept_rows.specs.steps.Parts.{AgreesOnNames, AgreesOnUnits, IsPartOf}
use Rattle.hh_kept_rows.proofs.kept_register.KeptRegister.names_of.Given as goal

-- the part has only what the whole has, all units if the mark says so, and what the rows so far name
abbrev pub invariant-loop-row : goal.invariant-loop-row
invariant-loop-row l = record {
  part : IsPartOf (whole_of l.fn.lead_minutes l.self) l.part;
  units : l.all_units ≡ true → AgreesOnUnits l.self (tables_in l.part);
  agrees : All (AgreesOnNames l.self (tables_in l.part)) (take l.row-index l.rows);
}
