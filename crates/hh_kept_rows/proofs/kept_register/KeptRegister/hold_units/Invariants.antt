use Rattle.std.proofs.Common.{ℕ, take}
use Rattle.std.specs.Prelude.{All}
use Rattle.hh_rules.specs.RegisterView.{AgreesOnUnit, tables_in}
use Rattle.hh_kept_rows.specs.Parts.{whole_of}
use Rattle.hh_kept_rows.specs.steps.Parts.{Grows, IsPartOf}
use Rattle.hh_kept_rows.proofs.kept_register.KeptRegister.hold_units.Given as goal

-- the part has got only what the whole has, and has the units so far
abbrev pub invariant-loop-place : goal.invariant-loop-place
invariant-loop-place l = record {
  grows : Grows l.self l.fn.part l.part;
  agrees : (lead_minutes : ℕ) → IsPartOf (whole_of lead_minutes l.self) l.fn.part → All (λ e. AgreesOnUnit l.self (tables_in l.part) e.0) (take l.place l.row-items);
}
