use Rattle.std.proofs.Common.{◌≡◌, ◌+◌, ◌*◌, length, map, take}
use Rattle.std.specs.Prelude.{All, IsPermutation}
use Rattle.hh_calc.specs.Formulas.{credits_of, unit_sums}
use Rattle.hh_calc.specs.steps.Sums.{greatest_credit, greatest_volume, IsWithin}
use Rattle.hh_calc.proofs.ledger.add_units.Given as goal

-- the credits of the units so far, in whatever order, and the sums over these units
abbrev pub invariant-loop-unit : goal.invariant-loop-unit
invariant-loop-unit l = record {
  credits : IsPermutation (credits_of (take l.unit-index l.units)) l.credits.items;
  sums : l.sums ≡ map (unit_sums (take l.unit-index l.units)) l.accounts;
  small : All (IsWithin (length l.credits.items * greatest_credit + l.unit-index * greatest_volume)) l.sums;
}
