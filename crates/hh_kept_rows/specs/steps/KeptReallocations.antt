-- The reallocations of a unit in a Settlement Period, out of all that are in force.
use Rattle.std.specs.Prelude.{◌≡◌, ℕ, List, Bool, true, false}
use Rattle.std.specs.List.Sorted.{IsPartitionPoint}
use Rattle.std.specs.Ordering.{eq_by_cmp, is_le, is_lt}
use Rattle.hh_tables.specs.Tables.{IsTable, Table}
use Rattle.hh_names.specs.declared.values.Reallocation.{Reallocation}
use Rattle.hh_rows.specs.declared.keys.ReallocationKey.{ReallocationKey}
use Rattle.hh_rows.specs.declared.keys.UnitPeriod.{UnitPeriod}
use Rattle.hh_rows.specs.Keys.{reallocation_key_cmp, unit_period_cmp}
use Rattle.hh_rules.specs.History.{Registered}

module _ (key : UnitPeriod) where
  -- whether a reallocation is of an earlier unit, or of the unit in an earlier Settlement Period
  abbrev pub is_before : ReallocationKey × Reallocation → Bool
  is_before e = is_lt (unit_period_cmp e.0.unit_period key)

  -- whether a reallocation is of no later unit, and of the unit in no later Settlement Period
  abbrev pub is_no_later : ReallocationKey × Reallocation → Bool
  is_no_later e = is_le (unit_period_cmp e.0.unit_period key)

  -- whether a reallocation is of the unit in the Settlement Period
  abbrev pub is_of : ReallocationKey × Reallocation → Bool
  is_of e = eq_by_cmp unit_period_cmp e.0.unit_period key

  -- the reallocations of the unit in the Settlement Period begin at this place, or would begin there if there were any
  abbrev pub BeginAt : List (ReallocationKey × Reallocation) → ℕ → Type 0
  BeginAt rows place = IsPartitionPoint (λ e. is_before e ≡ true) (λ e. is_before e ≡ false) rows place

-- these are the reallocations in force, in the order of their keys
pub record AreReallocations (tables : Registered) (rows : Table ReallocationKey Reallocation) : Type 0 where
  pub same : rows ≡ tables.reallocations
  pub rising : IsTable reallocation_key_cmp rows
