-- Places in a table.
use Rattle.std.specs.Prelude.{◌≡◌, ℕ, true, false}
use Rattle.std.specs.List.Sorted.{IsPartitionPoint}
use Rattle.std.specs.Ordering.{is_lt}
use Rattle.std.specs.declared.cmp.Ordering.{Ordering}
use Rattle.hh_tables.specs.Tables.{Table}

-- the keys of the rows before this place are below a key, and those of the rows from it on are not
abbrev pub IsPlaceOf : {K V : Type 0} → (K → K → Ordering) → K → Table K V → ℕ → Type 0
IsPlaceOf R key rows place = IsPartitionPoint (λ row. is_lt (R row.0 key) ≡ true) (λ row. is_lt (R row.0 key) ≡ false) rows place
