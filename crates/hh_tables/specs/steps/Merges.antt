-- Rows that are merged into a table: which keys the merge has reached.
use Rattle.std.specs.Prelude.{List, Bool, IsTrue}
use Rattle.std.specs.List.{list_all}
use Rattle.std.specs.Ordering.{is_le}
use Rattle.std.specs.declared.cmp.Ordering.{Ordering}

module _ {K V : Type 0} (R : K → K → Ordering) where
  -- whether the key of a row is this key or below it
  abbrev pub is_up_to : K → K × V → Bool
  is_up_to key row = is_le (R row.0 key)

  -- no key of these rows is above this one
  abbrev pub AreUpTo : K → List (K × V) → Type 0
  AreUpTo key rows = IsTrue (list_all (is_up_to key) rows)
