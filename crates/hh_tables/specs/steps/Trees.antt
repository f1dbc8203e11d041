-- The entries of a tree of rows after a call.
use Rattle.std.specs.Prelude.{◌≡◌, List, Option}
use Rattle.std.specs.declared.cmp.Ordering.{Ordering}
use Rattle.std.specs.BTreeMap.{insert_entry, is_at}
use Rattle.std.specs.Map.{remove_entry, set_value}
use Rattle.std.specs.Option.{MatchOption}

module _ {K V : Type 0} (R : K → K → Ordering) where
  -- a row replaces the row of its key, or is added
  abbrev pub Inserts : K × V → List (K × V) → List (K × V) → Type 0
  Inserts row old new = new ≡ insert_entry R old row.0 row.1

  -- two rows each replace the row of their key, or are added; the second is put after the first
  abbrev pub InsertsTwo : K × V → K × V → List (K × V) → List (K × V) → Type 0
  InsertsTwo first second old new = new ≡ insert_entry R (insert_entry R old first.0 first.1) second.0 second.1

  -- the key has the row that it had before, or has none if it had none
  abbrev pub PutsBack : K → Option V → List (K × V) → List (K × V) → Type 0
  PutsBack key before old new =
      MatchOption before (new ≡ remove_entry (is_at (R key)) old) (λ value. new ≡ set_value (is_at (R key)) old value)
