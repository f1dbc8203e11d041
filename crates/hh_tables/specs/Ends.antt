-- The last row of a table up to a key, and its rows from a key on.
use Rattle.std.specs.Prelude.{List, [], ◌∷◌, filter, Option, Some, None}
use Rattle.std.specs.Ordering.{is_le}
use Rattle.std.specs.declared.cmp.Ordering.{Ordering}
use Rattle.hh_tables.specs.Tables.{Table}

-- the last of a list
abbrev pub last_of : {X : Type 0} → List X → Option X
last_of [] = None
last_of (x ∷ []) = Some x
last_of (x ∷ y ∷ xs) = last_of (y ∷ xs)

-- the last row whose key is this one or below it
abbrev pub last_up_to : {K V : Type 0} → (K → K → Ordering) → K → Table K V → Option (K × V)
last_up_to R key table = last_of (filter (λ e. is_le (R e.0 key)) table)

-- the rows whose keys are this one or above it
abbrev pub rows_from : {K V : Type 0} → (K → K → Ordering) → K → Table K V → Table K V
rows_from R key table = filter (λ e. is_le (R key e.0)) table
