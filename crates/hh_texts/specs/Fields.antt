-- The fields of a record by their columns.
use Rattle.std.specs.Prelude.{ℕ, ◌-◌, List, [], Option, Some, None, Result, Ok, Err, unwrap_or}
use Rattle.csv.specs.Records.{field_at}

-- the field at a place, counted from 0; an empty text past the last field
abbrev pub field : List (List ℕ) → ℕ → List ℕ
field fields place = unwrap_or (field_at fields place) []

-- the value of a field that can be read, or otherwise its column
abbrev pub in_column : {A : Type 0} → ℕ → Option A → Result A ℕ
in_column number None = Err number
in_column number (Some value) = Ok value

-- the value of the field in a column, counted from 1, or otherwise the column
abbrev pub column : {A : Type 0} → List (List ℕ) → ℕ → (List ℕ → Option A) → Result A ℕ
column fields number value = in_column number (value (field fields (number - 1)))

-- one column after another: the first that cannot be read counts
infixl 10 ◌>>=◌
abbrev pub ◌>>=◌ : {A B : Type 0} → Result A ℕ → (A → Result B ℕ) → Result B ℕ
(Ok x) >>= f = f x
(Err number) >>= f = Err number
