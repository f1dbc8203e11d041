-- What a search for the one value of a header answers.
use Rattle.std.specs.Prelude.{◌≡◌, ℕ, ◌≤◌, List, [], ◌∷◌, length}
use Rattle.hh_http_heads.specs.declared.field.Field.{Field}
use Rattle.hh_http_heads.specs.declared.field.Field.TheVariants.{Absent, Once, Repeated}

-- the field is that of a header with these values
abbrev pub IsField : List (List ℕ) → Field → Type 0
IsField values Absent = values ≡ []
IsField values (Once value) = values ≡ value.now ∷ []
IsField values Repeated = 2 ≤ length values
