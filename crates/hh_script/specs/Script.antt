-- A script: its lines, and the first that is off its form.
use Rattle.std.specs.Prelude.{ℕ, ◌==◌, List, [], ◌∷◌, Bool, Option, Some, None, is_none}
use Rattle.std.specs.List.{position_from, slice_split}
use Rattle.hh_script.specs.Steps.{Step, step_value}

-- a text, if it is not empty
abbrev pub unless_empty : List ℕ → List (List ℕ)
unless_empty [] = []
unless_empty (b ∷ bytes) = (b ∷ bytes) ∷ []

-- the parts, without an empty last one
abbrev pub but_empty_last : List (List ℕ) → List (List ℕ)
but_empty_last [] = []
but_empty_last (part ∷ []) = unless_empty part
but_empty_last (part ∷ next ∷ parts) = part ∷ but_empty_last (next ∷ parts)

-- the lines of a script: each ends with LF, which the last may lack
unfoldable pub lines_of : List ℕ → List (List ℕ)
lines_of bytes = but_empty_last (slice_split (λ b. b == 10) bytes)

-- one value before others, if all are there
abbrev pub onto : {A : Type 0} → Option A → Option (List A) → Option (List A)
onto (Some x) (Some xs) = Some (x ∷ xs)
onto _ _ = None

-- the values of all items of a list, if each has one
abbrev pub all_values : {A B : Type 0} → (A → Option B) → List A → Option (List B)
all_values value [] = Some []
all_values value (x ∷ xs) = onto (value x) (all_values value xs)

-- the steps of a script, if each line has a form
abbrev pub script_value : List ℕ → Option (List Step)
script_value bytes = all_values step_value (lines_of bytes)

-- whether a line is off its form
abbrev pub is_bad_line : List ℕ → Bool
is_bad_line line = is_none (step_value line)

-- the number of the first line that is off its form, from 1
abbrev pub first_bad_line : List ℕ → Option ℕ
first_bad_line bytes = position_from is_bad_line 1 (lines_of bytes)
