-- A text of the form of a date, as its parts are read.
use Rattle.std.specs.Prelude.{◌≡◌, ◌<◌, ℕ, List}
use Rattle.hh_time.specs.DateText.{dashed}

-- the text is NNNN-NN-NN, of these four numbers below 100
abbrev pub IsDashed : List ℕ → ℕ → ℕ → ℕ → ℕ → Type 0
IsDashed text a b c d = (a < 100) × (b < 100) × (c < 100) × (d < 100) × (text ≡ dashed a b c d)
