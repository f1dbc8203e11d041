-- The numbers of periods that a date can have.
use Rattle.std.specs.Prelude.{ℕ, Bool, ◌||◌, ◌==◌}

-- the numbers of periods that a date can have
abbrev pub is_count : ℕ → Bool
is_count n = (n == 46) || (n == 48) || (n == 50)
