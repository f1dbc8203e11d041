-- The number of a Settlement Period, and marks of yes or no, as fields have them.
use Rattle.std.specs.Prelude.{ℕ, pos, unsigned_abs, Bool, true, false, List, Option, Some, None, option_map, codes, bytes_eq, if◌then◌else◌}
use Rattle.hh_num.specs.Ranges.{fixed_between}

-- the number of a Settlement Period: 1 to 50, in the grammar of decimals and without a point
unfoldable pub period_value : List ℕ → Option ℕ
period_value text = option_map unsigned_abs (fixed_between 0 (pos 1) (pos 50) text)

-- a mark: yes or no
unfoldable pub yes_no_value : List ℕ → Option Bool
yes_no_value text = if bytes_eq text (codes "yes") then Some true else if bytes_eq text (codes "no") then Some false else None
