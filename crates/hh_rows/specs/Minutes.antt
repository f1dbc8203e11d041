-- The minutes by which notifications close before their Settlement Period, as texts.
use Rattle.std.specs.Prelude.{ℕ, List, Option}
use Rattle.hh_names.specs.Naturals.{natural_up_to}

-- the minutes that a text of digits alone writes: 0 to 1,440
unfoldable pub lead_minutes_value : List ℕ → Option ℕ
lead_minutes_value text = natural_up_to 1440 text
