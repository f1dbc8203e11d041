-- A result that is kept if it is within the limits.
use Rattle.std.specs.Prelude.{Bool, Option, Some, None, if◌then◌else◌}

-- a value, if a test holds
abbrev pub kept_where : {A : Type 0} → Bool → A → Option A
kept_where test value = if test then Some value else None
