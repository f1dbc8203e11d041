-- A member of a body that may be missing.
use Rattle.std.specs.Prelude.{ℕ, List, Option, Some, None}
use Rattle.serde_json.specs.Data.{Data, Members, put}

-- members with one more, if there is a value for it
abbrev pub with_place : List ℕ → Option Data → Members → Members
with_place key None rest = rest
with_place key (Some place) rest = put key place rest
