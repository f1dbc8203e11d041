-- The length that a head gives, or the rule that it breaks.
use Rattle.std.specs.Prelude.{ℕ, List, Option, Some, None, Result, Ok, Err}
use Rattle.std.specs.Borrow.{Bor}
use Rattle.hh_http_heads.specs.declared.head.BrokenRule.{BrokenRule}
use Rattle.hh_http_heads.specs.steps.Lengths.{length_value}

-- the length that a text gives, if there is a text; a rule is broken if it gives none
abbrev pub length_in : Option (Bor (List ℕ)) → Result (Option ℕ) BrokenRule
length_in None = Ok None
length_in (Some text) = elim (length_value text.now) [ None ↦ Err (record {}) | Some length ↦ Ok (Some length) ]
