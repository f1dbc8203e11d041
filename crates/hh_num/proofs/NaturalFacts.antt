-- Reading of numbers of digits alone.
use Rattle.std.proofs.Common.{◌≡◌, ℕ, ◌<◌, List, [], ◌∷◌, length, None, refl, arith}
use Rattle.hh_num.specs.steps.Fixed.{digits_behind}
use Rattle.hh_num.specs.Naturals.{natural_value}

-- an empty text is no number
pub natural_value-empty : (text : List ℕ) → length text ≡ 0 → natural_value text ≡ None
unfolding natural_value
natural_value-empty [] none = refl
natural_value-empty (b ∷ text) none = absurd (omega arith)

-- the number of digits is the number that they write behind no others
pub natural_value-some : (text : List ℕ) → 0 < length text → natural_value text ≡ digits_behind 0 text
unfolding natural_value
natural_value-some [] some = absurd (omega arith)
natural_value-some (b ∷ text) some = refl

pub ruleset natural_value_by_length = (natural_value-empty, natural_value-some)
