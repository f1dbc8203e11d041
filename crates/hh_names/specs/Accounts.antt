-- Energy accounts: their order, and the texts that name them.
use Rattle.std.specs.Prelude.{ℕ, ◌-◌, nat_lt, ◌==◌, List, [], ◌∷◌, ◌++◌, length, take, drop, slice_index, Bool, Option, Some, None, codes, if◌then◌else◌}
use Rattle.std.specs.declared.cmp.Ordering.{Ordering}
use Rattle.std.specs.Ordering.{nat_cmp, eq_by_cmp, on, then_cmp}
use Rattle.std.specs.Cmp.Lexicographic.{slice_cmp}
use Rattle.std.specs.Str.{bytes_eq}
use Rattle.hh_names.specs.declared.account.Account.{Account}
use Rattle.hh_names.specs.declared.account.Side.{Side}
use Rattle.hh_names.specs.declared.account.Side.TheVariants.{Production, Consumption}
use Rattle.hh_names.specs.Words.{party_value}

-- texts in the order of their bytes
abbrev pub bytes_cmp : List ℕ → List ℕ → Ordering
bytes_cmp = slice_cmp nat_cmp

-- Production before Consumption
abbrev pub side_number : Side → ℕ
side_number Production = 0
side_number Consumption = 1

abbrev pub side_cmp : Side → Side → Ordering
side_cmp = on side_number nat_cmp

-- accounts in the order of their parties' bytes, then of their sides
abbrev pub account_cmp : Account → Account → Ordering
account_cmp = then_cmp (on (λ a. a.party) bytes_cmp) (on (λ a. a.side) side_cmp)

abbrev pub is_same_account : Account → Account → Bool
is_same_account = eq_by_cmp account_cmp

-- the side that a text names
unfoldable pub side_value : List ℕ → Option Side
side_value text = if bytes_eq text (codes "P") then Some Production else if bytes_eq text (codes "C") then Some Consumption else None

abbrev pub account_from : Option Side → Option (List ℕ) → Option Account
account_from None party = None
account_from (Some side) None = None
account_from (Some side) (Some party) = Some (record { party = party; side = side })

-- the account that a party, a dash and a side name
unfoldable pub account_value : List ℕ → Option Account
account_value text =
    if nat_lt (length text) 2 then None
    else if slice_index text (length text - 2) == 45 then account_from (side_value (drop (length text - 1) text)) (party_value (take (length text - 2) text))
    else None

-- the letter by which a side is written
abbrev pub side_letter : Side → ℕ
side_letter Production = 80
side_letter Consumption = 67

-- the text that names an account: its party, a dash and its side
abbrev pub account_text : Account → List ℕ
account_text a = a.party ++ 45 ∷ side_letter a.side ∷ []
