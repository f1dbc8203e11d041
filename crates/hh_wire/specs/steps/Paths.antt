-- Which paths a route has, and what their parts ask for.
use Rattle.std.specs.Prelude.{◌≡◌, ℕ, ◌==◌, nat_lt, List, [], ◌∷◌, ◌++◌, length, Bool, true, false, not, ◌&&◌, Option, None, codes, if◌then◌else◌}
use Rattle.std.specs.List.{list_all}
use Rattle.hh_requests.specs.declared.request.Action.{Action}
use Rattle.hh_wire.specs.declared.router.Route.{Route}
use Rattle.hh_wire.specs.declared.router.Route.TheVariants as route
use Rattle.hh_wire.specs.Routes.{one_part, two_parts}

-- the name of a route, its first part
abbrev pub name_of : Route → List ℕ
name_of route.Files = codes "files"
name_of route.Runs = codes "runs"
name_of route.Accounts = codes "accounts"
name_of route.Balances = codes "balances"
name_of route.Contracts = codes "contracts"
name_of route.RunsOfDate = codes "runs"

-- whether two parts follow the name of a route, and not one
abbrev pub has_two : Route → Bool
has_two route.Balances = false
has_two route.RunsOfDate = false
has_two _ = true

-- its name between slashes
abbrev pub word_of : Route → List ℕ
word_of way = 47 ∷ (name_of way ++ 47 ∷ [])

-- some ASCII, and no slash
abbrev pub is_part_byte : ℕ → Bool
is_part_byte b = nat_lt b 128 && not (b == 47)

abbrev pub is_part : List ℕ → Bool
is_part part = nat_lt 0 (length part) && list_all is_part_byte part

-- a path has one part after a word, or two
abbrev pub HasParts : Bool → List ℕ → List ℕ → Type 0
HasParts false word path = (part : List ℕ) × (is_part part ≡ true) × (path ≡ word ++ part)
HasParts true word path =
    (first : List ℕ) × (second : List ℕ) × (is_part first ≡ true) × (is_part second ≡ true) × (path ≡ word ++ (first ++ 47 ∷ second))

-- a path of a route
abbrev pub IsPathOf : Route → List ℕ → Type 0
IsPathOf way path = HasParts (has_two way) (word_of way) path

-- a path begins with the word of a route
abbrev pub BeginsWith : Route → List ℕ → Type 0
BeginsWith way path = (rest : List ℕ) × (path ≡ word_of way ++ rest)

-- what the only part after a route's name asks for
abbrev pub one_part_of : Route → List ℕ → Option Action
one_part_of way part = if has_two way then None else one_part (name_of way) part

-- what the two parts after a route's name ask for, with a body
abbrev pub two_parts_of : Route → List ℕ → List ℕ → List ℕ → Option Action
two_parts_of way first second body = if has_two way then two_parts (name_of way) first second body else None

-- what the parts of a path ask for, with a body, if the path has this route
abbrev pub action_of : Route → List (List ℕ) → List ℕ → Option Action
action_of way (root ∷ name ∷ part ∷ []) body = one_part_of way part
action_of way (root ∷ name ∷ first ∷ second ∷ []) body = two_parts_of way first second body
action_of way _ body = None
