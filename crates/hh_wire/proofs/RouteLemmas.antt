-- What the office's router finds: a path of a route has that route, and a path that is found begins with its route's word.
use Rattle.std.proofs.Common.{◌≡◌, ◌∙◌, ℕ, ◌<◌, List, [], ◌∷◌, ◌++◌, map, Option, Some, None, Bool, true, false, inl, inr, refl, sym, ap, subst, arith}
use Rattle.std.proofs.lemmas.Bool.{and_from, and_parts}
use Rattle.std.proofs.lemmas.Bool.Decides.{nat_tests}
use Rattle.std.proofs.lemmas.List.Folds.{list_all-append}
use Rattle.std.proofs.lemmas.Option.{none-some, same_Some}
use Rattle.std.proofs.lemmas.Str.{IsUtf8-from_ascii}
use Rattle.std.specs.List.{list_all}
use Rattle.std.specs.Prelude.{IsUtf8, codes, length, nat_lt}
use Rattle.matchit.specs.Router.{RouteOf}
use Rattle.matchit.specs.Rows.{RowsOf}
use Rattle.matchit.specs.Seek.{first}
use Rattle.hh_names.proofs.AsciiLaws.{all_ascii}
use Rattle.hh_wire.specs.steps.Paths.{BeginsWith, HasParts, IsPathOf, has_two, is_part, is_part_byte, word_of}
use Rattle.hh_wire.specs.steps.RouteRows.{all_routes, params, pattern_of, row_of, rows}
use Rattle.hh_wire.specs.declared.router.Route.{Route}
use Rattle.hh_wire.specs.declared.router.Route.TheVariants as route
use Rattle.hh_wire.proofs.FoundFacts.{Among, Begins, begins_word, first_begins, is_byte}
use Rattle.hh_wire.proofs.SeekFacts.{finds_one, finds_one_of_both, finds_two, finds_two_of_both}

-- ---- a path of a route has that route
is_found : (way : Route) (path : List ℕ) → IsPathOf way path → first rows path ≡ Some (row_of way).1
is_found route.Files path (xs, ys, h, k, is) = ap (first rows) is ∙ finds_two (codes "/files/") rows refl (row_of route.Files).1 refl xs ys h k
is_found route.Runs path (xs, ys, h, k, is) = ap (first rows) is ∙ finds_two_of_both (codes "/runs/") rows refl (row_of route.Runs).1 (row_of route.RunsOfDate).1 refl xs ys h k
is_found route.Accounts path (xs, ys, h, k, is) = ap (first rows) is ∙ finds_two (codes "/accounts/") rows refl (row_of route.Accounts).1 refl xs ys h k
is_found route.Balances path (xs, h, is) = ap (first rows) is ∙ finds_one (codes "/balances/") rows refl (row_of route.Balances).1 refl xs h
is_found route.Contracts path (xs, ys, h, k, is) = ap (first rows) is ∙ finds_two (codes "/contracts/") rows refl (row_of route.Contracts).1 refl xs ys h k
is_found route.RunsOfDate path (xs, h, is) = ap (first rows) is ∙ finds_one_of_both (codes "/runs/") rows refl (row_of route.Runs).1 (row_of route.RunsOfDate).1 refl xs h

-- ---- a path that is found begins with its route's word
word_bytes : (way : Route) → list_all is_byte (word_of way) ≡ true
word_bytes route.Files = refl
word_bytes route.Runs = refl
word_bytes route.Accounts = refl
word_bytes route.Balances = refl
word_bytes route.Contracts = refl
word_bytes route.RunsOfDate = refl

way_among : (ways : List Route) (t : List ℕ) (k : RouteOf Route) → Among t k (map row_of ways) → (way : Route) × (pattern_of way ≡ t) × ((row_of way).1 ≡ k)
way_among [] t k a = absurd a
way_among (way ∷ ways) t k (inl (same, key)) = (way, same, key)
way_among (way ∷ ways) t k (inr more) = way_among ways t k more

begins_found : (path : List ℕ) (k : RouteOf Route) → first rows path ≡ Some k → BeginsWith k.value path
begins_found path k e =
    let (t, among, begun) = first_begins rows path k e in
    let (way, same, key) = way_among all_routes t k among in
    let begins : Begins (pattern_of way) path = subst (λ (u : List ℕ). Begins u path) (sym same) begun in
    subst (λ (x : RouteOf Route). BeginsWith x.value path) key (begins_word (word_of way) (params (has_two way)) path (word_bytes way) begins)

-- ---- the paths of routes are ASCII
abbrev is_below : ℕ → Bool
is_below b = nat_lt b 128

below : (b : ℕ) → is_below b ≡ true → b < 128
below b h = grind (arith, nat_tests)

part_below : (xs : List ℕ) → list_all is_part_byte xs ≡ true → list_all is_below xs ≡ true
part_below [] h = refl
part_below (b ∷ xs) h =
    let parts = and_parts (is_part_byte b) (list_all is_part_byte xs) h in
    and_from _ _ (and_parts (is_below b) _ parts.0).0 (part_below xs parts.1)

bytes_of : (part : List ℕ) → is_part part ≡ true → list_all is_below part ≡ true
bytes_of part h = part_below part (and_parts (nat_lt 0 (length part)) (list_all is_part_byte part) h).1

joined_below : (xs ys : List ℕ) → list_all is_below xs ≡ true → list_all is_below ys ≡ true → list_all is_below (xs ++ ys) ≡ true
joined_below xs ys h k = list_all-append is_below xs ys ∙ and_from _ _ h k

word_below : (way : Route) → list_all is_below (word_of way) ≡ true
word_below route.Files = refl
word_below route.Runs = refl
word_below route.Accounts = refl
word_below route.Balances = refl
word_below route.Contracts = refl
word_below route.RunsOfDate = refl

parts_below : (two : Bool) (word path : List ℕ) → list_all is_below word ≡ true → HasParts two word path → list_all is_below path ≡ true
parts_below false word path below (part, h, is) = ap (list_all is_below) is ∙ joined_below word part below (bytes_of part h)
parts_below true word path below (xs, ys, h, k, is) =
    ap (list_all is_below) is ∙ joined_below word (xs ++ 47 ∷ ys) below (joined_below xs (47 ∷ ys) (bytes_of xs h) (bytes_of ys k))

is_text : (way : Route) (path : List ℕ) → IsPathOf way path → IsUtf8 path
is_text way path is = IsUtf8-from_ascii path (all_ascii is_below below path (parts_below (has_two way) (word_of way) path (word_below way) is))

-- ---- what follows from the answers of the router
pub no_text : (path : List ℕ) → ¬ (IsUtf8 path) → (way : Route) → IsPathOf way path → None ≡ Some way
no_text path not_text way is = absurd (not_text (is_text way path is))

module _ (known : RowsOf (RouteOf Route)) (path target : List ℕ) (rows_are : known ≡ rows) (path_is : path ≡ target) where
  same_found : (k : Option (RouteOf Route)) → first known path ≡ k → first rows target ≡ k
  same_found k e = sym (λ i. first (rows_are i) (path_is i)) ∙ e

  pub not_found : first known path ≡ None → (way : Route) → IsPathOf way target → None ≡ Some way
  not_found e way is = absurd (none-some _ (sym (same_found None e) ∙ is_found way target is))

  pub found_known : (k : RouteOf Route) → first known path ≡ Some k → (way : Route) → IsPathOf way target → Some k.value ≡ Some way
  found_known k e way is = ap (λ (x : RouteOf Route). Some x.value) (same_Some _ _ (sym (same_found (Some k) e) ∙ is_found way target is))

  pub found_begins : (k : RouteOf Route) → first known path ≡ Some k → BeginsWith k.value target
  found_begins k e = begins_found target k (same_found (Some k) e)
