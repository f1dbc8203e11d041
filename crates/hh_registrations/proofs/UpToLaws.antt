-- The last of a unit's registrations that begins on a date or before is the last of all up to that unit and date, if it is one of the
-- unit's.
use Rattle.std.proofs.Common.{◌≡◌, ◌<◌, ◌≤◌, ℕ, List, [], ◌∷◌, Bool, true, false, cond, refl, sym, ap, ◌∙◌, Option, Some, None, Ordering, arith}
use Rattle.std.proofs.Common.{inl, inr}
use Rattle.std.proofs.Common.{rules}
use Rattle.std.specs.Cmp.Rules.{comparing}
use Rattle.std.specs.Prelude.{◌⊎◌, ◌==◌, nat_eq, nat_le, nat_lt, filter, ◌&&◌, T}
use Rattle.std.specs.Cmp.Lexicographic.{pointwise}
use Rattle.std.specs.Cmp.{Equal-is, upto}
use Rattle.std.specs.FinMap.{is_sorted}
use Rattle.std.specs.FinMap.Entries.{below_all}
use Rattle.std.specs.Ordering.{eq_by_cmp, is_eq, is_gt, is_le, is_lt, nat_cmp, ordering_reverse, ordering_then}
use Rattle.std.specs.declared.cmp.Ordering.TheVariants.{Less, Equal, Greater}
use Rattle.std.proofs.lemmas.Bool.{and_parts, eqb-false, eqb-true, le-leb, leb-true, ltb-false, ltb-true}
use Rattle.std.proofs.lemmas.Map.Lookups.{exact_bytes}
use Rattle.hh_tables.specs.Ends.{last_of, last_up_to}
use Rattle.hh_tables.specs.Tables.{IsTable}
use Rattle.hh_tables.proofs.LastLaws.{last_of-cons, last_of_more, last_passes}
use Rattle.hh_tables.proofs.MergeLaws.{from_true}
use Rattle.hh_tables.proofs.RowLaws.{first, less, second}
use Rattle.hh_tables.proofs.TableLaws.{false_is_not_true}
use Rattle.hh_names.specs.Accounts.{bytes_cmp}
use Rattle.hh_names.proofs.AccountLaws.{bytes_total}
use Rattle.hh_rows.specs.Keys.{lead_key_cmp}
use Rattle.hh_rows.specs.declared.keys.LeadKey.{LeadKey}
use Rattle.hh_rows.proofs.KeyLaws.{lead_key_total}
use Rattle.hh_registrations.specs.Registrations.{Lead, Leads, is_begun, is_of_unit, last_begun}
use Rattle.hh_registrations.proofs.KeyLaws.{at}

-- equal ids are those of which neither comes first
same_units : (a b : List ℕ) → pointwise nat_eq a b ≡ eq_by_cmp bytes_cmp a b
same_units a b = search (comparing, rules)

pub one_unit : (a b : List ℕ) → eq_by_cmp bytes_cmp a b ≡ true → a ≡ b
one_unit a b same = exact_bytes a b ((Equal-is (bytes_cmp a b)).0 same)

-- whether one number is another or below it, either way told
le_alike : (x y : ℕ) → is_le (nat_cmp x y) ≡ nat_le x y
le_alike x y = elim (nat_lt x y) as (λ b. nat_lt x y ≡ b → is_le (cond b Less (cond (x == y) Equal Greater)) ≡ nat_le x y) [
  | true ↦ λ is. (let below : x < y = ltb-true x y is in sym (le-leb x y (omega arith)))
  | false ↦ λ is. elim (x == y) as (λ c. (x == y) ≡ c → is_le (cond c Equal Greater) ≡ nat_le x y) [
    | true ↦ λ same. (let one : x ≡ y = eqb-true x y same in sym (le-leb x y (omega arith)))
    | false ↦ λ differ. elim (nat_le x y) as (λ d. nat_le x y ≡ d → false ≡ d) [
      | true ↦ λ low. (let a : x ≤ y = leb-true x y low in let b : y ≤ x = ltb-false x y is in let c : x ≡ y → ⊥ = eqb-false x y differ in absurd (omega arith))
      | false ↦ λ high. refl
    ] refl
  ] refl
] refl

not_above_first : (a b : Ordering) → is_le (ordering_then a b) ≡ true → is_eq a ≡ false → is_lt a ≡ true
not_above_first Less b h apart = refl
not_above_first Equal b h apart = cc
not_above_first Greater b h apart = cc

not_greater : (a b : Ordering) → ordering_then a b ≡ Less → is_lt (ordering_reverse a) ≡ false
not_greater Less b h = refl
not_greater Equal b h = refl
not_greater Greater b h = cc

of_tied : (a b : Ordering) → is_eq a ≡ true → is_le (ordering_then a b) ≡ is_le b
of_tied Less b tied = cc
of_tied Equal b tied = refl
of_tied Greater b tied = cc

gt_from_le : (r : Ordering) → is_le r ≡ true → is_gt r ≡ false
gt_from_le Less h = refl
gt_from_le Equal h = refl
gt_from_le Greater h = cc

le_from_gt : (r : Ordering) → is_gt r ≡ false → is_le r ≡ true
le_from_gt Less h = refl
le_from_gt Equal h = refl
le_from_gt Greater h = cc

some_last : {X : Type 0} (y : X) (ys : List X) → last_of (y ∷ ys) ≡ None → ⊥
some_last y [] none = cc
some_last y (z ∷ ys) none = some_last z ys none

-- where a test holds of what another holds of, none passes it where none passes that
none_of_fewer : {X : Type 0} (p q : X → Bool) → ((x : X) → p x ≡ true → q x ≡ true) → (xs : List X) → filter q xs ≡ [] → filter p xs ≡ []
none_of_fewer p q follows [] none = refl
none_of_fewer p q follows (x ∷ xs) none =
    elim (q x) as (λ b. q x ≡ b → cond b (x ∷ filter q xs) (filter q xs) ≡ [] → cond (p x) (x ∷ filter p xs) (filter p xs) ≡ []) [
      | true ↦ λ is none. cc
      | false ↦ λ is none. elim (p x) as (λ c. p x ≡ c → cond c (x ∷ filter p xs) (filter p xs) ≡ []) [
        | true ↦ λ own. absurd (false_is_not_true (sym is ∙ follows x own))
        | false ↦ λ off. none_of_fewer p q follows xs none
      ] refl
    ] refl none

module _ (unit : List ℕ) (date : ℕ) where
  -- whether a registration is up to that of the unit on the date
  abbrev is_up_to : Lead → Bool
  is_up_to e = is_le (lead_key_cmp e.0 (at unit date))

  abbrev is_begun_then : Lead → Bool
  is_begun_then e = is_begun unit date e.0

  begun_up_to : (e : Lead) → is_begun_then e ≡ true → is_up_to e ≡ true
  begun_up_to e begun =
      let parts = and_parts (is_of_unit unit e.0) (nat_le e.0.from date) begun in
      of_tied (bytes_cmp e.0.unit unit) (nat_cmp e.0.from date) parts.0 ∙ le_alike e.0.from date ∙ parts.1

  -- of those up to it the begun ones are the unit's
  begun_is_of : (e : Lead) → is_up_to e ≡ true → is_begun_then e ≡ is_of_unit unit e.0
  begun_is_of e up_to =
      elim (is_of_unit unit e.0) as (λ b. is_of_unit unit e.0 ≡ b → (b && nat_le e.0.from date) ≡ b) [
        | true ↦ λ own. sym (le_alike e.0.from date) ∙ sym (of_tied (bytes_cmp e.0.unit unit) (nat_cmp e.0.from date) own) ∙ up_to
        | false ↦ λ other. refl
      ] refl

  -- the last of them, if it is of the unit
  abbrev pub kept_of_unit : Option Lead → Option Lead
  kept_of_unit None = None
  kept_of_unit (Some e) = cond (is_of_unit unit e.0) (Some e) None

  none_above : (k : LeadKey) (es : Leads) → is_le (lead_key_cmp k (at unit date)) ≡ false → T (below_all lead_key_cmp k es) → filter is_up_to es ≡ []
  none_above k [] high below = refl
  none_above k (e ∷ es) high below =
      elim (is_up_to e) as (λ b. is_up_to e ≡ b → cond b (e ∷ filter is_up_to es) (filter is_up_to es) ≡ []) [
        | true ↦ λ is. absurd (false_is_not_true (sym high ∙ le_from_gt (lead_key_cmp k (at unit date))
            (upto lead_key_total k e.0 (at unit date) (ap is_gt (less (lead_key_cmp k e.0) (first _ _ below))) (gt_from_le (lead_key_cmp e.0 (at unit date)) is))))
        | false ↦ λ is. none_above k es high (second _ _ below)
      ] refl

  last_above : (k : LeadKey) (es : Leads) (z : Lead) → T (below_all lead_key_cmp k es) → last_of (filter is_up_to es) ≡ Some z → lead_key_cmp k z.0 ≡ Less
  last_above k [] z below is = cc
  last_above k (e ∷ es) z below is =
      elim (is_up_to e) as (λ b. last_of (cond b (e ∷ filter is_up_to es) (filter is_up_to es)) ≡ Some z → lead_key_cmp k z.0 ≡ Less) [
        | true ↦ λ is. by_cases (less (lead_key_cmp k e.0) (first _ _ below)) (last_above k es z (second _ _ below)) (last_of_more e z (filter is_up_to es) is)
        | false ↦ λ is. last_above k es z (second _ _ below) is
      ] is
    where
      by_cases : lead_key_cmp k e.0 ≡ Less → (last_of (filter is_up_to es) ≡ Some z → lead_key_cmp k z.0 ≡ Less) → (e ≡ z) ⊎ (last_of (filter is_up_to es) ≡ Some z) → lead_key_cmp k z.0 ≡ Less
      by_cases own further (inl same) = ap (λ (x : Lead). lead_key_cmp k x.0) (sym same) ∙ own
      by_cases own further (inr later) = further later

  -- what stands between two registrations of the unit is one
  between : (e z : Lead) → is_of_unit unit e.0 ≡ true → lead_key_cmp e.0 z.0 ≡ Less → is_up_to z ≡ true → is_of_unit unit z.0 ≡ false → ⊥
  between e z own below up_to other =
      let low : is_lt (bytes_cmp z.0.unit unit) ≡ true = not_above_first (bytes_cmp z.0.unit unit) (nat_cmp z.0.from date) up_to other in
      let high : is_lt (bytes_cmp z.0.unit e.0.unit) ≡ false = ap is_lt (bytes_total.antisymm z.0.unit e.0.unit) ∙ not_greater (bytes_cmp e.0.unit z.0.unit) (nat_cmp e.0.from z.0.from) below in
      false_is_not_true (sym high ∙ ap (λ u. is_lt (bytes_cmp z.0.unit u)) (one_unit e.0.unit unit own) ∙ low)

  pub begun_up_to_date : (es : Leads) → T (is_sorted lead_key_cmp es) → last_begun es unit date ≡ kept_of_unit (last_of (filter is_up_to es))
  begun_up_to_date [] rising = refl
  begun_up_to_date (e ∷ es) rising =
      let below : T (below_all lead_key_cmp e.0 es) = first _ _ rising in
      let others : Leads = filter is_begun_then es in
      let rest = begun_up_to_date es (second _ _ rising) in
      elim (is_up_to e) as (λ b. is_up_to e ≡ b → last_of (cond (is_begun_then e) (e ∷ others) others) ≡ kept_of_unit (last_of (cond b (e ∷ filter is_up_to es) (filter is_up_to es)))) [
        | false ↦ λ high.
            let none : filter is_up_to es ≡ [] = none_above e.0 es high below in
            let off : is_begun_then e ≡ false = elim (is_begun_then e) as (λ c. is_begun_then e ≡ c → c ≡ false) [ true ↦ λ begun. absurd (false_is_not_true (sym high ∙ begun_up_to e begun)) | false ↦ λ off. refl ] refl in
            ap (λ c. last_of (cond c (e ∷ others) others)) off ∙ rest
        | true ↦ λ up_to.
            elim (filter is_up_to es) as (λ ys. filter is_up_to es ≡ ys → last_of others ≡ kept_of_unit (last_of ys) → last_of (cond (is_begun_then e) (e ∷ others) others) ≡ kept_of_unit (last_of (e ∷ ys))) [
              | [] ↦ λ alone rest.
                  ap (λ xs. last_of (cond (is_begun_then e) (e ∷ xs) xs)) (none_of_fewer is_begun_then is_up_to begun_up_to es alone)
                  ∙ ap (λ c. last_of (cond c (e ∷ []) [])) (begun_is_of e up_to)
                  ∙ elim (is_of_unit unit e.0) as (λ c. last_of (cond c (e ∷ []) []) ≡ cond c (Some e) None) [ true ↦ refl | false ↦ refl ]
              | (y ∷ ys) ↦ λ is rest.
                  elim (last_of (y ∷ ys)) as (λ o. last_of (y ∷ ys) ≡ o → last_of others ≡ kept_of_unit o → last_of (cond (is_begun_then e) (e ∷ others) others) ≡ kept_of_unit o) [
                    | None ↦ λ none rest. absurd (some_last y ys none)
                    | Some z ↦ λ last rest. with_later e es below z (ap last_of is ∙ last) rest
                  ] refl rest
            ] refl rest
      ] refl
    where
      with_later : (e : Lead) (es : Leads) → T (below_all lead_key_cmp e.0 es) → (z : Lead) → last_of (filter is_up_to es) ≡ Some z → last_of (filter is_begun_then es) ≡ kept_of_unit (Some z)
          → last_of (cond (is_begun_then e) (e ∷ filter is_begun_then es) (filter is_begun_then es)) ≡ kept_of_unit (Some z)
      with_later e es below z last rest =
          elim (is_begun_then e) as (λ c. is_begun_then e ≡ c → last_of (cond c (e ∷ filter is_begun_then es) (filter is_begun_then es)) ≡ kept_of_unit (Some z)) [
            | false ↦ λ off. rest
            | true ↦ λ begun. elim (is_of_unit unit z.0) as (λ c. is_of_unit unit z.0 ≡ c → last_of (filter is_begun_then es) ≡ cond c (Some z) None → last_of (e ∷ filter is_begun_then es) ≡ cond c (Some z) None) [
              | true ↦ λ own rest. last_of-cons e (filter is_begun_then es) z rest
              | false ↦ λ other rest. absurd (between e z (and_parts (is_of_unit unit e.0) (nat_le e.0.from date) begun).0 (last_above e.0 es z below last) (last_passes is_up_to es z last) other)
            ] refl rest
          ] refl

-- what is found up to a unit and a date is the last that has begun, if it is one of the unit's
module _ (leads : Leads) (unit : List ℕ) (date : ℕ) (rising : IsTable lead_key_cmp leads) where
  found_is : (found : Option Lead) → found ≡ last_up_to lead_key_cmp (at unit date) leads → kept_of_unit unit date found ≡ last_begun leads unit date
  found_is found is = sym (begun_up_to_date unit date leads (from_true _ rising) ∙ ap (kept_of_unit unit date) (sym is))

  pub begun_none : None ≡ last_up_to lead_key_cmp (at unit date) leads → None ≡ last_begun leads unit date
  begun_none is = found_is None is

  pub begun_own : (e : Lead) → Some e ≡ last_up_to lead_key_cmp (at unit date) leads → pointwise nat_eq e.0.unit unit ≡ true → Some e ≡ last_begun leads unit date
  begun_own e is own = sym (ap (λ b. cond b (Some e) None) (sym (same_units e.0.unit unit) ∙ own)) ∙ found_is (Some e) is

  pub begun_other : (e : Lead) → Some e ≡ last_up_to lead_key_cmp (at unit date) leads → pointwise nat_eq e.0.unit unit ≡ false → None ≡ last_begun leads unit date
  begun_other e is off = sym (ap (λ b. cond b (Some e) None) (sym (same_units e.0.unit unit) ∙ off)) ∙ found_is (Some e) is
