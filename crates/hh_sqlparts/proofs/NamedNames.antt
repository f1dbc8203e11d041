-- Names that rows name are put into a set, one after the other.
use Rattle.std.proofs.Common.{◌≡◌, ℕ, ◌+◌, ◌<◌, List, length, take, get_or, true, false, cond, refl, sym, subst, ◌∙◌, Option, Some, None, Ordering}
use Rattle.std.specs.BTreeMap.{is_at}
use Rattle.std.specs.BTreeSet.{BTreeSet, Updates, contains}
use Rattle.std.specs.List.{All, list_any}
use Rattle.std.specs.Option.{IfSome}
use Rattle.std.proofs.lemmas.List.Elements.{All-more, All-weaker}
use Rattle.hh_rows.specs.declared.rows.Row.{Row}
use Rattle.hh_sqlparts.specs.steps.Named.{IsAmong}

-- one more row: the set has what it had, and what the row names
module _ {N : Type 0} (R : N → N → Ordering) (name : Row → Option N) where
  still_among : (old new : BTreeSet N) → ((n : N) → contains R old n ≡ true → contains R new n ≡ true) → (r : Row) → IsAmong R name old.keys r → IsAmong R name new.keys r
  still_among old new more r among = elim (name r) as (λ o. IfSome o (λ n. contains R old n ≡ true) → IfSome o (λ n. contains R new n ≡ true)) [
    | None ↦ λ h. h
    | Some n ↦ λ h. more n h
  ] among

  pub kept_by_update : (old new : BTreeSet N) (n : N) → Updates R old new n true → (q : N) → contains R old q ≡ true → contains R new q ≡ true
  kept_by_update old new n updates q h = updates.0 q ∙ elim (is_at (R n) q) as (λ b. cond b true (contains R old q) ≡ true) [ true ↦ refl | false ↦ h ]

  pub among_more : (rows : List Row) (i : ℕ) (r : Row) → i < length rows → r ≡ get_or rows i r → (old new : BTreeSet N) → All (IsAmong R name old.keys) (take i rows)
      → ((n : N) → contains R old n ≡ true → contains R new n ≡ true) → IsAmong R name new.keys r → All (IsAmong R name new.keys) (take (i + 1) rows)
  among_more rows i r inside is old new so_far more own =
      All-more (IsAmong R name new.keys) rows i r inside
      (All-weaker (IsAmong R name old.keys) (IsAmong R name new.keys) (still_among old new more) (take i rows) so_far)
      (subst (IsAmong R name new.keys) is own)

  pub names_this : (r : Row) (n : N) (keys : List N) → name r ≡ Some n → list_any (is_at (R n)) keys ≡ true → IsAmong R name keys r
  names_this r n keys is among = subst (λ o. IfSome o (λ m. list_any (is_at (R m)) keys ≡ true)) (sym is) among

  pub names_nothing : (r : Row) (keys : List N) → name r ≡ None → IsAmong R name keys r
  names_nothing r keys is = subst (λ o. IfSome o (λ m. list_any (is_at (R m)) keys ≡ true)) (sym is) tt
