-- Sums over a table with one more row, and without the row of a key.
use Rattle.std.proofs.Common.{◌≡◌, List, [], ◌∷◌, refl, ap, ◌∙◌, cond, Bool, true, false, Ordering, arith}
use Rattle.std.specs.Prelude.{ℤ, pos, ◌+ℤ◌, ◌≤ℤ◌, ◌&&◌, Option, Some, None, T}
use Rattle.std.specs.Cmp.{IsTotalOrder}
use Rattle.std.specs.FinMap.{find, put, is_sorted}
use Rattle.std.specs.FinMap.Entries.{by_order, below_all}
use Rattle.std.specs.List.{AllByRecursion}
use Rattle.std.specs.Ordering.{eq_by_cmp, is_eq, is_lt}
use Rattle.std.specs.declared.cmp.Ordering.TheVariants.{Less, Equal, Greater}
use Rattle.std.proofs.lemmas.Int.{ints}
use Rattle.hh_rows.specs.Totals.{total}

pub both_true : (a b : Bool) → T (a && b) → T a × T b
both_true true b h = (tt, h)
both_true false b h = absurd h

-- what a row adds to a sum, 0 if there is no row
abbrev pub part_of : {K V : Type 0} → (K × V → ℤ) → K → Option V → ℤ
part_of f k None = pos 0
part_of f k (Some v) = f (k, v)

module _ {K V : Type 0} {R : K → K → Ordering} (o : IsTotalOrder R) (k : K) where
  -- a key below all keys above x is not found above x
  find_above : (x : K) → ((y : K) → R x y ≡ Less → R k y ≡ Less) → (es : List (K × V)) → T (below_all R x es) → find R k es ≡ None
  find_above x below [] h = refl
  find_above x below (e ∷ es) h = elim (R x e.0) as (λ r. R x e.0 ≡ r → T (is_lt r && below_all R x es) → cond (eq_by_cmp R k e.0) (Some e.1) (find R k es) ≡ None) [
    | Less ↦ λ is rest. ap (λ r. cond (is_eq r) (Some e.1) (find R k es)) (below e.0 is) ∙ find_above x below es rest
    | Equal ↦ λ is rest. absurd rest
    | Greater ↦ λ is rest. absurd rest
  ] refl h

  -- the sum after a row replaces the row of its key
  pub total-put-part : (f : K × V → ℤ) → ((x : K) (w : V) → R k x ≡ Equal → f (x, w) ≡ f (k, w)) → (v : V) (es : List (K × V)) → T (is_sorted R es)
      → total f (put R k v es) +ℤ part_of f k (find R k es) ≡ total f es +ℤ f (k, v)
  total-put-part f alike v [] h = omega (arith, ints)
  total-put-part f alike v (e ∷ es) h =
      let halves = both_true (below_all R e.0 es) (is_sorted R es) h in
      elim (R k e.0) as (λ r. R k e.0 ≡ r
      → total f (by_order r ((k, v) ∷ e ∷ es) ((e.0, v) ∷ es) (e ∷ put R k v es)) +ℤ part_of f k (cond (is_eq r) (Some e.1) (find R k es)) ≡ (f e +ℤ total f es) +ℤ f (k, v)) [
        | Less ↦ λ is. ap (λ w. (f (k, v) +ℤ (f e +ℤ total f es)) +ℤ part_of f k w) (find_above e.0 (λ y less. o.trans k e.0 y is less) es halves.0) ∙ (omega (arith, ints))
        | Equal ↦ λ is. let a = alike e.0 v is in let b = alike e.0 e.1 is in omega (arith, ints)
        | Greater ↦ λ is. let more = total-put-part f alike v es halves.1 in omega (arith, ints)
      ] refl

  -- the rows of other keys
  pub total-others : (f g : K × V → ℤ) → ((x : K) (w : V) → R k x ≡ Equal → g (x, w) ≡ pos 0) → ((x : K) (w : V) → eq_by_cmp R k x ≡ false → g (x, w) ≡ f (x, w))
      → ((x : K) (w : V) → R k x ≡ Equal → f (x, w) ≡ f (k, w)) → (es : List (K × V)) → T (is_sorted R es)
      → total g es +ℤ part_of f k (find R k es) ≡ total f es
  total-others f g none same alike [] h = omega (arith, ints)
  total-others f g none same alike (e ∷ es) h =
      let halves = both_true (below_all R e.0 es) (is_sorted R es) h in
      let rest = total-others f g none same alike es halves.1 in
      elim (R k e.0) as (λ r. R k e.0 ≡ r → (g e +ℤ total g es) +ℤ part_of f k (cond (is_eq r) (Some e.1) (find R k es)) ≡ f e +ℤ total f es) [
        | Less ↦ λ is. let a = same e.0 e.1 (ap is_eq is) in omega (arith, ints)
        | Equal ↦ λ is.
            let a = none e.0 e.1 is in
            let b = alike e.0 e.1 is in
            let here : part_of f k (find R k es) ≡ pos 0 = ap (part_of f k) (find_above e.0 (λ y less. o.congr k e.0 y is ∙ less) es halves.0) in
            omega (arith, ints)
        | Greater ↦ λ is. let a = same e.0 e.1 (ap is_eq is) in omega (arith, ints)
      ] refl

  pub all-put : (P : V → Type 0) (v : V) (es : List (K × V)) → P v → AllByRecursion (λ e. P e.1) es → AllByRecursion (λ e. P e.1) (put R k v es)
  all-put P v [] here all = (here, tt)
  all-put P v (e ∷ es) here all = elim (R k e.0) as (λ r. AllByRecursion (λ x. P x.1) (by_order r ((k, v) ∷ e ∷ es) ((e.0, v) ∷ es) (e ∷ put R k v es))) [
    | Less ↦ (here, all)
    | Equal ↦ (here, all.1)
    | Greater ↦ (all.0, all-put P v es here all.1)
  ]

-- a sum over some of the rows, if no row is negative
pub total-some : {K V : Type 0} (amount : V → ℤ) (test : K → Bool) (es : List (K × V)) → AllByRecursion (λ e. pos 0 ≤ℤ amount e.1) es
    → pos 0 ≤ℤ total (λ e. cond (test e.0) (amount e.1) (pos 0)) es
total-some amount test [] all = omega (arith, ints)
total-some amount test (e ∷ es) all =
    let rest = total-some amount test es all.1 in
    elim (test e.0) as (λ b. pos 0 ≤ℤ (cond b (amount e.1) (pos 0) +ℤ total (λ x. cond (test x.0) (amount x.1) (pos 0)) es)) [
      | true ↦ let head = all.0 in omega (arith, ints)
      | false ↦ omega (arith, ints)
    ]
