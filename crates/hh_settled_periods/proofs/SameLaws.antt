-- What is found by going through what is kept beside the rows of a date: whether a Settlement Period was touched, and the run's rows.
use Rattle.std.proofs.Common.{◌≡◌, ℕ, zero, suc, ◌+◌, ◌<◌, List, [], ◌∷◌, ◌++◌, map, length, take, get_or, refl, sym, ap, ◌∙◌, true, false, arith}
use Rattle.std.specs.Prelude.{◌||◌}
use Rattle.std.specs.Ordering.{eq_by_cmp}
use Rattle.std.proofs.lemmas.Bool.{or_right}
use Rattle.std.proofs.lemmas.List.{map-append, take_more}
use Rattle.hh_rows.specs.Keys.{settlement_period_cmp}
use Rattle.hh_rows.specs.declared.settlement_period.SettlementPeriod.{SettlementPeriod}
use Rattle.hh_states.specs.Beside.{is_among}

module _ (at : SettlementPeriod) where
  among-append : (ps qs : List SettlementPeriod) → is_among (ps ++ qs) at ≡ (is_among ps at || is_among qs at)
  among-append [] qs = refl
  among-append (p ∷ ps) qs = elim (eq_by_cmp settlement_period_cmp p at) as (λ b. (b || is_among (ps ++ qs) at) ≡ ((b || is_among ps at) || is_among qs at)) [
    | true ↦ refl
    | false ↦ among-append ps qs
  ]

  -- it is not among the periods so far, and is not the next
  pub not_yet_among : (ps : List SettlementPeriod) (i : ℕ) (p : SettlementPeriod) → i < length ps → p ≡ get_or ps i p → is_among (take i ps) at ≡ false
      → eq_by_cmp settlement_period_cmp p at ≡ false → is_among (take (i + 1) ps) at ≡ false
  not_yet_among ps i p inside is so_far other =
      ap (λ l. is_among l at) (take_more ps i p inside ∙ ap (λ q. take i ps ++ q ∷ []) (sym is))
      ∙ among-append (take i ps) (p ∷ [])
      ∙ (λ j. so_far j || (other j || false))

  -- it is the next
  pub now_among : (ps : List SettlementPeriod) (i : ℕ) (p : SettlementPeriod) → i < length ps → p ≡ get_or ps i p → eq_by_cmp settlement_period_cmp p at ≡ true → is_among ps at ≡ true
  now_among [] i p inside is same = absurd (nothing_below i inside)
    where
      nothing_below : (i : ℕ) → i < 0 → ⊥
      nothing_below i h = omega (arith, h)
  now_among (q ∷ ps) zero p inside is same = ap (λ b. b || is_among ps at) (ap (λ r. eq_by_cmp settlement_period_cmp r at) (sym is) ∙ same)
  now_among (q ∷ ps) (suc i) p inside is same = or_right (eq_by_cmp settlement_period_cmp q at) (is_among ps at) (now_among ps i p (omega (arith, inside)) is same)

-- one more element of a mapped list
pub mapped_more : {X Y : Type 0} (f : X → Y) (xs : List X) (ys : List Y) (i : ℕ) (x : X) (y : Y) → i < length xs → x ≡ get_or xs i x → i < length ys → y ≡ get_or ys i y → f x ≡ y
    → map f (take i xs) ≡ take i ys → map f (take (i + 1) xs) ≡ take (i + 1) ys
mapped_more f xs ys i x y inside is inside' is' same so_far =
    ap (map f) (take_more xs i x inside ∙ ap (λ z. take i xs ++ z ∷ []) (sym is))
    ∙ map-append f (take i xs) (x ∷ [])
    ∙ (λ j. so_far j ++ same j ∷ [])
    ∙ sym (take_more ys i y inside' ∙ ap (λ z. take i ys ++ z ∷ []) (sym is'))
