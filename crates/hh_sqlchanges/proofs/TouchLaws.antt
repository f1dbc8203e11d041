-- The Settlement Periods that rows touch are put into a set, one after the other.
use Rattle.std.proofs.Common.{◌≡◌, ◌∙◌, ℕ, ◌+◌, ◌<◌, List, [], ◌∷◌, ◌++◌, Bool, true, false, length, take, get_or, refl, sym, ap, subst, Some, None, append_assoc}
use Rattle.std.specs.Prelude.{◌||◌, filter_map}
use Rattle.std.specs.BTreeSet.{insert_key}
use Rattle.std.specs.Ordering.{match_ordering}
use Rattle.std.specs.List.{cons_option}
use Rattle.std.specs.Ordering.{eq_by_cmp}
use Rattle.std.specs.declared.cmp.Ordering.TheVariants.{Less, Equal, Greater}
use Rattle.std.proofs.lemmas.List.{append-nil}
use Rattle.std.proofs.lemmas.List.Elements.{filter_map-append}
use Rattle.hh_rows.specs.Keys.{settlement_period_cmp}
use Rattle.hh_rows.specs.declared.rows.Row.{Row}
use Rattle.hh_rows.specs.declared.settlement_period.SettlementPeriod.{SettlementPeriod}
use Rattle.hh_rows.proofs.KeyLaws.{exact_settlement_periods}
use Rattle.hh_states.specs.Beside.{is_among}
use Rattle.hh_beside.specs.DayLaws.{HaveTheSame}
use Rattle.hh_beside.specs.Keeping.{touched_by}
use Rattle.hh_beside.proofs.AgreeLaws.{among_both}
use Rattle.hh_sqlrows.proofs.ManyLaws.{take_next}
use Rattle.hh_sqlchanges.proofs.BesideLaws.{or_swap, or_twice}

among_insert : (at p : SettlementPeriod) (ks : List SettlementPeriod)
    → is_among (insert_key settlement_period_cmp ks p) at ≡ (eq_by_cmp settlement_period_cmp p at || is_among ks at)
among_insert at p [] = refl
among_insert at p (k ∷ ks) =
    let there : Bool = is_among ks at in
    elim (settlement_period_cmp p k) as (λ o. settlement_period_cmp p k ≡ o
    → is_among (match_ordering o (p ∷ k ∷ ks) (k ∷ ks) (k ∷ insert_key settlement_period_cmp ks p)) at
    ≡ (eq_by_cmp settlement_period_cmp p at || (eq_by_cmp settlement_period_cmp k at || there))) [
      | Less ↦ λ is. refl
      | Equal ↦ λ is. subst (λ q. (eq_by_cmp settlement_period_cmp q at || there) ≡ (eq_by_cmp settlement_period_cmp p at || (eq_by_cmp settlement_period_cmp q at || there)))
          (exact_settlement_periods p k is) (or_twice (eq_by_cmp settlement_period_cmp p at) there)
      | Greater ↦ λ is. ap (λ b. eq_by_cmp settlement_period_cmp k at || b) (among_insert at p ks) ∙ or_swap (eq_by_cmp settlement_period_cmp k at) (eq_by_cmp settlement_period_cmp p at) there
    ] refl

or_last : (p q : Bool) → (p || q) ≡ (q || (p || false))
or_last true true = refl
or_last true false = refl
or_last false true = refl
or_last false false = refl

-- what one more row touches
touched_next : (rows : List Row) (i : ℕ) (r : Row) → i < length rows → r ≡ get_or rows i r
    → filter_map touched_by (take (i + 1) rows) ≡ filter_map touched_by (take i rows) ++ cons_option (touched_by r) []
touched_next rows i r inside is = ap (filter_map touched_by) (take_next rows i r inside is) ∙ filter_map-append touched_by (take i rows) (r ∷ [])

-- with one period more, a set has the same as the list with the period behind
pub same_with_one : (ps : List SettlementPeriod) (at : SettlementPeriod) (keys : List SettlementPeriod) → HaveTheSame keys ps → HaveTheSame (insert_key settlement_period_cmp keys at) (ps ++ at ∷ [])
same_with_one ps at keys so_far q =
    among_insert q at keys
    ∙ ap (λ b. eq_by_cmp settlement_period_cmp at q || b) (so_far q)
    ∙ or_last (eq_by_cmp settlement_period_cmp at q) (is_among ps q)
    ∙ sym (among_both ps (at ∷ []) q)

module _ (more : List SettlementPeriod) (rows : List Row) (i : ℕ) (r : Row) (keys : List SettlementPeriod) (inside : i < length rows) (is : r ≡ get_or rows i r)
    (so_far : HaveTheSame keys (more ++ filter_map touched_by (take i rows))) where
  -- what one more row touches, behind what was touched
  touched_behind : (more ++ filter_map touched_by (take i rows)) ++ cons_option (touched_by r) [] ≡ more ++ filter_map touched_by (take (i + 1) rows)
  touched_behind = append_assoc more (filter_map touched_by (take i rows)) (cons_option (touched_by r) []) ∙ ap (λ ps. more ++ ps) (sym (touched_next rows i r inside is))

  pub touches : (at : SettlementPeriod) → touched_by r ≡ Some at → HaveTheSame (insert_key settlement_period_cmp keys at) (more ++ filter_map touched_by (take (i + 1) rows))
  touches at some q =
      same_with_one (more ++ filter_map touched_by (take i rows)) at keys so_far q
      ∙ ap (λ ps. is_among ps q) (ap (λ o. (more ++ filter_map touched_by (take i rows)) ++ cons_option o []) (sym some) ∙ touched_behind)

  pub touches_none : touched_by r ≡ None → HaveTheSame keys (more ++ filter_map touched_by (take (i + 1) rows))
  touches_none none q =
      so_far q
      ∙ ap (λ ps. is_among ps q) (sym (append-nil (more ++ filter_map touched_by (take i rows)))
      ∙ ap (λ o. (more ++ filter_map touched_by (take i rows)) ++ cons_option o []) (sym none) ∙ touched_behind)

-- one more of a list of periods
pub set_more : (ps : List SettlementPeriod) (i : ℕ) (at : SettlementPeriod) (keys : List SettlementPeriod) → i < length ps → at ≡ get_or ps i at → HaveTheSame keys (take i ps)
    → HaveTheSame (insert_key settlement_period_cmp keys at) (take (i + 1) ps)
set_more ps i at keys inside is so_far q = same_with_one (take i ps) at keys so_far q ∙ ap (λ qs. is_among qs q) (sym (take_next ps i at inside is))
