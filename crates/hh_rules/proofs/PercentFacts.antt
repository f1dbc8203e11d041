-- The percentages of a unit in a Settlement Period, with and without those of an account.
use Rattle.std.proofs.Common.{◌≡◌, refl, sym, ap, subst, ◌∙◌, cond, Bool, true, false, arith}
use Rattle.std.specs.Prelude.{ℤ, pos, ◌+ℤ◌, ◌≤ℤ◌, ◌&&◌, not, Option, Some, None, Result, Ok, Err, OnOk, OnErr, T, unwrap_or}
use Rattle.std.specs.Cmp.{eq_by_cmp_equiv}
use Rattle.std.specs.FinMap.{find, put, is_sorted}
use Rattle.std.specs.FinMap.Entries.{find-put, is_sorted-put}
use Rattle.std.specs.Ordering.{eq_by_cmp, is_eq, ordering_then}
use Rattle.std.specs.declared.cmp.Ordering.{Ordering}
use Rattle.std.specs.declared.cmp.Ordering.TheVariants.{Less, Equal, Greater}
use Rattle.std.proofs.lemmas.Int.{ints}
use Rattle.hh_tables.specs.Tables.{Table, IsTable}
use Rattle.hh_tables.proofs.FilterLaws.{rising_of}
use Rattle.hh_names.specs.Accounts.{account_cmp, is_same_account}
use Rattle.hh_names.proofs.AccountLaws.{account_total}
use Rattle.hh_rows.specs.Keys.{unit_period_cmp, reallocation_key_cmp}
use Rattle.hh_rows.proofs.KeyLaws.{unit_period_total, reallocation_key_total}
use Rattle.hh_rows.specs.declared.keys.UnitPeriod.{UnitPeriod}
use Rattle.hh_rows.specs.declared.keys.ReallocationKey.{ReallocationKey}
use Rattle.hh_rows.proofs.TotalLaws.{total-same}
use Rattle.hh_names.specs.declared.values.Reallocation.{Reallocation}
use Rattle.hh_rules.specs.Percents.{SumsPercents, is_of_other, percent_at, percent_of_others}
use Rattle.hh_rules.specs.steps.Percents.{percent_in}
use Rattle.hh_rules.proofs.SumFacts.{part_of, total-put-part, total-others, total-some, all-put}

abbrev same_unit_period : UnitPeriod → UnitPeriod → Bool
same_unit_period = eq_by_cmp unit_period_cmp

abbrev percent_if : UnitPeriod → ReallocationKey × Reallocation → ℤ
percent_if at e = cond (same_unit_period e.0.unit_period at) e.1.percent (pos 0)

tied_parts : (a b : Ordering) → ordering_then a b ≡ Equal → (a ≡ Equal) × (b ≡ Equal)
tied_parts Less b e = cc
tied_parts Equal b e = (refl, e)
tied_parts Greater b e = cc

apart_parts : (a b : Ordering) → is_eq (ordering_then a b) ≡ false → (is_eq a && not (is_eq b)) ≡ is_eq a
apart_parts Less b e = refl
apart_parts Equal b e = ap not e
apart_parts Greater b e = refl

module _ (key : ReallocationKey) where
  none_of_tied : (x : ReallocationKey) (w : Reallocation) → reallocation_key_cmp key x ≡ Equal → cond (is_of_other key x) w.percent (pos 0) ≡ pos 0
  none_of_tied x w tied =
      let parts = tied_parts (unit_period_cmp key.unit_period x.unit_period) (account_cmp key.account x.account) tied in
      ap (λ b. cond (b && not (is_same_account x.account key.account)) w.percent (pos 0)) ((eq_by_cmp_equiv unit_period_total).symm x.unit_period key.unit_period ∙ ap is_eq parts.0)
      ∙ ap (λ b. cond (not b) w.percent (pos 0)) ((eq_by_cmp_equiv account_total).symm x.account key.account ∙ ap is_eq parts.1)

  same_of_apart : (x : ReallocationKey) (w : Reallocation) → eq_by_cmp reallocation_key_cmp key x ≡ false → cond (is_of_other key x) w.percent (pos 0) ≡ percent_if key.unit_period (x, w)
  same_of_apart x w apart =
      let turn = (eq_by_cmp_equiv unit_period_total).symm x.unit_period key.unit_period in
      ap (λ b. cond (b && not (is_same_account x.account key.account)) w.percent (pos 0)) turn
      ∙ ap (λ b. cond (same_unit_period key.unit_period x.unit_period && not b) w.percent (pos 0)) ((eq_by_cmp_equiv account_total).symm x.account key.account)
      ∙ ap (λ b. cond b w.percent (pos 0)) (apart_parts (unit_period_cmp key.unit_period x.unit_period) (account_cmp key.account x.account) apart ∙ sym turn)

  alike : (at : UnitPeriod) (x : ReallocationKey) (w : Reallocation) → reallocation_key_cmp key x ≡ Equal → percent_if at (x, w) ≡ percent_if at (key, w)
  alike at x w tied =
      let parts = tied_parts (unit_period_cmp key.unit_period x.unit_period) (account_cmp key.account x.account) tied in
      ap (λ b. cond b w.percent (pos 0)) (sym ((eq_by_cmp_equiv unit_period_total).congr key.unit_period x.unit_period at (ap is_eq parts.0)))

  own_part : (o : Option Reallocation) → part_of (percent_if key.unit_period) key o ≡ percent_in o
  own_part None = refl
  own_part (Some w) = ap (λ b. cond b w.percent (pos 0)) ((eq_by_cmp_equiv unit_period_total).refl key.unit_period)

  no_part : (at : UnitPeriod) → same_unit_period key.unit_period at ≡ false → (o : Option Reallocation) → part_of (percent_if at) key o ≡ pos 0
  no_part at apart None = refl
  no_part at apart (Some w) = ap (λ b. cond b w.percent (pos 0)) apart

  sorted : (es : Table ReallocationKey Reallocation) → IsTable reallocation_key_cmp es → T (is_sorted reallocation_key_cmp es)
  sorted es h = subst T (sym h) tt

  -- the percentages of other accounts and of the key's account make up the unit's
  others_and_own : (es : Table ReallocationKey Reallocation) → IsTable reallocation_key_cmp es
      → percent_of_others key es +ℤ percent_in (find reallocation_key_cmp key es) ≡ percent_at es key.unit_period
  others_and_own es h =
      ap (λ z. percent_of_others key es +ℤ z) (sym (own_part (find reallocation_key_cmp key es)))
      ∙ total-others reallocation_key_total key (percent_if key.unit_period) (λ e. cond (is_of_other key e.0) e.1.percent (pos 0)) none_of_tied same_of_apart (alike key.unit_period) es (sorted es h)

  -- so those of other accounts are the unit's, from the table of percentages, less the account's own
  pub others_from : (ps : Table UnitPeriod ℤ) (es : Table ReallocationKey Reallocation) → IsTable reallocation_key_cmp es → SumsPercents ps es
      → (percent : Option ℤ) (own : Option Reallocation) (all part : ℤ)
      → percent ≡ find unit_period_cmp key.unit_period ps → own ≡ find reallocation_key_cmp key es
      → all ≡ unwrap_or percent (pos 0) → part ≡ percent_in own → percent_of_others key es +ℤ part ≡ all
  others_from ps es h sums percent own all part percent_is own_is all_is part_is =
      ap (λ z. percent_of_others key es +ℤ z) (part_is ∙ ap percent_in own_is)
      ∙ others_and_own es h
      ∙ sym (all_is ∙ ap (λ o. unwrap_or o (pos 0)) percent_is ∙ sums.sums key.unit_period)

  module _ (v : Reallocation) (sum : ℤ) (ps : Table UnitPeriod ℤ) (es : Table ReallocationKey Reallocation) (h : IsTable reallocation_key_cmp es) where
    percent_here : percent_at (put reallocation_key_cmp key v es) key.unit_period ≡ percent_of_others key es +ℤ v.percent
    percent_here =
        let changed = total-put-part reallocation_key_total key (percent_if key.unit_period) (alike key.unit_period) v es (sorted es h) in
        let before = others_and_own es h in
        let own = own_part (find reallocation_key_cmp key es) in
        let new = own_part (Some v) in
        omega (arith, ints)

    percent_elsewhere : (at : UnitPeriod) → same_unit_period key.unit_period at ≡ false → percent_at (put reallocation_key_cmp key v es) at ≡ percent_at es at
    percent_elsewhere at apart =
        let changed = total-put-part reallocation_key_total key (percent_if at) (alike at) v es (sorted es h) in
        let own = no_part at apart (find reallocation_key_cmp key es) in
        let new = no_part at apart (Some v) in
        omega (arith, ints)

    pub adds_up_more : SumsPercents ps es → pos 0 ≤ℤ v.percent → sum ≡ percent_of_others key es +ℤ v.percent
        → SumsPercents (put unit_period_cmp key.unit_period sum ps) (put reallocation_key_cmp key v es)
    adds_up_more before positive is = record {
      sums = λ at.
          ap (λ o. unwrap_or o (pos 0)) (find-put unit_period_cmp unit_period_total at key.unit_period sum ps)
          ∙ elim (same_unit_period at key.unit_period) as (λ b. same_unit_period at key.unit_period ≡ b
          → unwrap_or (cond b (Some sum) (find unit_period_cmp at ps)) (pos 0) ≡ percent_at (put reallocation_key_cmp key v es) at) [
            | true ↦ λ tied. is ∙ sym percent_here
                ∙ total-same (percent_if key.unit_period) (percent_if at) (put reallocation_key_cmp key v es)
                (λ e. ap (λ b. cond b e.1.percent (pos 0))
                ((eq_by_cmp_equiv unit_period_total).symm e.0.unit_period key.unit_period ∙ sym ((eq_by_cmp_equiv unit_period_total).congr at key.unit_period e.0.unit_period tied)
                ∙ (eq_by_cmp_equiv unit_period_total).symm at e.0.unit_period))
            | false ↦ λ apart. before.sums at ∙ sym (percent_elsewhere at ((eq_by_cmp_equiv unit_period_total).symm key.unit_period at ∙ apart))
          ] refl;
      rising = rising_of reallocation_key_cmp (put reallocation_key_cmp key v es) (is_sorted-put reallocation_key_cmp reallocation_key_total key v es (sorted es h));
      none_negative = all-put reallocation_key_total key (λ w. pos 0 ≤ℤ w.percent) v es positive before.none_negative;
    }

  pub others_not_negative : (ps : Table UnitPeriod ℤ) (es : Table ReallocationKey Reallocation) → SumsPercents ps es → pos 0 ≤ℤ percent_of_others key es
  others_not_negative ps es before = total-some (λ w. w.percent) (is_of_other key) es before.none_negative

  -- both tables after a row, or unchanged if it failed
  pub adds_up_after : {E : Type 0} (v : Reallocation) (sum : ℤ) (ps new_ps : Table UnitPeriod ℤ) (es new_es : Table ReallocationKey Reallocation) (r : Result (Unit {0}) E)
      → IsTable reallocation_key_cmp es → SumsPercents ps es → pos 0 ≤ℤ v.percent → sum ≡ percent_of_others key es +ℤ v.percent
      → OnOk r (new_ps ≡ put unit_period_cmp key.unit_period sum ps) → OnOk r (new_es ≡ put reallocation_key_cmp key v es)
      → OnErr r (new_ps ≡ ps) → OnErr r (new_es ≡ es) → SumsPercents new_ps new_es
  adds_up_after v sum ps new_ps es new_es (Ok _) h before positive is e f g k =
      subst (λ (p : Table UnitPeriod ℤ × Table ReallocationKey Reallocation). SumsPercents p.0 p.1) (λ i. (sym e i, sym f i)) (adds_up_more v sum ps es h before positive is)
  adds_up_after v sum ps new_ps es new_es (Err _) h before positive is e f g k =
      subst (λ (p : Table UnitPeriod ℤ × Table ReallocationKey Reallocation). SumsPercents p.0 p.1) (λ i. (sym g i, sym k i)) before
