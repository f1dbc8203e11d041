-- Properties of a table after a row is put into it, and the percentages of a unit with one more reallocation.
use Rattle.std.proofs.Common.{◌≡◌, ℕ, ◌+◌, ◌≤◌, [], ◌∷◌, length, refl, sym, ap, subst, ◌∙◌, Bool, true, false, cond, Option, Some, None, Ordering, arith}
use Rattle.std.specs.Prelude.{ℤ, pos, ◌+ℤ◌, ◌≤ℤ◌, ◌&&◌, nat_le, not, is_none, is_some, IsSome, T}
use Rattle.std.specs.Cmp.{IsTotalOrder, Equal-is, eq_by_cmp_equiv}
use Rattle.std.specs.FinMap.{find, put, is_sorted}
use Rattle.std.specs.FinMap.Entries.{below_all, by_order, find-put, find_tied, is_sorted-put, length-put}
use Rattle.std.specs.Ordering.{eq_by_cmp, is_eq, ordering_then}
use Rattle.std.specs.declared.cmp.Ordering.TheVariants.{Less, Equal, Greater}
use Rattle.std.proofs.lemmas.Bool.{leb-false}
use Rattle.std.proofs.lemmas.Int.{ints}
use Rattle.std.proofs.lemmas.Option.{same_Some}
use Rattle.hh_num.specs.Quantities.{hundred_percent}
use Rattle.hh_num.specs.Totals.{total}
use Rattle.hh_tables.specs.Tables.{IsTable, Table}
use Rattle.hh_tables.proofs.MergeLaws.{from_true, true_from}
use Rattle.hh_tables.proofs.RowLaws.{first, less, second}
use Rattle.hh_tables.proofs.TableLaws.{false_is_not_true}
use Rattle.hh_names.specs.Accounts.{account_cmp, is_same_account}
use Rattle.hh_names.specs.declared.values.Reallocation.{Reallocation}
use Rattle.hh_names.proofs.AccountLaws.{account_total}
use Rattle.hh_rows.specs.Keys.{reallocation_key_cmp, unit_period_cmp}
use Rattle.hh_rows.specs.declared.keys.ReallocationKey.{ReallocationKey}
use Rattle.hh_rows.specs.declared.keys.UnitPeriod.{UnitPeriod}
use Rattle.hh_rows.proofs.KeyLaws.{exact_unit_periods, reallocation_key_total, unit_period_total}
use Rattle.hh_rules.specs.Effects.{put_entry, put_in_time, put_new}
use Rattle.hh_rules.specs.Percents.{is_of_other, percent_at, percent_of_others}

module _ {K V : Type 0} {R : K → K → Ordering} (o : IsTotalOrder R) where
  -- the keys of a table still rise after a row is put into it
  table-put : (k : K) (v : V) (es : Table K V) → IsTable R es → IsTable R (put R k v es)
  table-put k v es h = true_from (is_sorted R (put R k v es)) (is_sorted-put R o k v es (from_true (is_sorted R es) h))

  -- the same for an entry, if there is one
  pub table-put_entry : (e : Option (K × V)) (es : Table K V) → IsTable R es → IsTable R (put_entry R e es)
  table-put_entry None es h = h
  table-put_entry (Some e) es h = table-put e.0 e.1 es h

  -- the same for an entry that is put if its key is new
  pub table-put_new : (e : Option (K × V)) (es : Table K V) → IsTable R es → IsTable R (put_new R e es)
  table-put_new None es h = h
  table-put_new (Some e) es h = elim (is_some (find R e.0 es)) as (λ b. IsTable R (cond b es (put R e.0 e.1 es))) [
    | true ↦ h
    | false ↦ table-put e.0 e.1 es h
  ]

  -- the same for an entry that is put if it comes in time
  pub table-put_in_time : (in_time : Bool) (e : Option (K × V)) (es : Table K V) → IsTable R es → IsTable R (put_in_time R in_time e es)
  table-put_in_time in_time None es h = h
  table-put_in_time true (Some e) es h = table-put e.0 e.1 es h
  table-put_in_time false (Some e) es h = h

  -- a table stays within its limit if the row is known or there is room for it
  pub length-put_within : (most : ℕ) (k : K) (v : V) (es : Table K V) → IsTable R es → length es ≤ most → (is_none (find R k es) && nat_le most (length es)) ≡ false → length (put R k v es) ≤ most
  length-put_within most k v es h within room =
      subst (λ n. n ≤ most) (sym (length-put R o k v es (from_true (is_sorted R es) h)))
      (elim (find R k es) as (λ f. (is_none f && nat_le most (length es)) ≡ false → cond (is_some f) (length es) (length es + 1) ≤ most) [
        | None ↦ λ there. (let below = leb-false most (length es) there in omega arith)
        | Some x ↦ λ there. within
      ] room)

  -- if the rows of a table have a property, and one more row has it, so have the rows after that one is put
  pub values-put : (P : V → Type 0) (k : K) (v : V) (es : Table K V) → P v → ((q : K) (w : V) → find R q es ≡ Some w → P w) → (q : K) (w : V) → find R q (put R k v es) ≡ Some w → P w
  values-put P k v es own others q w found =
      elim (eq_by_cmp R q k) as (λ b. cond b (Some v) (find R q es) ≡ Some w → P w) [
        | true ↦ λ is. subst P (same_Some v w is) own
        | false ↦ λ is. others q w is
      ] (sym (find-put R o q k v es) ∙ found)

  -- after a row is put, a key finds what it found before, or the row that replaces that
  pub stays-put : (W : V → V → Type 0) (k : K) (v : V) (es : Table K V) → ((w : V) → W w w) → ((w : V) → find R k es ≡ Some w → W w v)
      → (q : K) (w : V) → find R q es ≡ Some w → (x : V) × (find R q (put R k v es) ≡ Some x) × W w x
  stays-put W k v es itself replaced q w found =
      elim (eq_by_cmp R q k) as (λ b. eq_by_cmp R q k ≡ b → find R q (put R k v es) ≡ cond b (Some v) (find R q es) → (x : V) × (find R q (put R k v es) ≡ Some x) × W w x) [
        | true ↦ λ same is. (v, is, replaced w (find_tied R o q k ((Equal-is (R q k)).0 same) es ∙ found))
        | false ↦ λ other is. (w, is ∙ found, itself w)
      ] refl (find-put R o q k v es)

  -- after an entry is put if its key is new, a key finds what it found before
  pub stays-put_new : (k : K) (v : V) (es : Table K V) (q : K) (w : V) → find R q es ≡ Some w → find R q (put_new R (Some (k, v)) es) ≡ Some w
  stays-put_new k v es q w found =
      elim (is_some (find R k es)) as (λ b. is_some (find R k es) ≡ b → find R q (cond b es (put R k v es)) ≡ Some w) [
        | true ↦ λ known. found
        | false ↦ λ new. find-put R o q k v es
            ∙ elim (eq_by_cmp R q k) as (λ b. eq_by_cmp R q k ≡ b → cond b (Some v) (find R q es) ≡ Some w) [
              | true ↦ λ same. absurd (false_is_not_true (sym new ∙ ap is_some (find_tied R o q k ((Equal-is (R q k)).0 same) es ∙ found)))
              | false ↦ λ other. found
            ] refl
      ] refl

  module _ (exact : (x y : K) → R x y ≡ Equal → x ≡ y) (P : K → Type 0) where
    -- if the keys of a table have a property, and one more key has it, so have the keys after that one is put
    pub keys-put : (k : K) (v : V) (es : Table K V) → P k → ((q : K) → IsSome (find R q es) → P q) → (q : K) → IsSome (find R q (put R k v es)) → P q
    keys-put k v es own others q there =
        elim (eq_by_cmp R q k) as (λ b. eq_by_cmp R q k ≡ b → is_some (cond b (Some v) (find R q es)) ≡ true → P q) [
          | true ↦ λ same is. subst P (sym (exact q k ((Equal-is (R q k)).0 same))) own
          | false ↦ λ other is. others q is
        ] refl (sym (ap is_some (find-put R o q k v es)) ∙ there)

    -- the same for an entry that is put if it comes in time
    pub keys-put_in_time : (in_time : Bool) (k : K) (v : V) (es : Table K V) → P k → ((q : K) → IsSome (find R q es) → P q) → (q : K) → IsSome (find R q (put_in_time R in_time (Some (k, v)) es)) → P q
    keys-put_in_time true k v es own others = keys-put k v es own others
    keys-put_in_time false k v es own others = others

-- the sum of f over a table after a row is put under a key; g is f, except that it is 0 for the key's own row
module _ {K V : Type 0} {R : K → K → Ordering} (o : IsTotalOrder R) (k : K) (f g : K × V → ℤ) (none : (x : K) (w : V) → R k x ≡ Equal → g (x, w) ≡ pos 0)
    (same : (x : K) (w : V) → eq_by_cmp R k x ≡ false → g (x, w) ≡ f (x, w)) (alike : (x : K) (w : V) → R k x ≡ Equal → f (x, w) ≡ f (k, w)) where
  -- the two sums are equal over rows above the key
  total-above : (x : K) → ((y : K) → R x y ≡ Less → R k y ≡ Less) → (es : Table K V) → T (below_all R x es) → total g es ≡ total f es
  total-above x below [] h = refl
  total-above x below (e ∷ es) h =
      let head : g e ≡ f e = same e.0 e.1 (ap is_eq (below e.0 (less _ (first _ _ h)))) in
      λ i. head i +ℤ total-above x below es (second _ _ h) i

  -- the sum is that of the other rows and the row's own amount
  total-put : (v : V) (es : Table K V) → T (is_sorted R es) → total f (put R k v es) ≡ total g es +ℤ f (k, v)
  total-put v [] h = omega (arith, ints)
  total-put v (e ∷ es) h =
      elim (R k e.0) as (λ r. R k e.0 ≡ r → total f (by_order r ((k, v) ∷ e ∷ es) ((e.0, v) ∷ es) (e ∷ put R k v es)) ≡ (g e +ℤ total g es) +ℤ f (k, v)) [
        | Less ↦ λ is.
            let head : g e ≡ f e = same e.0 e.1 (ap is_eq is) in
            let rest : total g es ≡ total f es = total-above e.0 (λ y above. o.trans k e.0 y is above) es (first (below_all R e.0 es) (is_sorted R es) h) in
            omega (arith, ints)
        | Equal ↦ λ is.
            let head : g e ≡ pos 0 = none e.0 e.1 is in
            let own : f (e.0, v) ≡ f (k, v) = alike e.0 v is in
            let rest : total g es ≡ total f es = total-above e.0 (λ y above. o.congr k e.0 y is ∙ above) es (first (below_all R e.0 es) (is_sorted R es) h) in
            omega (arith, ints)
        | Greater ↦ λ is.
            let head : g e ≡ f e = same e.0 e.1 (ap is_eq is) in
            let rest : total f (put R k v es) ≡ total g es +ℤ f (k, v) = total-put v es (second (below_all R e.0 es) (is_sorted R es) h) in
            omega (arith, ints)
      ] refl

-- the percentage of a reallocation, if it is of a unit in a Settlement Period
abbrev percent_if : UnitPeriod → ReallocationKey × Reallocation → ℤ
percent_if at e = cond (eq_by_cmp unit_period_cmp e.0.unit_period at) e.1.percent (pos 0)

-- if two keys are equal in the order, so are both their parts
tied_parts : (a b : Ordering) → ordering_then a b ≡ Equal → (a ≡ Equal) × (b ≡ Equal)
tied_parts Less b e = cc
tied_parts Equal b e = (refl, e)
tied_parts Greater b e = cc

-- if two keys differ and their first parts are equal, their second parts differ
apart_parts : (a b : Ordering) → is_eq (ordering_then a b) ≡ false → (is_eq a && not (is_eq b)) ≡ is_eq a
apart_parts Less b e = refl
apart_parts Equal b e = ap not e
apart_parts Greater b e = refl

module _ (key : ReallocationKey) where
  -- a reallocation under the key itself is not of another account
  none_of_tied : (x : ReallocationKey) (w : Reallocation) → reallocation_key_cmp key x ≡ Equal → cond (is_of_other key x) w.percent (pos 0) ≡ pos 0
  none_of_tied x w tied =
      let parts = tied_parts (unit_period_cmp key.unit_period x.unit_period) (account_cmp key.account x.account) tied in
      ap (λ b. cond (b && not (is_same_account x.account key.account)) w.percent (pos 0)) ((eq_by_cmp_equiv unit_period_total).symm x.unit_period key.unit_period ∙ ap is_eq parts.0)
      ∙ ap (λ b. cond (not b) w.percent (pos 0)) ((eq_by_cmp_equiv account_total).symm x.account key.account ∙ ap is_eq parts.1)

  -- a reallocation under another key of the same unit and Settlement Period is of another account
  same_of_apart : (x : ReallocationKey) (w : Reallocation) → eq_by_cmp reallocation_key_cmp key x ≡ false → cond (is_of_other key x) w.percent (pos 0) ≡ percent_if key.unit_period (x, w)
  same_of_apart x w apart =
      let turn = (eq_by_cmp_equiv unit_period_total).symm x.unit_period key.unit_period in
      ap (λ b. cond (b && not (is_same_account x.account key.account)) w.percent (pos 0)) turn
      ∙ ap (λ b. cond (eq_by_cmp unit_period_cmp key.unit_period x.unit_period && not b) w.percent (pos 0)) ((eq_by_cmp_equiv account_total).symm x.account key.account)
      ∙ ap (λ b. cond b w.percent (pos 0)) (apart_parts (unit_period_cmp key.unit_period x.unit_period) (account_cmp key.account x.account) apart ∙ sym turn)

  -- reallocations under equal keys have the same percentage of a unit in a Settlement Period
  alike : (at : UnitPeriod) (x : ReallocationKey) (w : Reallocation) → reallocation_key_cmp key x ≡ Equal → percent_if at (x, w) ≡ percent_if at (key, w)
  alike at x w tied =
      let parts = tied_parts (unit_period_cmp key.unit_period x.unit_period) (account_cmp key.account x.account) tied in
      ap (λ b. cond b w.percent (pos 0)) (sym ((eq_by_cmp_equiv unit_period_total).congr key.unit_period x.unit_period at (ap is_eq parts.0)))

  module _ (v : Reallocation) (es : Table ReallocationKey Reallocation) (h : IsTable reallocation_key_cmp es) where
    -- with a reallocation, the unit's percentage in the Settlement Period is that of the others and the reallocation's own
    percent_here : percent_at (put reallocation_key_cmp key v es) key.unit_period ≡ percent_of_others key es +ℤ v.percent
    percent_here =
        total-put reallocation_key_total key (percent_if key.unit_period) (λ (e : ReallocationKey × Reallocation). cond (is_of_other key e.0) e.1.percent (pos 0))
        none_of_tied same_of_apart (alike key.unit_period) v es (from_true (is_sorted reallocation_key_cmp es) h)
        ∙ ap (λ b. percent_of_others key es +ℤ cond b v.percent (pos 0)) ((eq_by_cmp_equiv unit_period_total).refl key.unit_period)

    -- the percentages of other units and Settlement Periods stay the same
    percent_elsewhere : (at : UnitPeriod) → eq_by_cmp unit_period_cmp key.unit_period at ≡ false → percent_at (put reallocation_key_cmp key v es) at ≡ percent_at es at
    percent_elsewhere at apart =
        let none : (w : Reallocation) → percent_if at (key, w) ≡ pos 0 = λ w. ap (λ b. cond b w.percent (pos 0)) apart in
        let changed : percent_at (put reallocation_key_cmp key v es) at ≡ percent_at es at +ℤ percent_if at (key, v) =
        total-put reallocation_key_total key (percent_if at) (percent_if at) (λ x w tied. alike at x w tied ∙ none w) (λ x w other. refl) (alike at) v es (from_true (is_sorted reallocation_key_cmp es) h) in
        let own : percent_if at (key, v) ≡ pos 0 = none v in
        omega (arith, ints)

    -- so if no unit was above 100 percent, none is after a reallocation that has room
    pub percents-put : (percent_of_others key es +ℤ v.percent) ≤ℤ hundred_percent → ((at : UnitPeriod) → percent_at es at ≤ℤ hundred_percent)
        → (at : UnitPeriod) → percent_at (put reallocation_key_cmp key v es) at ≤ℤ hundred_percent
    percents-put room before at =
        elim (eq_by_cmp unit_period_cmp key.unit_period at) as (λ b. eq_by_cmp unit_period_cmp key.unit_period at ≡ b → percent_at (put reallocation_key_cmp key v es) at ≤ℤ hundred_percent) [
          | true ↦ λ same.
              subst (λ u. percent_at (put reallocation_key_cmp key v es) u ≤ℤ hundred_percent) (exact_unit_periods key.unit_period at ((Equal-is (unit_period_cmp key.unit_period at)).0 same))
              (subst (λ z. z ≤ℤ hundred_percent) (sym percent_here) room)
          | false ↦ λ apart. subst (λ z. z ≤ℤ hundred_percent) (sym (percent_elsewhere at apart)) (before at)
        ] refl

  -- the same for a reallocation that has room if it comes in time
  pub percents-put_in_time : (in_time : Bool) (v : Reallocation) (es : Table ReallocationKey Reallocation) → IsTable reallocation_key_cmp es
      → (in_time ≡ true → (percent_of_others key es +ℤ v.percent) ≤ℤ hundred_percent) → ((at : UnitPeriod) → percent_at es at ≤ℤ hundred_percent)
      → (at : UnitPeriod) → percent_at (put_in_time reallocation_key_cmp in_time (Some (key, v)) es) at ≤ℤ hundred_percent
  percents-put_in_time true v es h room before = percents-put v es h (room refl) before
  percents-put_in_time false v es h room before = before
