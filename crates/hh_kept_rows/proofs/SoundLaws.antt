-- If what is registered and in force is sound, no part of it has more than 100 percent of a unit.
use Rattle.std.proofs.Common.{◌≡◌, ℕ, zero, suc, ◌<◌, [], ◌∷◌, length, take, get_or, sym, ap, subst, ◌∙◌, Bool, true, false, cond, arith}
use Rattle.std.specs.Prelude.{ℤ, pos, ◌+ℤ◌, ◌≤ℤ◌, filter, not, ◌&&◌, is_ok, int_lt, Result, Ok, Err, IsOk}
use Rattle.std.specs.Cmp.{eq_by_cmp_equiv}
use Rattle.std.specs.List.{AllByRecursion}
use Rattle.std.specs.Ordering.{eq_by_cmp}
use Rattle.std.proofs.lemmas.Int.{ints}
use Rattle.hh_num.specs.Totals.{total}
use Rattle.hh_num.specs.Quantities.{hundred_percent}
use Rattle.hh_tables.specs.Tables.{IsTable, Table, put_all}
use Rattle.hh_names.specs.Accounts.{is_same_account}
use Rattle.hh_names.specs.Faults.{plain_fault}
use Rattle.hh_names.specs.declared.fault.Fault.{Fault}
use Rattle.hh_names.specs.declared.fault.Refusal.TheVariants.{OverHundred}
use Rattle.hh_names.specs.declared.values.Reallocation.{Reallocation}
use Rattle.hh_rows.specs.Keys.{reallocation_key_cmp, unit_period_cmp}
use Rattle.hh_rows.specs.declared.keys.ReallocationKey.{ReallocationKey}
use Rattle.hh_rows.specs.declared.keys.UnitPeriod.{UnitPeriod}
use Rattle.hh_rows.proofs.KeyLaws.{unit_period_total}
use Rattle.hh_rules.specs.History.{Registered}
use Rattle.hh_rules.specs.Percents.{is_of_other, percent_of_others}
use Rattle.hh_rules.specs.RegisterView.{RegisterView, held_reallocation, tables_in}
use Rattle.hh_states.specs.Soundness.{AreSound}
use Rattle.hh_kept_rows.specs.declared.named_units.NamedUnits.{NamedUnits}
use Rattle.hh_kept_rows.specs.steps.Parts.{is_named_in, with_reallocations, NoneNegative}
use Rattle.hh_kept_rows.proofs.NamedLaws.{put_so_far}

module _ (key : ReallocationKey) where
  -- the percentage of a reallocation, if it is of the key's unit in its Settlement Period
  abbrev here : ReallocationKey × Reallocation → ℤ
  here e = cond (eq_by_cmp unit_period_cmp e.0.unit_period key.unit_period) e.1.percent (pos 0)

  -- the same, if it is also of another account than the key's
  abbrev of_other : ReallocationKey × Reallocation → ℤ
  of_other e = cond (is_of_other key e.0) e.1.percent (pos 0)

  here_not_negative : (e : ReallocationKey × Reallocation) → pos 0 ≤ℤ e.1.percent → pos 0 ≤ℤ here e
  here_not_negative e h = elim (eq_by_cmp unit_period_cmp e.0.unit_period key.unit_period) as (λ b. pos 0 ≤ℤ cond b e.1.percent (pos 0)) [
    | true ↦ h
    | false ↦ omega (arith, ints)
  ]

  other_within : (e : ReallocationKey × Reallocation) → pos 0 ≤ℤ e.1.percent → of_other e ≤ℤ here e
  other_within e h = elim (eq_by_cmp unit_period_cmp e.0.unit_period key.unit_period) as (λ b. cond (b && not (is_same_account e.0.account key.account)) e.1.percent (pos 0) ≤ℤ cond b e.1.percent (pos 0)) [
    | true ↦ elim (not (is_same_account e.0.account key.account)) as (λ b. cond b e.1.percent (pos 0) ≤ℤ e.1.percent) [
      | true ↦ omega (arith, ints)
      | false ↦ h
    ]
    | false ↦ omega (arith, ints)
  ]

  all_not_negative : (es : Table ReallocationKey Reallocation) → AllByRecursion (λ e. pos 0 ≤ℤ e.1.percent) es → pos 0 ≤ℤ total here es
  all_not_negative [] h = omega (arith, ints)
  all_not_negative (e ∷ es) h =
      let own = here_not_negative e h.0 in
      let rest = all_not_negative es h.1 in
      omega (arith, ints)

  -- some reallocations of other accounts before one, together with that one, are at most all
  before_and_own : (test : ReallocationKey × Reallocation → Bool) (es : Table ReallocationKey Reallocation) (i : ℕ) (d : ReallocationKey × Reallocation) → i < length es
      → AllByRecursion (λ e. pos 0 ≤ℤ e.1.percent) es → (total of_other (filter test (take i es)) +ℤ here (get_or es i d)) ≤ℤ total here es
  before_and_own test [] i d inside h = absurd (omega arith)
  before_and_own test (e ∷ es) zero d inside h =
      let rest = all_not_negative es h.1 in
      omega (arith, ints)
  before_and_own test (e ∷ es) (suc i) d inside h =
      let own = here_not_negative e h.0 in
      let other = other_within e h.0 in
      let rest = before_and_own test es i d (omega arith) h.1 in
      elim (test e) as (λ b. (total of_other (cond b (e ∷ filter test (take i es)) (filter test (take i es))) +ℤ here (get_or es i d)) ≤ℤ (here e +ℤ total here es)) [
        | true ↦ omega (arith, ints)
        | false ↦ omega (arith, ints)
      ]

under : (a b : ℤ) → b ≤ℤ a → int_lt a b ≡ false
under a b h = grind (arith, ints)

module _ (tables : Registered) (sound : AreSound tables) where
  module _ (positive : NoneNegative tables.reallocations) (test : ReallocationKey × Reallocation → Bool) (i : ℕ) (e : ReallocationKey × Reallocation) (inside : i < length tables.reallocations) (is : e ≡ get_or tables.reallocations i e) where
    -- a reallocation and those of other accounts before it are together at most 100 percent of its unit
    at_most_hundred : (percent_of_others e.0 (filter test (take i tables.reallocations)) +ℤ e.1.percent) ≤ℤ hundred_percent
    at_most_hundred =
        let own : here e.0 (get_or tables.reallocations i e) ≡ e.1.percent = ap (here e.0) (sym is) ∙ ap (λ b. cond b e.1.percent (pos 0)) ((eq_by_cmp_equiv unit_period_total).refl e.0.unit_period) in
        let before : (percent_of_others e.0 (filter test (take i tables.reallocations)) +ℤ here e.0 (get_or tables.reallocations i e)) ≤ℤ total (here e.0) tables.reallocations = before_and_own e.0 test tables.reallocations i e inside positive in
        let all : total (here e.0) tables.reallocations ≤ℤ hundred_percent = sound.percents e.0.unit_period in
        omega (arith, ints)

-- so a part takes the next of the reallocations that are named
pub takes_more : (tables : Registered) → AreSound tables → IsTable reallocation_key_cmp tables.reallocations → NoneNegative tables.reallocations
    → (named : NamedUnits) (lent : Table ReallocationKey Reallocation) → lent ≡ tables.reallocations
    → (i : ℕ) (e : ReallocationKey × Reallocation) → i < length lent → e ≡ get_or lent i e → (first old : RegisterView) → (tables_in first).reallocations ≡ []
    → old ≡ with_reallocations (put_all reallocation_key_cmp (filter (is_named_in named) (take i tables.reallocations)) (tables_in first).reallocations) first
    → IsOk (held_reallocation old e.0 e.1)
takes_more tables sound rising positive named lent same i e inside is first old none so_far =
    let answer : Bool → Result (Unit {0}) Fault = λ b. cond b (Err (plain_fault OverHundred)) (Ok tt) in
    let held : (tables_in old).reallocations ≡ filter (is_named_in named) (take i tables.reallocations) =
    ap (λ p. (tables_in p).reallocations) so_far
    ∙ ap (put_all reallocation_key_cmp (filter (is_named_in named) (take i tables.reallocations))) none
    ∙ put_so_far tables rising named i in
    let fits = at_most_hundred tables sound positive (is_named_in named) i e (subst (λ l. i < length l) same inside) (subst (λ l. e ≡ get_or l i e) same is) in
    ap (λ es. is_ok (answer (int_lt hundred_percent (percent_of_others e.0 es +ℤ e.1.percent)))) held
    ∙ ap (λ b. is_ok (answer b)) (under hundred_percent _ fits)
