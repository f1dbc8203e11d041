-- The credits in the tables of a reached state sum to each unit's loss-adjusted volume in each Settlement Period of each run.
use Rattle.std.proofs.Common.{◌≡◌, ℕ, List, [], ◌∷◌, map, refl, sym, ap, ◌∙◌, Bool, true, false, cond, eq-eqb, ne_eqb}
use Rattle.std.specs.Prelude.{ℤ, pos, ◌+ℤ◌, ◌==◌, ◌&&◌, All, take}
use Rattle.std.specs.Cmp.{eq_by_cmp_equiv, nat_cmp_total}
use Rattle.std.specs.List.{AllByRecursion}
use Rattle.std.specs.Ordering.{eq_by_cmp, nat_cmp, ordering_then}
use Rattle.std.specs.Str.{bytes_eq}
use Rattle.std.proofs.Math.IntN.{+ℤ_idl, +ℤ_idr}
use Rattle.std.proofs.lemmas.Bool.{eqb-false, eqb-true}
use Rattle.std.proofs.lemmas.List.Elements.{All-weaker}
use Rattle.hh_num.specs.Totals.{total}
use Rattle.hh_num.proofs.TotalLaws.{total-filter, total-map, total-same, total-zero}
use Rattle.hh_tables.specs.Tables.{in_key_order}
use Rattle.hh_tables.proofs.TableLaws.{false_is_not_true}
use Rattle.hh_time.specs.Days.{Midnights, period_count}
use Rattle.hh_names.specs.Accounts.{account_cmp, bytes_cmp}
use Rattle.hh_rows.specs.declared.settlement_period.SettlementPeriod.{SettlementPeriod}
use Rattle.hh_rules.specs.History.{Registered}
use Rattle.hh_rules.specs.Lateness.{Timetable}
use Rattle.hh_calc.specs.declared.result.CreditRow.{CreditRow}
use Rattle.hh_calc.specs.Formulas.{loss_adjusted}
use Rattle.hh_calc.specs.Settled.{IsUnitCredited}
use Rattle.hh_calc.specs.Terms.{UnitDataView, Settled}
use Rattle.hh_calc.proofs.SpreadLaws.{total-IsPermutation, total-flat_map}
use Rattle.hh_runs.specs.declared.run_key.RunKey.{RunKey}
use Rattle.hh_states.specs.declared.run_keys.CreditKey.{CreditKey}
use Rattle.hh_states.specs.Content.{all_credits, credit_entries, credit_key, credit_key_cmp, tables_of}
use Rattle.hh_states.specs.DaySettlement.{periods_on, settled_at}
use Rattle.hh_states.specs.PeriodSettlement.{settled, terms_at}
use Rattle.hh_states.specs.Runs.{Run, periods_of, run_key_cmp, seen_by, settled_by}
use Rattle.hh_states.specs.Soundness.{AreConsistent}
use Rattle.hh_states.specs.States.{State}
use Rattle.hh_states.specs.Steps.{IsReached, timetable_at}
use Rattle.hh_states.specs.Sums.{credited_from}
use Rattle.hh_states.proofs.KeyLaws.{credit_key_total, run_key_total}
use Rattle.hh_state_laws.proofs.AmountLaws.{in_key_order_moves}
use Rattle.hh_state_laws.proofs.ApartLaws.{NoneAlike, all-weaken, distinct-weaken, distinct_blocks, first_part, have_one_key}
use Rattle.hh_state_laws.proofs.BalanceLaws.{none_counts}
use Rattle.hh_state_laws.proofs.ConsistentLaws.{runs_consistent}
use Rattle.hh_state_laws.proofs.PostingLaws.{have_one_run_key, runs_distinct}
use Rattle.hh_state_laws.proofs.ReadyLaws.{all_both, terms_ready}
use Rattle.hh_state_laws.proofs.RunRowLaws.{all_of, credits_own, is_same_number, periods_distinct, run_credits_distinct}
use Rattle.hh_state_laws.proofs.RunSumLaws.{period_adds_up}

-- of the elements of a list that are like one element, only that one counts
abbrev CountsAlone : {X : Type 0} → (X → X → Bool) → List X → X → Type 0
CountsAlone {X} alike xs x = (f : X → ℤ) → total (λ y. cond (alike y x) (f y) (pos 0)) xs ≡ f x

module _ {X : Type 0} (alike : X → X → Bool) (itself : (x : X) → alike x x ≡ true) (turned : (x y : X) → alike x y ≡ alike y x) where
  -- this holds for each element if no two are alike
  each_alone : (xs : List X) → NoneAlike alike xs → AllByRecursion (CountsAlone alike xs) xs
  each_alone [] apart = tt
  each_alone (x ∷ xs) apart = (
    λ f. (λ i. cond (itself x i) (f x) (pos 0) +ℤ none_counts (λ y. alike y x) f xs others i) ∙ +ℤ_idr (f x),
    all-weaken (λ z. (alike x z ≡ false) × CountsAlone alike xs z) (CountsAlone alike (x ∷ xs))
        (λ z h f. (λ i. cond (h.0 i) (f x) (pos 0) +ℤ h.1 f i) ∙ +ℤ_idl (f z)) xs
        (all_both (λ z. alike x z ≡ false) (CountsAlone alike xs) xs apart.0 (each_alone xs apart.1)),
  )
    where
      others : AllByRecursion (λ y. alike y x ≡ false) xs
      others = all-weaken (λ y. alike x y ≡ false) (λ y. alike y x ≡ false) (λ y differ. turned y x ∙ differ) xs apart.0

-- whether two Settlement Periods have the same number
abbrev pub have_one_number : SettlementPeriod → SettlementPeriod → Bool
have_one_number x y = x.period == y.period

-- no two Settlement Periods of a date have the same number
pub numbers_differ : (date count : ℕ) → NoneAlike have_one_number (periods_on date count)
numbers_differ date count =
    distinct-weaken (λ x y. is_same_number x.period y.period) have_one_number
    (λ x y apart. ne_eqb x.period y.period (λ one. false_is_not_true (sym apart ∙ sym (ap (is_same_number x.period) one) ∙ (eq_by_cmp_equiv nat_cmp_total).refl x.period)))
    (periods_on date count) (periods_distinct date count)

-- equality of numbers is symmetric
pub turned_number : (a b : ℕ) → (a == b) ≡ (b == a)
turned_number a b = elim (b == a) as (λ t. (b == a) ≡ t → (a == b) ≡ t) [
  | true ↦ λ is. eq-eqb a b (sym (eqb-true b a is))
  | false ↦ λ is. ne_eqb a b (λ e. eqb-false b a is (sym e))
] refl

-- no two credits of all runs have the same key
all_credits_distinct : (midnight : Midnights) (s : State) → IsReached midnight s → NoneAlike (have_one_key credit_key_cmp) (all_credits (timetable_at midnight s) s)
all_credits_distinct midnight s reached =
    let timetable : Timetable = timetable_at midnight s in
    distinct_blocks (eq_by_cmp run_key_cmp) (have_one_key credit_key_cmp) (λ (r : Run). r.key) (λ (e : CreditKey × ℤ). e.0.run)
    (λ a b. first_part (run_key_cmp a.0.run b.0.run)
    (ordering_then (nat_cmp a.0.period b.0.period) (ordering_then (bytes_cmp a.0.unit b.0.unit) (account_cmp a.0.account b.0.account))))
    (λ r. credit_entries r.key (settled_by timetable s.history r)) (λ r. credits_own r.key (settled_by timetable s.history r)) s.runs
    (all_of (λ r. NoneAlike (have_one_key credit_key_cmp) (credit_entries r.key (settled_by timetable s.history r)))
    (λ r. run_credits_distinct r.key timetable (take r.row_count s.history) r.key.date (period_count timetable.midnight r.key.date)) s.runs)
    (runs_distinct midnight s reached)

module _ (unit : List ℕ) (period : ℕ) (run : RunKey) where
  -- a credit counts if it is of the run and the period and from the unit
  abbrev counted : CreditKey × ℤ → ℤ
  counted e = cond (eq_by_cmp run_key_cmp e.0.run run && (e.0.period == period) && bytes_eq e.0.unit unit) e.1 (pos 0)

  -- within a settled period it counts if it is from the unit
  abbrev from_unit : CreditRow → ℤ
  from_unit c = cond (bytes_eq c.unit unit) c.credited (pos 0)

  -- the credits of a Settlement Period of a run under their keys
  abbrev block : RunKey → SettlementPeriod × Settled → List (CreditKey × ℤ)
  block key q = map (λ c. (credit_key key q.0 c, c.credited)) q.1.credits

  -- the credits of a settled period from the unit count if it is the period
  abbrev in_period : SettlementPeriod × Settled → ℤ
  in_period q = cond (q.0.period == period) (total from_unit q.1.credits) (pos 0)

  -- the credits that count in a Settlement Period of a run have the sum of the credits from the unit, if it is the run and the period
  one_period : (key : RunKey) (q : SettlementPeriod × Settled) → total counted (block key q) ≡ cond (eq_by_cmp run_key_cmp key run) (in_period q) (pos 0)
  one_period key q =
      total-map counted (λ (c : CreditRow). (credit_key key q.0 c, c.credited)) q.1.credits
      ∙ elim (eq_by_cmp run_key_cmp key run) as (λ b. total (λ c. cond (b && (q.0.period == period) && bytes_eq c.unit unit) c.credited (pos 0)) q.1.credits ≡ cond b (in_period q) (pos 0)) [
        | true ↦ elim (q.0.period == period) as (λ b. total (λ c. cond (b && bytes_eq c.unit unit) c.credited (pos 0)) q.1.credits ≡ cond b (total from_unit q.1.credits) (pos 0)) [
          | true ↦ refl
          | false ↦ total-zero q.1.credits
        ]
        | false ↦ total-zero q.1.credits
      ]

  -- the same for all periods of a run
  one_run : (key : RunKey) (day : List (SettlementPeriod × Settled)) → total counted (credit_entries key day) ≡ cond (eq_by_cmp run_key_cmp key run) (total in_period day) (pos 0)
  one_run key day =
      total-flat_map counted (block key) day
      ∙ total-same (λ q. total counted (block key q)) (λ q. cond (eq_by_cmp run_key_cmp key run) (in_period q) (pos 0)) day (one_period key)
      ∙ elim (eq_by_cmp run_key_cmp key run) as (λ b. total (λ q. cond b (in_period q) (pos 0)) day ≡ cond b (total in_period day) (pos 0)) [ true ↦ refl | false ↦ total-zero day ]

  -- and for all runs
  all_runs : (timetable : Timetable) (s : State) → total counted (all_credits timetable s) ≡ total (λ r. cond (eq_by_cmp run_key_cmp r.key run) (total in_period (settled_by timetable s.history r)) (pos 0)) s.runs
  all_runs timetable s =
      total-flat_map counted (λ (r : Run). credit_entries r.key (settled_by timetable s.history r)) s.runs
      ∙ total-same (λ r. total counted (credit_entries r.key (settled_by timetable s.history r))) (λ r. cond (eq_by_cmp run_key_cmp r.key run) (total in_period (settled_by timetable s.history r)) (pos 0)) s.runs
      (λ r. one_run r.key (settled_by timetable s.history r))

module _ (midnight : Midnights) (s : State) where
  -- the timetable of the state's office: local midnights, and when notifications close
  abbrev timetable : Timetable
  timetable = timetable_at midnight s

  -- what a run saw
  abbrev seen : Run → Registered
  seen r = seen_by timetable s.history r

  -- the credits of each unit in a Settlement Period of a run sum to its loss-adjusted volume
  abbrev EachUnit : Run → SettlementPeriod → Type 0
  EachUnit r at = All (λ u. credited_from u.unit at.period r.key (tables_of midnight s).credits ≡ loss_adjusted u) (terms_at (seen r) at).units

  module _ (reached : IsReached midnight s) where
    -- the credits from a unit in the tables are those of the run in the Settlement Period
    one_unit : (r : Run) → CountsAlone have_one_run_key s.runs r → (at : SettlementPeriod) → CountsAlone have_one_number (periods_of midnight r) at → (u : UnitDataView)
        → IsUnitCredited (settled (terms_at (seen r) at)).credits u → credited_from u.unit at.period r.key (tables_of midnight s).credits ≡ loss_adjusted u
    one_unit r run_alone at alone u credited =
        total-IsPermutation (counted u.unit at.period r.key) (all_credits timetable s) (in_key_order credit_key_cmp (all_credits timetable s))
        (in_key_order_moves credit_key_total (all_credits timetable s) (all_credits_distinct midnight s reached))
        ∙ all_runs u.unit at.period r.key timetable s
        ∙ run_alone (λ t. total (in_period u.unit at.period r.key) (settled_by timetable s.history t))
        ∙ total-map (in_period u.unit at.period r.key) (settled_at (seen r)) (periods_of midnight r)
        ∙ alone (λ x. total (from_unit u.unit at.period r.key) (settled (terms_at (seen r) x)).credits)
        ∙ sym (total-filter (λ (c : CreditRow). c.credited) (λ c. bytes_eq c.unit u.unit) (settled (terms_at (seen r) at)).credits)
        ∙ credited

    -- this holds for each unit of each Settlement Period of a run
    each_run : (r : Run) → AreConsistent (seen r) × CountsAlone have_one_run_key s.runs r → AllByRecursion (EachUnit r) (periods_of midnight r)
    each_run r (consistent, run_alone) =
        all-weaken (CountsAlone have_one_number (periods_of midnight r)) (EachUnit r)
        (λ at alone. All-weaker (IsUnitCredited (settled (terms_at (seen r) at)).credits) (λ u. credited_from u.unit at.period r.key (tables_of midnight s).credits ≡ loss_adjusted u)
        (one_unit r run_alone at alone) (terms_at (seen r) at).units
        ((period_adds_up (seen r) consistent at).credits (terms_ready (seen r) consistent at).units))
        (periods_of midnight r)
        (each_alone have_one_number (λ x. eq-eqb x.period x.period refl) (λ x y. turned_number x.period y.period) (periods_of midnight r) (numbers_differ r.key.date (period_count midnight r.key.date)))

-- the credits in the tables from each unit in each Settlement Period of each run sum to its loss-adjusted volume
pub credits_sum_exactly : (midnight : Midnights) (s : State) → IsReached midnight s
    → AllByRecursion (λ r. AllByRecursion (λ at. All
    (λ u. credited_from u.unit at.period r.key (tables_of midnight s).credits ≡ loss_adjusted u)
    (terms_at (seen_by (timetable_at midnight s) s.history r) at).units) (periods_of midnight r)) s.runs
credits_sum_exactly midnight s reached =
    all-weaken (λ r. AreConsistent (seen midnight s r) × CountsAlone have_one_run_key s.runs r) (λ r. AllByRecursion (EachUnit midnight s r) (periods_of midnight r))
    (each_run midnight s reached) s.runs
    (all_both (λ r. AreConsistent (seen midnight s r)) (CountsAlone have_one_run_key s.runs) s.runs (runs_consistent midnight s reached)
    (each_alone have_one_run_key (λ r. (eq_by_cmp_equiv run_key_total).refl r.key) (λ r t. (eq_by_cmp_equiv run_key_total).symm r.key t.key) s.runs (runs_distinct midnight s reached)))
