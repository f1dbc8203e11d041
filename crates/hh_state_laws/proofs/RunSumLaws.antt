-- In each reached state, what each run settled adds up, and so do the rows that the tables have of it.
use Rattle.std.proofs.Common.{◌≡◌, ℕ, List, [], ◌∷◌, map, refl, sym, ap, ◌∙◌, true, false, cond, Some, None}
use Rattle.std.specs.Prelude.{ℤ, pos, ◌+ℤ◌, ◌==◌, filter_map, take}
use Rattle.std.specs.List.{AllByRecursion, cons_option}
use Rattle.std.specs.Ordering.{eq_by_cmp, nat_cmp, ordering_then}
use Rattle.std.proofs.Math.IntN.{+ℤ_idl}
use Rattle.hh_num.specs.Totals.{total}
use Rattle.hh_num.proofs.TotalLaws.{total-map, total-zero}
use Rattle.hh_tables.specs.Tables.{in_key_order}
use Rattle.hh_time.specs.Days.{Midnights, period_count}
use Rattle.hh_names.specs.Accounts.{account_cmp}
use Rattle.hh_rows.specs.declared.settlement_period.SettlementPeriod.{SettlementPeriod}
use Rattle.hh_rules.specs.History.{Registered}
use Rattle.hh_rules.specs.Lateness.{Timetable}
use Rattle.hh_calc.specs.declared.result.AccountRow.{AccountRow}
use Rattle.hh_calc.specs.Settled.{AddsUp, paid_by}
use Rattle.hh_calc.specs.Terms.{PeriodDataView, Settled}
use Rattle.hh_calc.proofs.SpreadLaws.{total-IsPermutation, total-flat_map}
use Rattle.hh_runs.specs.declared.run_key.RunKey.{RunKey}
use Rattle.hh_states.specs.declared.run_keys.ResultKey.{ResultKey}
use Rattle.hh_states.specs.Content.{all_results, result_entries, result_key, result_key_cmp, tables_of}
use Rattle.hh_states.specs.DaySettlement.{settled_at, settled_day}
use Rattle.hh_states.specs.PeriodSettlement.{settled, terms_at}
use Rattle.hh_states.specs.Reads.{result_in, results_in}
use Rattle.hh_states.specs.Runs.{Run, periods_of, run_key_cmp, seen_by, settled_by}
use Rattle.hh_states.specs.Soundness.{AreConsistent}
use Rattle.hh_states.specs.States.{State}
use Rattle.hh_states.specs.Steps.{IsReached, timetable_at}
use Rattle.hh_states.specs.Sums.{CashSumsToZero, ContractsSumToZero, period_total}
use Rattle.hh_states.proofs.KeyLaws.{result_key_total}
use Rattle.hh_state_laws.proofs.AmountLaws.{in_key_order_moves}
use Rattle.hh_state_laws.proofs.ApartLaws.{NoneAlike, all-map, all-weaken, distinct_blocks, first_part, have_one_key}
use Rattle.hh_state_laws.proofs.ConsistentLaws.{runs_consistent}
use Rattle.hh_state_laws.proofs.PostingLaws.{runs_distinct}
use Rattle.hh_state_laws.proofs.ReadyLaws.{terms_ready}
use Rattle.hh_state_laws.proofs.RunRowLaws.{all_of, results_distinct, results_own}
use Rattle.hh_state_laws.proofs.SettledLaws.{settled_adds_up}

-- if what is registered and in force is consistent, the settlement of a Settlement Period adds up
pub period_adds_up : (tables : Registered) → AreConsistent tables → (at : SettlementPeriod) → AddsUp (terms_at tables at) (settled (terms_at tables at))
period_adds_up tables consistent at =
    let fit = terms_ready tables consistent at in
    settled_adds_up (terms_at tables at) fit.ready.0 fit.ready.1 fit.units fit.credits

-- so does each Settlement Period that a run settles
run_adds_up : (tables : Registered) → AreConsistent tables → (periods : List SettlementPeriod) → AllByRecursion (λ q. AddsUp (terms_at tables q.0) q.1) (settled_day tables periods)
run_adds_up tables consistent periods =
    all-map (λ (q : SettlementPeriod × Settled). AddsUp (terms_at tables q.0) q.1) (settled_at tables) periods
    (all_of (λ at. AddsUp (terms_at tables at) (settled (terms_at tables at))) (period_adds_up tables consistent) periods)

-- in each reached state, this holds for each of its runs
pub runs_add_up : (midnight : Midnights) (s : State) → IsReached midnight s
    → AllByRecursion (λ r. AllByRecursion (λ q. AddsUp (terms_at (seen_by (timetable_at midnight s) s.history r) q.0) q.1)
    (settled_by (timetable_at midnight s) s.history r)) s.runs
runs_add_up midnight s reached =
    let timetable : Timetable = timetable_at midnight s in
    all-weaken (λ r. AreConsistent (seen_by timetable s.history r))
    (λ r. AllByRecursion (λ q. AddsUp (terms_at (seen_by timetable s.history r) q.0) q.1) (settled_by timetable s.history r))
    (λ r consistent. run_adds_up (seen_by timetable s.history r) consistent (periods_of timetable.midnight r)) s.runs (runs_consistent midnight s reached)

-- no two results of all runs have the same key
all_results_distinct : (midnight : Midnights) (s : State) → IsReached midnight s → NoneAlike (have_one_key result_key_cmp) (all_results (timetable_at midnight s) s)
all_results_distinct midnight s reached =
    let timetable : Timetable = timetable_at midnight s in
    distinct_blocks (eq_by_cmp run_key_cmp) (have_one_key result_key_cmp) (λ (r : Run). r.key) (λ (e : ResultKey × AccountRow). e.0.run)
    (λ a b. first_part (run_key_cmp a.0.run b.0.run) (ordering_then (nat_cmp a.0.period b.0.period) (account_cmp a.0.account b.0.account)))
    (λ r. result_entries r.key (settled_by timetable s.history r)) (λ r. results_own r.key (settled_by timetable s.history r)) s.runs
    (all_of (λ r. NoneAlike (have_one_key result_key_cmp) (result_entries r.key (settled_by timetable s.history r)))
    (λ r. results_distinct r.key timetable (take r.row_count s.history) r.key.date (period_count timetable.midnight r.key.date)) s.runs)
    (runs_distinct midnight s reached)

-- the sum over the rows of a run is the sum over its entries among all entries
total_in_run : (run : RunKey) (f : ℕ × AccountRow → ℤ) (es : List (ResultKey × AccountRow))
    → total f (filter_map (result_in run) es) ≡ total (λ e. cond (eq_by_cmp run_key_cmp e.0.run run) (f (e.0.period, e.1)) (pos 0)) es
total_in_run run f [] = refl
total_in_run run f (e ∷ es) =
    let rest : ℤ = total (λ x. cond (eq_by_cmp run_key_cmp x.0.run run) (f (x.0.period, x.1)) (pos 0)) es in
    elim (eq_by_cmp run_key_cmp e.0.run run) as (λ b. total f (cons_option (cond b (Some (e.0.period, e.1)) None) (filter_map (result_in run) es)) ≡ cond b (f (e.0.period, e.1)) (pos 0) +ℤ rest) [
      | true ↦ ap (λ z. f (e.0.period, e.1) +ℤ z) (total_in_run run f es)
      | false ↦ total_in_run run f es ∙ sym (+ℤ_idl rest)
    ]

-- if each amount is zero, so is the sum
all_zero : {X : Type 0} (f : X → ℤ) (xs : List X) → AllByRecursion (λ x. f x ≡ pos 0) xs → total f xs ≡ pos 0
all_zero f [] zero = refl
all_zero f (x ∷ xs) zero = λ i. zero.0 i +ℤ all_zero f xs zero.1 i

module _ (amount : AccountRow → ℤ) (run : RunKey) (period : ℕ) where
  -- a row counts if it is of the run and the period
  abbrev counted : ResultKey × AccountRow → ℤ
  counted e = cond (eq_by_cmp run_key_cmp e.0.run run) (cond (e.0.period == period) (amount e.1) (pos 0)) (pos 0)

  -- the rows of a Settlement Period of a run under their keys
  abbrev block : RunKey → SettlementPeriod × Settled → List (ResultKey × AccountRow)
  block key q = map (λ r. (result_key key q.0 r, r)) q.1.accounts

  -- if the rows of a Settlement Period sum to zero, so do those of them that count
  one_period : (key : RunKey) (q : SettlementPeriod × Settled) → total amount q.1.accounts ≡ pos 0 → total counted (block key q) ≡ pos 0
  one_period key q zero =
      total-map counted (λ (r : AccountRow). (result_key key q.0 r, r)) q.1.accounts
      ∙ elim (eq_by_cmp run_key_cmp key run) as (λ b. total (λ r. cond b (cond (q.0.period == period) (amount r) (pos 0)) (pos 0)) q.1.accounts ≡ pos 0) [
        | true ↦ elim (q.0.period == period) as (λ b. total (λ r. cond b (amount r) (pos 0)) q.1.accounts ≡ pos 0) [ true ↦ zero | false ↦ total-zero q.1.accounts ]
        | false ↦ total-zero q.1.accounts
      ]

  -- the same for all periods of a run
  one_run : (key : RunKey) (day : List (SettlementPeriod × Settled)) → AllByRecursion (λ q. total amount q.1.accounts ≡ pos 0) day → total counted (result_entries key day) ≡ pos 0
  one_run key day zero =
      total-flat_map counted (block key) day
      ∙ all_zero (λ q. total counted (block key q)) day (all-weaken (λ q. total amount q.1.accounts ≡ pos 0) (λ q. total counted (block key q) ≡ pos 0) (one_period key) day zero)

  -- and for the tables, if the rows of each Settlement Period of each run sum to zero
  tables_zero : (midnight : Midnights) (s : State) → IsReached midnight s
      → AllByRecursion (λ r. AllByRecursion (λ q. total amount q.1.accounts ≡ pos 0) (settled_by (timetable_at midnight s) s.history r)) s.runs
      → period_total amount period (results_in (tables_of midnight s) run) ≡ pos 0
  tables_zero midnight s reached zero =
      let timetable : Timetable = timetable_at midnight s in
      let entries : Run → List (ResultKey × AccountRow) = λ r. result_entries r.key (settled_by timetable s.history r) in
      total_in_run run (λ r. cond (r.0 == period) (amount r.1) (pos 0)) (in_key_order result_key_cmp (all_results timetable s))
      ∙ total-IsPermutation counted (all_results timetable s) (in_key_order result_key_cmp (all_results timetable s))
      (in_key_order_moves result_key_total (all_results timetable s) (all_results_distinct midnight s reached))
      ∙ total-flat_map counted entries s.runs
      ∙ all_zero (λ r. total counted (entries r)) s.runs
      (all-weaken (λ r. AllByRecursion (λ q. total amount q.1.accounts ≡ pos 0) (settled_by timetable s.history r)) (λ r. total counted (entries r) ≡ pos 0)
      (λ r. one_run r.key (settled_by timetable s.history r)) s.runs zero)

-- if an amount sums to zero in each period that adds up, it does in each Settlement Period of each run of a reached state
each_period : (amount : AccountRow → ℤ) → ((p : PeriodDataView) (x : Settled) → AddsUp p x → total amount x.accounts ≡ pos 0) → (midnight : Midnights) (s : State) → IsReached midnight s
    → AllByRecursion (λ r. AllByRecursion (λ q. total amount q.1.accounts ≡ pos 0) (settled_by (timetable_at midnight s) s.history r)) s.runs
each_period amount zero midnight s reached =
    let timetable : Timetable = timetable_at midnight s in
    all-weaken (λ r. AllByRecursion (λ q. AddsUp (terms_at (seen_by timetable s.history r) q.0) q.1) (settled_by timetable s.history r))
    (λ r. AllByRecursion (λ q. total amount q.1.accounts ≡ pos 0) (settled_by timetable s.history r))
    (λ r. all-weaken (λ q. AddsUp (terms_at (seen_by timetable s.history r) q.0) q.1) (λ q. total amount q.1.accounts ≡ pos 0)
    (λ q. zero (terms_at (seen_by timetable s.history r) q.0) q.1) (settled_by timetable s.history r)) s.runs (runs_add_up midnight s reached)

-- contracts sum to zero in each Settlement Period of each run in the tables
pub contracts_sum_to_zero : ContractsSumToZero
contracts_sum_to_zero midnight s run period reached =
    tables_zero (λ r. r.contracts) run period midnight s reached (each_period (λ r. r.contracts) (λ p x adds. adds.contracts) midnight s reached)

-- so do charges and shares together
pub cash_sums_to_zero : CashSumsToZero
cash_sums_to_zero midnight s run period reached =
    tables_zero paid_by run period midnight s reached (each_period paid_by (λ p x adds. adds.cash) midnight s reached)
