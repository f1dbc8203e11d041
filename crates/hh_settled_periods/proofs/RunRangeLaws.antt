-- The rows of a Settlement Period of a run are next to each other in a table.
use Rattle.std.proofs.Common.{◌≡◌, ℕ, ◌+◌, List, take, drop, get_or, refl, ap, ◌∙◌, true, false, Ordering, arith}
use Rattle.std.specs.Prelude.{ℤ, T, ◌&&◌, filter}
use Rattle.std.specs.Cmp.{IsTotalOrder, nat_cmp_total, on_total, then_total, unsigned_tied}
use Rattle.std.specs.FinMap.{is_sorted}
use Rattle.std.specs.List.Sorted.{IsNonDecreasingBy, IsPartitionPoint}
use Rattle.std.specs.Ordering.{eq_by_cmp, is_eq, is_le, is_lt, nat_cmp, on, ordering_index, ordering_reverse, ordering_then, then_cmp}
use Rattle.std.specs.declared.cmp.Ordering.TheVariants.{Less, Equal, Greater}
use Rattle.std.proofs.lemmas.List.Sorted.{searchable_from_sorted}
use Rattle.hh_tables.proofs.OrderLaws.{rises}
use Rattle.hh_names.specs.Accounts.{account_cmp, bytes_cmp}
use Rattle.hh_calc.specs.declared.result.AccountRow.{AccountRow}
use Rattle.hh_runs.specs.declared.run_key.RunKey.{RunKey}
use Rattle.hh_states.specs.Content.{credit_key_cmp, result_key_cmp}
use Rattle.hh_states.specs.declared.run_keys.CreditKey.{CreditKey}
use Rattle.hh_states.specs.declared.run_keys.ResultKey.{ResultKey}
use Rattle.hh_states.specs.Runs.{run_key_cmp}
use Rattle.hh_states.proofs.KeyLaws.{run_key_total}
use Rattle.hh_states.specs.Beside.{is_credit_of, is_result_of}
use Rattle.hh_settled_periods.proofs.RangeLaws.{between}

-- Settlement Periods of runs in the order of the runs, then of the periods
abbrev run_period_cmp : RunKey × ℕ → RunKey × ℕ → Ordering
run_period_cmp = then_cmp (on (λ m. m.0) run_key_cmp) (on (λ m. m.1) nat_cmp)

pub run_period_total : IsTotalOrder run_period_cmp
run_period_total = then_total (on_total (λ (m : RunKey × ℕ). m.0) run_key_total) (on_total (λ (m : RunKey × ℕ). m.1) nat_cmp_total)

-- if a whole key comes before, its run and period don't come after
not_behind : (x y z : Ordering) → ordering_then x (ordering_then y z) ≡ Less → is_lt (ordering_reverse (ordering_then x y)) ≡ false
not_behind Less y z e = refl
not_behind Equal Less z e = refl
not_behind Equal Equal z e = refl
not_behind Equal Greater z e = cc
not_behind Greater y z e = cc

same_both : (o p : Ordering) → is_eq (ordering_then o p) ≡ (is_eq o && is_eq p)
same_both Less p = refl
same_both Equal p = refl
same_both Greater p = refl

module _ (run : RunKey) (period : ℕ) where
  -- the order of a row's run and period against these
  abbrev pub result_order : ResultKey × AccountRow → Ordering
  result_order e = ordering_then (run_key_cmp e.0.run run) (nat_cmp e.0.period period)

  abbrev pub credit_order : CreditKey × ℤ → Ordering
  credit_order e = ordering_then (run_key_cmp e.0.run run) (nat_cmp e.0.period period)

  -- in a table this order rises
  pub results_rise : (es : List (ResultKey × AccountRow)) → T (is_sorted result_key_cmp es) → IsNonDecreasingBy (λ e. ordering_index (result_order e)) es
  results_rise es sorted = searchable_from_sorted run_period_total (λ (e : ResultKey × AccountRow). (e.0.run, e.0.period)) es (run, period) (λ j d low high.
      let a : ResultKey = (get_or es j d).0 in
      let b : ResultKey = (get_or es (j + 1) d).0 in
      ap is_lt (run_period_total.antisymm (b.run, b.period) (a.run, a.period))
      ∙ not_behind (run_key_cmp a.run b.run) (nat_cmp a.period b.period) (account_cmp a.account b.account) (rises result_key_cmp es sorted j (j + 1) d (omega arith) high))

  pub credits_rise : (es : List (CreditKey × ℤ)) → T (is_sorted credit_key_cmp es) → IsNonDecreasingBy (λ e. ordering_index (credit_order e)) es
  credits_rise es sorted = searchable_from_sorted run_period_total (λ (e : CreditKey × ℤ). (e.0.run, e.0.period)) es (run, period) (λ j d low high.
      let a : CreditKey = (get_or es j d).0 in
      let b : CreditKey = (get_or es (j + 1) d).0 in
      ap is_lt (run_period_total.antisymm (b.run, b.period) (a.run, a.period))
      ∙ not_behind (run_key_cmp a.run b.run) (nat_cmp a.period b.period) (ordering_then (bytes_cmp a.unit b.unit) (account_cmp a.account b.account))
      (rises credit_key_cmp es sorted j (j + 1) d (omega arith) high))

  -- the rows from the first that is not below, up to the first that is above, are those of the run and period
  pub results_between : (es : List (ResultKey × AccountRow)) (from count : ℕ) → IsPartitionPoint (λ e. is_lt (result_order e) ≡ true) (λ e. is_lt (result_order e) ≡ false) es from
      → IsPartitionPoint (λ e. is_le (result_order e) ≡ true) (λ e. is_le (result_order e) ≡ false) (drop from es) count
      → take count (drop from es) ≡ filter (is_result_of run period) es
  results_between es from count below above =
      between result_order es from count below above
      ∙ (λ i. filter (λ e. (same_both (run_key_cmp e.0.run run) (nat_cmp e.0.period period) ∙ ap (λ b. eq_by_cmp run_key_cmp e.0.run run && b) (unsigned_tied e.0.period period)) i) es)

  pub credits_between : (es : List (CreditKey × ℤ)) (from count : ℕ) → IsPartitionPoint (λ e. is_lt (credit_order e) ≡ true) (λ e. is_lt (credit_order e) ≡ false) es from
      → IsPartitionPoint (λ e. is_le (credit_order e) ≡ true) (λ e. is_le (credit_order e) ≡ false) (drop from es) count
      → take count (drop from es) ≡ filter (is_credit_of run period) es
  credits_between es from count below above =
      between credit_order es from count below above
      ∙ (λ i. filter (λ e. (same_both (run_key_cmp e.0.run run) (nat_cmp e.0.period period) ∙ ap (λ b. eq_by_cmp run_key_cmp e.0.run run && b) (unsigned_tied e.0.period period)) i) es)
