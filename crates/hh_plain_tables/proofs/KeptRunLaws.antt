-- What is kept of runs: the rows of each are its own, and what a new run puts into the four tables.
use Rattle.std.proofs.Common.{◌≡◌, List, [], ◌∷◌, true, false, cond, refl, sym, ap, subst, ◌∙◌, Some, None}
use Rattle.std.specs.Prelude.{ℤ, ◌&&◌, filter_map, IsTrue}
use Rattle.std.specs.Cmp.{tied_itself}
use Rattle.std.specs.FinMap.{find, put}
use Rattle.std.specs.FinMap.Entries.{is_sorted-put}
use Rattle.std.specs.List.{list_all, AllByRecursion}
use Rattle.std.specs.Ordering.{eq_by_cmp, is_eq, nat_cmp, ordering_then}
use Rattle.std.specs.declared.cmp.Ordering.TheVariants.{Less}
use Rattle.hh_tables.specs.Tables.{Table, put_all}
use Rattle.hh_tables.proofs.MergeLaws.{from_true, true_from}
use Rattle.hh_names.specs.Accounts.{account_cmp, bytes_cmp}
use Rattle.hh_calc.specs.declared.result.AccountRow.{AccountRow}
use Rattle.hh_runs.specs.declared.run_key.RunKey.{RunKey}
use Rattle.hh_states.specs.Changes.{RunChangeView}
use Rattle.hh_states.specs.Content.{credit_key_cmp, posting_key_cmp, result_key_cmp}
use Rattle.hh_states.specs.Reads.{result_in}
use Rattle.hh_states.specs.Runs.{run_key_cmp}
use Rattle.hh_states.specs.declared.run_keys.CreditKey.{CreditKey}
use Rattle.hh_states.specs.declared.run_keys.PostingKey.{PostingKey}
use Rattle.hh_states.specs.declared.run_keys.ResultKey.{ResultKey}
use Rattle.hh_states.proofs.KeyLaws.{credit_key_total, result_key_total, run_key_total}
use Rattle.hh_plain_tables.specs.declared.kept_run.KeptRun.{KeptRun}
use Rattle.hh_plain_tables.specs.steps.KeptRuns.{are_credits_of, are_results_of, credits_kept, kept_with, results_kept, summaries_of, AreKept, RunTables}
use Rattle.hh_plain_tables.proofs.RunLaws.{each_own_with, missing_value, put_value, read_found, rows_found, rows_with}

-- rows that are all under keys of a run
pub all_own : {K V : Type 0} (run_of : K → RunKey) (run : RunKey) (rows : List (K × V)) → AllByRecursion (λ e. run_of e.0 ≡ run) rows → list_all (λ e. eq_by_cmp run_key_cmp (run_of e.0) run) rows ≡ true
all_own run_of run [] are = refl
all_own run_of run (e ∷ es) are =
    (λ i. eq_by_cmp run_key_cmp (are.0 i) run && all_own run_of run es are.1 i)
    ∙ ap (λ r. is_eq r && true) (tied_itself run_key_total run)

-- the keys of results and of credits are in the order of their runs first
results_by_run : (a b : ResultKey) → run_key_cmp a.run b.run ≡ Less → result_key_cmp a b ≡ Less
results_by_run a b before = ap (λ r. ordering_then r (ordering_then (nat_cmp a.period b.period) (account_cmp a.account b.account))) before

credits_by_run : (a b : CreditKey) → run_key_cmp a.run b.run ≡ Less → credit_key_cmp a b ≡ Less
credits_by_run a b before =
    ap (λ r. ordering_then r (ordering_then (nat_cmp a.period b.period) (ordering_then (bytes_cmp a.unit b.unit) (account_cmp a.account b.account)))) before

-- the four tables
abbrev pub tables_in : Table RunKey KeptRun → Table PostingKey ℤ → RunTables
tables_in runs postings = record { runs = summaries_of runs; results = results_kept runs; credits = credits_kept runs; postings = postings }

-- a run with its rows is put in
module _ (w : RunChangeView) (run : KeptRun) (es new : Table RunKey KeptRun) (kept : AreKept es) (results : IsTrue (are_results_of w.key w.results)) (credits : IsTrue (are_credits_of w.key w.credits))
    (results_are : run.results ≡ put_all result_key_cmp w.results []) (credits_are : run.credits ≡ put_all credit_key_cmp w.credits []) (is : new ≡ put run_key_cmp w.key run es) where
  pub still_kept : AreKept new
  still_kept = subst AreKept (sym is) (record {
    rising = true_from _ (is_sorted-put run_key_cmp run_key_total w.key run es (from_true _ kept.rising));
    results = true_from _ (each_own_with result_key_total (λ k. k.run) results_by_run (λ (r : KeptRun). r.results) w.key run w.results es (from_true _ results) results_are (from_true _ kept.results));
    credits = true_from _ (each_own_with credit_key_total (λ k. k.run) credits_by_run (λ (r : KeptRun). r.credits) w.key run w.credits es (from_true _ credits) credits_are (from_true _ kept.credits));
  })

  pub kept_more : (postings more : Table PostingKey ℤ) → find run_key_cmp w.key (summaries_of es) ≡ None → run.summary ≡ w.summary → more ≡ put_all posting_key_cmp w.postings postings
      → tables_in new more ≡ kept_with w (tables_in es postings)
  kept_more postings more absent summary postings_are =
      let missing : find run_key_cmp w.key es ≡ None = missing_value (λ (r : KeptRun). r.summary) w.key es absent in
      let runs : summaries_of new ≡ put run_key_cmp w.key w.summary (summaries_of es) =
      ap summaries_of is ∙ put_value (λ (r : KeptRun). r.summary) w.key run es ∙ ap (λ s. put run_key_cmp w.key s (summaries_of es)) summary in
      let all_results : results_kept new ≡ put_all result_key_cmp w.results (results_kept es) =
      ap results_kept is ∙ rows_with result_key_total (λ k. k.run) results_by_run (λ (r : KeptRun). r.results) w.key run w.results es missing (from_true _ kept.rising) (from_true _ kept.results) (from_true _ results) results_are in
      let all_credits : credits_kept new ≡ put_all credit_key_cmp w.credits (credits_kept es) =
      ap credits_kept is ∙ rows_with credit_key_total (λ k. k.run) credits_by_run (λ (r : KeptRun). r.credits) w.key run w.credits es missing (from_true _ kept.rising) (from_true _ kept.credits) (from_true _ credits) credits_are in
      (λ i. record { runs = runs i; results = all_results i; credits = all_credits i; postings = postings_are i })

-- what is read of a run
module _ (run : RunKey) (es : Table RunKey KeptRun) (kept : AreKept es) where
  apart : (e : ResultKey × AccountRow) → eq_by_cmp run_key_cmp e.0.run run ≡ false → result_in run e ≡ None
  apart e differs = ap (λ b. cond b (Some (e.0.period, e.1)) None) differs

  pub results_in_run : (w : KeptRun) → Some w ≡ find run_key_cmp run es → filter_map (result_in run) w.results ≡ filter_map (result_in run) (results_kept es)
  results_in_run w is =
      ap (λ o. filter_map (result_in run) (rows_found (λ (r : KeptRun). r.results) o)) is
      ∙ sym (read_found result_key_total (λ k. k.run) results_by_run (λ (r : KeptRun). r.results) (result_in run) run apart es (from_true _ kept.rising) (from_true _ kept.results))

  pub no_results : None ≡ find run_key_cmp run es → [] ≡ filter_map (result_in run) (results_kept es)
  no_results is =
      ap (λ o. filter_map (result_in run) (rows_found (λ (r : KeptRun). r.results) o)) is
      ∙ sym (read_found result_key_total (λ k. k.run) results_by_run (λ (r : KeptRun). r.results) (result_in run) run apart es (from_true _ kept.rising) (from_true _ kept.results))
