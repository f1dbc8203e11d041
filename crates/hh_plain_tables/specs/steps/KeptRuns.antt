-- What is kept of runs in memory: four tables, and what a run puts into them.
use Rattle.std.specs.Prelude.{ℤ, Bool, [], map, IsTrue}
use Rattle.std.specs.FinMap.{put}
use Rattle.std.specs.List.{flat_map, list_all}
use Rattle.std.specs.Ordering.{eq_by_cmp}
use Rattle.hh_tables.specs.Tables.{Table, put_all, IsTable}
use Rattle.hh_calc.specs.declared.result.AccountRow.{AccountRow}
use Rattle.hh_runs.specs.declared.summary.Summary.{Summary}
use Rattle.hh_runs.specs.declared.run_key.RunKey.{RunKey}
use Rattle.hh_states.specs.declared.run_keys.CreditKey.{CreditKey}
use Rattle.hh_states.specs.declared.run_keys.PostingKey.{PostingKey}
use Rattle.hh_states.specs.declared.run_keys.ResultKey.{ResultKey}
use Rattle.hh_states.specs.Changes.{RunChangeView}
use Rattle.hh_states.specs.Content.{credit_key_cmp, posting_key_cmp, result_key_cmp}
use Rattle.hh_states.specs.Runs.{run_key_cmp}
use Rattle.hh_plain_tables.specs.declared.kept_run.KeptRun.{KeptRun}

-- the runs with their summaries, the rows of their accounts, their credits and their postings
pub record RunTables : Type 0 where
  pub runs : Table RunKey Summary
  pub results : Table ResultKey AccountRow
  pub credits : Table CreditKey ℤ
  pub postings : Table PostingKey ℤ

-- no runs
abbrev pub no_runs : RunTables
no_runs = record { runs = []; results = []; credits = []; postings = [] }

-- the tables with what is written for a run
abbrev pub kept_with : RunChangeView → RunTables → RunTables
kept_with w kept = record {
  runs = put run_key_cmp w.key w.summary kept.runs;
  results = put_all result_key_cmp w.results kept.results;
  credits = put_all credit_key_cmp w.credits kept.credits;
  postings = put_all posting_key_cmp w.postings kept.postings;
}

-- all summaries, all rows of accounts and all credits, of runs that are kept each with its own
abbrev pub summaries_of : Table RunKey KeptRun → Table RunKey Summary
summaries_of runs = map (λ e. (e.0, e.1.summary)) runs

abbrev pub results_kept : Table RunKey KeptRun → Table ResultKey AccountRow
results_kept runs = flat_map (λ e. e.1.results) runs

abbrev pub credits_kept : Table RunKey KeptRun → Table CreditKey ℤ
credits_kept runs = flat_map (λ e. e.1.credits) runs

-- whether all these results, or all these credits, are of a run
abbrev pub are_results_of : RunKey → Table ResultKey AccountRow → Bool
are_results_of run rows = list_all (λ e. eq_by_cmp run_key_cmp e.0.run run) rows

abbrev pub are_credits_of : RunKey → Table CreditKey ℤ → Bool
are_credits_of run rows = list_all (λ e. eq_by_cmp run_key_cmp e.0.run run) rows

-- the runs are in the order of their keys, and what is kept of each is its own
pub record AreKept (runs : Table RunKey KeptRun) : Type 0 where
  pub rising : IsTable run_key_cmp runs
  pub results : IsTrue (list_all (λ e. are_results_of e.0 e.1.results) runs)
  pub credits : IsTrue (list_all (λ e. are_credits_of e.0 e.1.credits) runs)
