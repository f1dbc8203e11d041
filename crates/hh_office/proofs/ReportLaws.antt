-- The reports that the tables of a state give are those of the state.
use Rattle.std.proofs.Common.{◌≡◌, ℕ, List, [], ◌∷◌, ◌++◌, map, refl, ap, ◌∙◌, true, false, cond, Option, Some}
use Rattle.std.specs.Prelude.{option_map}
use Rattle.std.specs.Prelude as words
use Rattle.std.specs.FinMap.{find}
use Rattle.std.specs.List.{AllByRecursion}
use Rattle.std.specs.Ordering.{eq_by_cmp}
use Rattle.std.proofs.lemmas.Map.Views.{tells_apart}
use Rattle.hh_time.specs.Days.{Midnights}
use Rattle.hh_calc.specs.declared.result.AccountRow.{AccountRow}
use Rattle.hh_runs.specs.declared.summary.Summary.{Summary}
use Rattle.hh_runs.specs.declared.run_key.RunKey.{RunKey}
use Rattle.hh_store.specs.run.ReportedRun.{ReportedRun}
use Rattle.hh_store.specs.DayReport.{day_report_text}
use Rattle.hh_store.specs.Exports.{balances_text, results_text}
use Rattle.hh_states.specs.Content.{tables_of}
use Rattle.hh_states.specs.Reads.{results_in}
use Rattle.hh_states.specs.RunReads.{HoldsPostings, HoldsResults, HoldsSummaries, rows_in_run}
use Rattle.hh_states.specs.Runs.{Run, latest_run, run_key_cmp, summary_after, with_former}
use Rattle.hh_states.specs.States.{State}
use Rattle.hh_states.specs.Steps.{IsReached, registered_at, timetable_at}
use Rattle.hh_states.proofs.KeyLaws.{exact_run_keys}
use Rattle.hh_store.specs.Outputs.{reported_as}
use Rattle.hh_office.specs.ReportTexts.{HoldsReports, reported}

module _ (midnight : Midnights) (s : State) (key : RunKey) (text : ReportedRun → List (ℕ × AccountRow) → List ℕ) where
  -- the rows in the tables under the key
  abbrev held : List (ℕ × AccountRow)
  held = results_in (tables_of midnight s) key

  -- a run and its former run, as an entry: its key and its summary
  abbrev entry : Option Run × Run → RunKey × Summary
  entry r = (r.1.key, summary_after (timetable_at midnight s) s.history r.0 r.1)

  -- what is told about the first entry with the key is told about the first run with the key
  told_of : (earlier runs : List Run) → AllByRecursion (λ r. results_in (tables_of midnight s) r.key ≡ rows_in_run midnight s r) runs
      → option_map (λ run. text run held) (option_map (reported_as key) (find run_key_cmp key (map entry (with_former earlier runs))))
      ≡ option_map (λ run. text (reported midnight run) (rows_in_run midnight s run)) (words.find (λ r. eq_by_cmp run_key_cmp key r.key) runs)
  told_of earlier [] all = refl
  told_of earlier (r ∷ runs) all =
      let rest : Option Summary = find run_key_cmp key (map entry (with_former (earlier ++ r ∷ []) runs)) in
      let summary : Summary = summary_after (timetable_at midnight s) s.history (latest_run r.key.date earlier) r in
      elim (eq_by_cmp run_key_cmp key r.key) as (λ b. eq_by_cmp run_key_cmp key r.key ≡ b
      → option_map (λ run. text run held) (option_map (reported_as key) (cond b (Some summary) rest))
      ≡ option_map (λ run. text (reported midnight run) (rows_in_run midnight s run)) (cond b (Some r) (words.find (λ r. eq_by_cmp run_key_cmp key r.key) runs))) [
        | true ↦ λ is.
            let same : key ≡ r.key = tells_apart exact_run_keys key r.key is in
            (λ i. Some (text (reported_as (same i) summary) (results_in (tables_of midnight s) (same i))))
            ∙ ap (λ rows. Some (text (reported midnight r) rows)) all.0
        | false ↦ λ is. told_of (earlier ++ r ∷ []) runs all.1
      ] refl

  -- the same for the run that is kept under the key
  told_by_tables : HoldsSummaries → HoldsResults → IsReached midnight s
      → option_map (λ run. text run held) (option_map (reported_as key) (find run_key_cmp key (tables_of midnight s).runs))
      ≡ option_map (λ run. text (reported midnight run) (rows_in_run midnight s run)) (words.find (λ r. eq_by_cmp run_key_cmp key r.key) s.runs)
  told_by_tables summaries results reached =
      ap (λ o. option_map (λ run. text run held) (option_map (reported_as key) o)) (summaries midnight s key)
      ∙ told_of [] s.runs (results midnight s reached)

-- given the summaries, rows and postings of a reached state, the reports that its tables give are the state's
pub holds_reports : HoldsSummaries → HoldsResults → HoldsPostings → HoldsReports
holds_reports summaries results postings midnight s reached = (
  λ key. told_by_tables midnight s key day_report_text summaries results reached,
  λ key. told_by_tables midnight s key results_text summaries results reached,
  λ i. balances_text (map (λ e. e.0) (registered_at midnight s).parties) (λ a. postings midnight s a reached i),
)
