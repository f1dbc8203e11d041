-- The content that the tables of an office's database have, and what is kept beside it.
use Rattle.std.specs.Prelude.{List, filter, map, Bool, true, false, ◌||◌, not, Option, unwrap_or}
use Rattle.std.specs.FinMap.{find}
use Rattle.std.specs.Ordering.{is_eq}
use Rattle.sqlite_trees.specs.Tree.{Trees}
use Rattle.hh_rows.specs.declared.settings.Settings.{Settings}
use Rattle.hh_rows.specs.declared.settlement_period.SettlementPeriod.{SettlementPeriod}
use Rattle.hh_runs.specs.declared.run_key.RunKey.{RunKey}
use Rattle.hh_keyed_rows.specs.Runs.{run_key_cmp}
use Rattle.hh_keyed_rows.specs.run_keys.ResultKey.{ResultKey}
use Rattle.hh_keyed_rows.specs.Content.{Content}
use Rattle.hh_keyed_rows.specs.Beside.{Beside, agrees}
use Rattle.hh_keyed_rows.specs.declared.amounts.AccountAmounts.{AccountAmounts}
use Rattle.hh_keyed_rows.specs.History.{Registered}
use Rattle.hh_sqltables.specs.Forms.{rows_under_keys}
pub use Rattle.hh_sqltables.specs.Reported.{period_row, posted_amount, result_of}
use Rattle.hh_sqlrows.specs.OfficeTables.{contracts, credits, files, leads, marks, meters, one_row_cmp, parties, period_prices, positions, postings, reallocations, references, results, runs, touched, units}

-- what the accounts have in the Settlement Periods of a run, by period, then by account
abbrev pub rows_of_run : RunKey → Trees → List (ResultKey × AccountAmounts)
rows_of_run run trees = filter (λ e. is_eq (run_key_cmp e.0.run run)) (rows_under_keys results trees)

-- the Settlement Periods that were touched, in their order
abbrev pub touched_periods : Trees → List SettlementPeriod
touched_periods trees = map (λ e. e.0) (rows_under_keys touched trees)

-- what is registered and in force
abbrev pub registered_of : Trees → Registered
registered_of trees = record {
  parties = rows_under_keys parties trees;
  units = rows_under_keys units trees;
  leads = rows_under_keys leads trees;
  meters = rows_under_keys meters trees;
  prices = rows_under_keys period_prices trees;
  references = rows_under_keys references trees;
  contracts = rows_under_keys contracts trees;
  reallocations = rows_under_keys reallocations trees;
}

-- the content with these settings, said to be in step with what is kept beside it
abbrev pub content_of : Settings → Trees → Content
content_of settings trees = record {
  settings = settings;
  registered = registered_of trees;
  files = rows_under_keys files trees;
  runs = rows_under_keys runs trees;
  results = map result_of (rows_under_keys results trees);
  credits = rows_under_keys credits trees;
  postings = rows_under_keys postings trees;
  is_in_step = true;
}

-- what is kept beside the content
abbrev pub beside_in : Trees → Beside
beside_in trees = record { positions = rows_under_keys positions trees; touched = touched_periods trees }

-- the mark, which says whether anything is kept beside the content
abbrev pub mark_in : Trees → Option Bool
mark_in trees = find one_row_cmp (record {}) (rows_under_keys marks trees)

-- What is kept beside a content agrees with it. This is also so if the mark doesn't say that anything is kept.
unfoldable pub is_in_step_in : Content → Trees → Bool
is_in_step_in content trees = not (unwrap_or (mark_in trees) false) || agrees content (beside_in trees)

-- the content with these settings, and whether what is kept beside it agrees with it
abbrev pub stored_content : Settings → Trees → Content
stored_content settings trees =
    let content = content_of settings trees in record content { is_in_step = is_in_step_in content trees }
