-- The reports that tables write, and the outcome of a call that writes one.
use Rattle.std.specs.Prelude.{ℕ, ℤ, List, map, Option, option_map, Result, Ok, Err}
use Rattle.std.specs.FinMap.{find}
use Rattle.std.specs.Io.KnownBytes.{Appends}
use Rattle.hh_devices.specs.DeviceChanges.{DeviceChange, HasFailed, IsWell}
use Rattle.hh_devices.specs.Devices.{AppendsFront}
use Rattle.hh_states.specs.account.Account.{Account}
use Rattle.hh_states.specs.summary.Summary.{Summary}
use Rattle.hh_states.specs.run_key.RunKey.{RunKey}
use Rattle.hh_reports.specs.declared.run.ReportedRun.{ReportedRun}
use Rattle.hh_reports.specs.DayReport.{day_report_text}
use Rattle.hh_reports.specs.Exports.{balances_text, results_text}
use Rattle.hh_states.specs.Content.{Content}
use Rattle.hh_states.specs.Reads.{postings_in, results_in}
use Rattle.hh_states.specs.Runs.{run_key_cmp}
use Rattle.hh_states.specs.Totals.{total}
use Rattle.hh_store.specs.declared.output_fault.OutputFault.{OutputFault}
use Rattle.hh_store.specs.declared.output_fault.OutputFault.TheVariants.{Memory, Store, Write}

-- a run with this summary, as its reports show it
abbrev pub reported_as : RunKey → Summary → ReportedRun
reported_as key summary = record { date = key.date; kind = key.kind; periods = summary.periods }

module _ (content : Content) where
  -- the day report of a run with this summary, by its rows in the table of results
  abbrev pub day_report_with : RunKey → Summary → List ℕ
  day_report_with key summary = day_report_text (reported_as key summary) (results_in content key)

  -- the results of a run with this summary, by its rows in that table
  abbrev pub export_with : RunKey → Summary → List ℕ
  export_with key summary = results_text (reported_as key summary) (results_in content key)

  -- a run as its reports show it, if it exists
  abbrev pub reported_in : RunKey → Option ReportedRun
  reported_in key = option_map (reported_as key) (find run_key_cmp key content.runs)

  -- the day report of a run, by its rows in the table of results, if the run exists
  abbrev pub day_report_in : RunKey → Option (List ℕ)
  day_report_in key = option_map (λ run. day_report_text run (results_in content key)) (reported_in key)

  -- the results of a run, by its rows in that table, if the run exists
  abbrev pub export_in : RunKey → Option (List ℕ)
  export_in key = option_map (λ run. results_text run (results_in content key)) (reported_in key)

  -- the sum of what was posted to an account
  abbrev pub balance_in : Account → ℤ
  balance_in account = total (λ e. e.1) (postings_in content account)

  -- the balances of both accounts of every registered party
  abbrev pub balances_in : List ℕ
  balances_in = balances_text (map (λ e. e.0) content.registered.parties) balance_in

-- What a call changes in a sink.
module _ (device : DeviceChange) where
  -- a failure is counted if the fault says that the output failed, and otherwise none
  abbrev pub CountsOutput : OutputFault → Type 0
  CountsOutput Memory = IsWell device
  CountsOutput Store = IsWell device
  CountsOutput Write = HasFailed device

  -- one failure is counted if the call ended for that reason, and otherwise none
  abbrev pub CountsOutcome : {A : Type 0} → Result A OutputFault → Type 0
  CountsOutcome (Ok x) = IsWell device
  CountsOutcome (Err fault) = CountsOutput fault

  -- the text and nothing else went out and the sink did not fail; or the call failed and a beginning of the text went out
  abbrev pub Outputs : {A : Type 0} → List ℕ → Result A OutputFault → Type 0
  Outputs text (Ok x) = Appends device.old device.new text × IsWell device
  Outputs text (Err fault) = AppendsFront device.old device.new text × CountsOutput fault
