-- Wherever their rows end, the writers of reports have written a beginning of their text.
use Rattle.std.specs.Prelude.{ℕ, ◌≤◌, List, [], All, refl}
use Rattle.hh_devices.specs.DeviceChanges.{DeviceChange, IsWell}
use Rattle.hh_devices.specs.Devices.{AppendsFront}
use Rattle.std.specs.Io.KnownBytes.{Appends}
use Rattle.hh_keyed_rows.specs.RowFaults.{output_refused}
use Rattle.hh_keyed_rows.specs.declared.row_fault.RowFault.{RowFault}
use Rattle.hh_keyed_rows.specs.declared.row_fault.RowFault.TheVariants.{Memory, Store}
use Rattle.hh_reports.specs.declared.run.ReportedRun.{ReportedRun}
use Rattle.hh_reports.specs.DayReport.{day_report_begun}
use Rattle.hh_reports.specs.Exports.{balances_text, results_text}
use Rattle.hh_reports.specs.Nets.{Amounts, sum_for}
use Rattle.hh_reports.specs.Output.{IsPassed}
use Rattle.hh_reports.specs.Writers.{BalancesState, DayState, HasBalances, HasDay, HasResults, ResultsState, Rows}
use Rattle.hh_keyed_rows.specs.Outputs.{CountsOutput}

module _ (device : DeviceChange) (fault : RowFault) where
  counted : (f : RowFault) → IsWell device → CountsOutput device (output_refused f)
  counted Memory well = well
  counted Store well = well

  left_of : (held text : List ℕ) → IsPassed device held text → AppendsFront device.old device.new text × CountsOutput device (output_refused fault)
  left_of held text sent = ((sent.gone, held, sent.rest, sent.went), counted fault sent.well)

  pub results_left : (writer : ResultsState) (run : ReportedRun) (rows : Rows) → HasResults device writer run rows → AppendsFront device.old device.new (results_text run rows) × CountsOutput device (output_refused fault)
  results_left writer run rows has = left_of writer.held (results_text run rows) has.sent

  pub balances_left : (writer : BalancesState) (amounts : Amounts) (parties : List (List ℕ)) → HasBalances device writer amounts parties
      → AppendsFront device.old device.new (balances_text parties (λ a. sum_for a amounts)) × CountsOutput device (output_refused fault)
  balances_left writer amounts parties has = left_of writer.held (balances_text parties (λ a. sum_for a amounts)) has.sent

  pub day_left : (writer : DayState) (run : ReportedRun) (rows : Rows) → HasDay device writer run rows → All (λ e. 1 ≤ e.0) rows × (AppendsFront device.old device.new (day_report_begun run rows) × CountsOutput device (output_refused fault))
  day_left writer run rows has = ((λ k d within. (has.in_order k d within).0), left_of writer.held (day_report_begun run rows) has.sent)

  pub nothing_left : Appends device.old device.new [] × IsWell device → AppendsFront device.old device.new [] × CountsOutput device (output_refused fault)
  nothing_left untouched = (([], [], refl, untouched.0), counted fault untouched.1)
