use Rattle.std.proofs.Common.{refl}
use Rattle.hh_reports.proofs.OutputLaws.{told_back}
use Rattle.hh_reports.proofs.WriterLaws.{results_begun}
use Rattle.hh_reports.proofs.exports.ResultsWriter.begin.Goals as goal

pub returns-in_err-put : goal.returns-in_err-put
returns-in_err-put g c =
    told_back _ _ _ c.in_err-put.field-0.0 _ c.from_residual.ensures.1
    (rw (← results_begun c.args.run.now) (rw c.new-page.ensures at c.in_err-put.ensures))

pub returns : goal.returns
returns g c =
    record { run_is = refl; sent = rw (← results_begun c.args.run.now) (rw c.new-page.ensures at c.in_ok-put.ensures) }
