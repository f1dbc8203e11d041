use Rattle.std.proofs.Common.{refl, arith}
use Rattle.hh_reports.proofs.DayLaws.{day_begun_none}
use Rattle.hh_reports.proofs.OutputLaws.{told_back}
use Rattle.hh_reports.proofs.day_report.DayReportWriter.begin.Goals as goal

pub returns-in_err-write_heads : goal.returns-in_err-write_heads
returns-in_err-write_heads g c =
    told_back _ _ _ c.in_err-write_heads.field-0.0 _ c.from_residual.ensures.1
    (rw (← day_begun_none c.args.run.now) (rw c.new-page.ensures at c.in_err-write_heads.ensures))

pub returns : goal.returns
returns g c =
    record {
      run_is = refl;
      period = refl;
      charges = refl;
      nets = c.new.ensures;
      in_order = λ k d lt. absurd (omega arith);
      sent = rw (← day_begun_none c.args.run.now) (rw c.new-page.ensures at c.in_ok-write_heads.ensures);
    }
