use Rattle.hh_reports.proofs.ReportLaws.{Rises, StaysBelow}
use Rattle.hh_reports.proofs.period_rows.is_rising.Given as goal

-- the periods of the rows so far never fall
abbrev pub invariant-loop-row : goal.invariant-loop-row
invariant-loop-row l = record {
  rises : Rises l.rows l.row-index;
  below : StaysBelow l.rows l.row-index l.last;
}
