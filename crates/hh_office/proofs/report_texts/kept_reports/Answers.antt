use Rattle.hh_office.proofs.ReportLaws.{holds_reports}
use Rattle.hh_office.proofs.report_texts.kept_reports.Goals as goal

pub returns : goal.returns
returns c = holds_reports c.kept_summaries.ensures c.kept_results.ensures c.kept_postings.ensures
