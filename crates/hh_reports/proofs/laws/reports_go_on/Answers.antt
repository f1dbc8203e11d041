use Rattle.hh_reports.proofs.RisingLaws.{day_goes_on}
use Rattle.hh_reports.proofs.WriterLaws.{balances_go_on, results_go_on}
use Rattle.hh_reports.proofs.laws.reports_go_on.Goals as goal

pub returns-clause-results : goal.returns-clause-results
returns-clause-results c = results_go_on

pub returns-clause-balances : goal.returns-clause-balances
returns-clause-balances c = balances_go_on

pub returns-clause-day : goal.returns-clause-day
returns-clause-day c = day_goes_on
