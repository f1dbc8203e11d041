use Rattle.hh_day.proofs.FitLaws.{runs_fit}
use Rattle.hh_day.proofs.laws.runs_fit.Goals as goal

pub returns : goal.returns
returns c = runs_fit c.turnovers_within.ensures c.summaries_within.ensures c.kept_results.ensures c.writes_the_run.ensures
