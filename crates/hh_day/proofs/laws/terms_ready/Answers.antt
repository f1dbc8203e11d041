use Rattle.hh_day.proofs.FitLaws.{terms_ready}
use Rattle.hh_day.proofs.laws.terms_ready.Goals as goal

pub returns : goal.returns
returns c = terms_ready c.periods_ready.ensures c.nets_settle_alike.ensures.ready
