use Rattle.std.proofs.Common.{refl}
use Rattle.hh_calc.proofs.ReadyLaws.{failed, passed}
use Rattle.hh_calc.proofs.ready.is_listed.Goals as goal

pub returns-in-Some : goal.returns-in-Some
returns-in-Some c = passed _ (c.in-Some.field-0, c.in-Some.ensures.inside, c.in-Some.ensures.place c.args.account.now)

pub returns-in-None : goal.returns-in-None
returns-in-None c = failed _ (c.in-None.ensures.none refl)
