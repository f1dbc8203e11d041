use Rattle.hh_wire.proofs.PartLemmas.{cut_part, if_none, uncut}
use Rattle.hh_wire.proofs.route.split_part.Goals as goal

pub returns-in_err-end-clause-single : goal.returns-in_err-end-clause-single
returns-in_err-end-clause-single c = if_none _ _ (uncut c.args.path.now c.in_err-end.ensures)

pub returns-clause-several : goal.returns-clause-several
returns-clause-several c = cut_part c.args.path.now c.in_ok-end.end c.in_ok-end.ensures
