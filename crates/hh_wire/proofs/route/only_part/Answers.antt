use Rattle.std.proofs.Common.{ap, arith, length}
use Rattle.hh_wire.proofs.PartLemmas.{some_part}
use Rattle.hh_wire.proofs.route.only_part.Goals as goal

pub returns-in-Some-clause-several : goal.returns-in-Some-clause-several
returns-in-Some-clause-several c = omega (arith, ap length c.in-Some.ensures.several, some_part c.in-Some.field-0.1.now)
