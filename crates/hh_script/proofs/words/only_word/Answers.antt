use Rattle.std.proofs.Common.{ap, arith, length}
use Rattle.hh_script.proofs.LoadFacts.{some_word}
use Rattle.hh_script.proofs.words.only_word.Goals as goal

pub returns-in-Some-clause-several : goal.returns-in-Some-clause-several
returns-in-Some-clause-several c = omega (arith, ap length c.in-Some.ensures.several, some_word c.in-Some.field-0.1.now)
