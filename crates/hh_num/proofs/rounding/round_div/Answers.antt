use Rattle.std.proofs.Common.{rules}
use Rattle.hh_num.proofs.RoundingFacts.{IsNear_from}
use Rattle.hh_num.proofs.rounding.round_div.Goals as goal

pub returns-then-n-lt0-clause-nearest : goal.returns-then-n-lt0-clause-nearest
returns-then-n-lt0-clause-nearest c = IsNear_from c.args.n c.args.m _ c.requires.divisor (search rules)

pub returns-else-n-lt0-clause-nearest : goal.returns-else-n-lt0-clause-nearest
returns-else-n-lt0-clause-nearest c = IsNear_from c.args.n c.args.m _ c.requires.divisor (search rules)
