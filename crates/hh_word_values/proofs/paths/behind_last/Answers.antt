use Rattle.std.proofs.Common.{arith}
use Rattle.hh_word_values.proofs.PathFacts.{behind_last_is}
use Rattle.hh_word_values.proofs.paths.behind_last.Goals as goal

pub returns : goal.returns
returns c =
    behind_last_is c.args.text.now c.args.byte c.loop-place.start (omega (arith, c.loop-place.invariant.inside))
    (λ k from to. c.loop-place.invariant.later k from (omega arith)) c.loop-place.invariant.last
