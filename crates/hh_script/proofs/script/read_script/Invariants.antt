use Rattle.std.proofs.Common.{length}
use Rattle.hh_script.proofs.ScriptFacts.{IsReadTo}
use Rattle.hh_script.proofs.script.read_script.Given as goal

abbrev pub invariant-loop-rest : goal.invariant-loop-rest
invariant-loop-rest l = IsReadTo l.bytes l.rest l.lines.items

abbrev pub decreases-loop-rest : goal.decreases-loop-rest
decreases-loop-rest l = length l.rest
