use Rattle.std.proofs.Common.{◌≡◌, [], ◌∷◌, ◌++◌, rules}
use Rattle.hh_script.proofs.ScriptFacts.{nothing_left, read_all, read_more}
use Rattle.hh_script.proofs.script.read_script.Goals as goal

pub returns-clause-lines : goal.returns-clause-lines
returns-clause-lines c =
    read_all c.args.bytes.now c.loop-rest.rest.now c.loop-rest.lines.items c.loop-rest.invariant
    (nothing_left c.loop-rest.rest.now c.is_empty.result c.is_empty.ensures c.loop-rest-test.false)

pub loop-rest-preserved : goal.loop-rest-preserved
loop-rest-preserved c =
    let last : c.push.new.self.items ≡ c.loop-rest.lines.items ++ c.in-Some.line ∷ [] = search rules in
    read_more c.args.bytes.now c.loop-rest.rest.now c.loop-rest.lines.items c.loop-rest.invariant c.split_line.result.0.now c.split_line.result.1.now c.in-Some.line c.push.new.self.items
    c.split_line.ensures.lines c.in-Some.ensures last
