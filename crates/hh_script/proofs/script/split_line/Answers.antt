use Rattle.hh_script.proofs.ScriptFacts.{lines_of-cut, lines_of-uncut}
use Rattle.hh_script.proofs.script.split_line.Goals as goal

pub returns-in-Some-clause-lines : goal.returns-in-Some-clause-lines
returns-in-Some-clause-lines c = lines_of-cut c.args.bytes.now c.in-Some.end c.in-Some.ensures

pub returns-in-None-clause-lines : goal.returns-in-None-clause-lines
returns-in-None-clause-lines c = lines_of-uncut c.args.bytes.now c.in-None.ensures c.requires
