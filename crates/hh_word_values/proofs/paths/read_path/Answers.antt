use Rattle.hh_word_values.proofs.PathFacts.{no_path, text_path}
use Rattle.hh_word_values.proofs.paths.read_path.Goals as goal

pub returns-in-Ok : goal.returns-in-Ok
returns-in-Ok c = text_path c.args.word.now c.in-Ok.path.now c.in-Ok.ensures.cases.0 c.in-Ok.ensures.cases.1

pub returns-in-Err : goal.returns-in-Err
returns-in-Err c = no_path c.args.word.now c.in-Err.ensures.cases.0
