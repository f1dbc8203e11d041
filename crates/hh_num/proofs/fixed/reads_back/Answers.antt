use Rattle.hh_num.proofs.GrammarFacts.{IsFixed-fixed_text, one_value}
use Rattle.hh_num.proofs.fixed.reads_back.Goals as goal

pub returns-clause-spelled : goal.returns-clause-spelled
returns-clause-spelled c = IsFixed-fixed_text

pub returns-clause-one_value : goal.returns-clause-one_value
returns-clause-one_value c = one_value
