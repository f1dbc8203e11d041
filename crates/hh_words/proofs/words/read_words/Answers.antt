use Rattle.std.proofs.Common.{Some, None}
use Rattle.clap.specs.Words.{app_of}
use Rattle.hh_words.specs.Lines.{line_of}
use Rattle.hh_words.proofs.LineFacts.{line_value-parsed, line_value-refused, tells_usage-refused}
use Rattle.hh_words.proofs.words.read_words.Goals as goal

pub returns-in-Some-clause-command : goal.returns-in-Some-clause-command
returns-in-Some-clause-command c = line_value-parsed (app_of c.in_ok-settle.settle) _ c.in-Ok.matches (Some (line_of c.in-Some.command))
    c.in_ok-settle.ensures.app c.in-Ok.ensures.kinds c.in-Ok.ensures.matches c.in-Some.ensures

pub returns-in-Ok-clause-wrong : goal.returns-in-Ok-clause-wrong
returns-in-Ok-clause-wrong c _ = line_value-parsed (app_of c.in_ok-settle.settle) _ c.in-Ok.matches None
    c.in_ok-settle.ensures.app c.in-Ok.ensures.kinds c.in-Ok.ensures.matches c.in-None.ensures

pub returns-clause-wrong : goal.returns-clause-wrong
returns-clause-wrong c other = line_value-refused (app_of c.in_ok-settle.settle) _ c.in-Err.error
    c.in_ok-settle.ensures.app c.in-Err.ensures.kinds (λ memory. other (c.fault_of.ensures memory))

pub returns-clause-usage : goal.returns-clause-usage
returns-clause-usage c = tells_usage-refused (app_of c.in_ok-settle.settle) _ c.in-Err.error c.fault_of.result
    c.in_ok-settle.ensures.app c.in-Err.ensures.kinds c.fault_of.ensures
