use Rattle.std.specs.Prelude.{◌==◌}
use Rattle.hh_script.proofs.LineFacts.{cut_parts, if_none, uncut}
use Rattle.hh_script.proofs.words.split_word.Goals as goal

pub returns-in_err-end-clause-single : goal.returns-in_err-end-clause-single
returns-in_err-end-clause-single c = if_none _ _ (uncut (λ b. b == 32) c.args.text.now c.in_err-end.ensures)

pub returns-clause-several : goal.returns-clause-several
returns-clause-several c = cut_parts (λ b. b == 32) c.args.text.now c.in_ok-end.end c.in_ok-end.ensures
