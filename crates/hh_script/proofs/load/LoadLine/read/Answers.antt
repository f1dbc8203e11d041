use Rattle.std.proofs.Common.{ap, ◌∙◌}
use Rattle.std.specs.Prelude.{option_map}
use Rattle.hh_script.specs.Steps.{load_of}
use Rattle.hh_script.specs.Words.{words_of}
use Rattle.hh_script.proofs.LoadFacts.{five_words}
use Rattle.hh_script.proofs.load.LoadLine.read.Goals as goal

pub returns-in_err-only_word : goal.returns-in_err-only_word
returns-in_err-only_word c =
    ap (option_map load_of) c.from_residual-in_err-only_word.ensures
    ∙ five_words (words_of c.args.text.now) c.in_ok-moment.moment.now (words_of c.in_ok-moment.text.now) c.in_ok-moment.ensures.several
    c.in_ok-key.key.now (words_of c.in_ok-key.text.now) c.in_ok-key.ensures.several
    c.in_ok-kind.kind.now (words_of c.in_ok-kind.text.now) c.in_ok-kind.ensures.several c.in_err-only_word.ensures.several
