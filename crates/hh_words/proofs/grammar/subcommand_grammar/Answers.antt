use Rattle.std.proofs.Common.{◌∙◌, sym}
use Rattle.clap.specs.Words.{new_app, with_rule}
use Rattle.hh_words.proofs.GrammarFacts.{app_with, folded_more, own_with}
use Rattle.hh_words.specs.steps.Subcommands.{word_rule}
use Rattle.hh_words.proofs.grammar.subcommand_grammar.Goals as goal

pub loop-word-preserved : goal.loop-word-preserved
loop-word-preserved c =
    let at = c.loop-word in
    let adds = c.in_ok-grammar.ensures in
    let s = c.args.subcommand in
    record {
      app = app_with adds c.arg_of.ensures.own c.arg_of.ensures.rule at.invariant.app
          ∙ sym (folded_more with_rule word_rule (new_app s.name.now) s.words.now at.word-index _ c.loop-word-test.true);
      own = own_with adds c.arg_of.ensures.own at.invariant.own;
    }
