use Rattle.std.proofs.Common.{◌∙◌, sym}
use Rattle.hh_words.proofs.GrammarFacts.{app_with_command, folded_more, own_with_command}
use Rattle.hh_words.specs.Grammar.{settle_start, with_command}
use Rattle.hh_words.specs.steps.Subcommands.{subcommand_app}
use Rattle.hh_words.proofs.grammar.program_grammar.Goals as goal

pub loop-subcommand-preserved : goal.loop-subcommand-preserved
loop-subcommand-preserved c =
    let at = c.loop-subcommand in
    let adds = c.in_ok-settle.ensures in
    let under = c.in_ok-subcommand_grammar.ensures in
    record {
      app = app_with_command adds under.own under.app at.invariant.app
          ∙ sym (folded_more with_command subcommand_app settle_start c.args.subcommands.now at.subcommand-index _ c.loop-subcommand-test.true);
      own = own_with_command adds under.own at.invariant.own;
    }
