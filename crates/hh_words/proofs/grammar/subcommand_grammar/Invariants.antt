use Rattle.std.proofs.Common.{◌≡◌, false, map, take}
use Rattle.clap.specs.Words.{app_of}
use Rattle.clap.specs.declared.builder.command.Command.TheViews.{out-Command}
use Rattle.hh_words.specs.Grammar.{command}
use Rattle.hh_words.specs.steps.Subcommands.{word_rule}
use Rattle.hh_words.proofs.grammar.subcommand_grammar.Given as goal

abbrev pub invariant-loop-word : goal.invariant-loop-word
invariant-loop-word l = record {
  app : app_of l.grammar ≡ command l.fn.subcommand.name.now (map word_rule (take l.word-index l.fn.subcommand.words.now));
  own : (out-Command l.grammar).has_globals ≡ false;
}
