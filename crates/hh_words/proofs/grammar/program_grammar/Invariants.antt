use Rattle.std.proofs.Common.{◌≡◌, false, map, take}
use Rattle.clap.specs.Words.{app_of}
use Rattle.clap.specs.declared.builder.command.Command.TheViews.{out-Command}
use Rattle.hh_words.specs.Grammar.{program}
use Rattle.hh_words.specs.steps.Subcommands.{subcommand_app}
use Rattle.hh_words.proofs.grammar.program_grammar.Given as goal

abbrev pub invariant-loop-subcommand : goal.invariant-loop-subcommand
invariant-loop-subcommand l = record {
  app : app_of l.settle ≡ program (map subcommand_app (take l.subcommand-index l.fn.subcommands));
  own : (out-Command l.settle).has_globals ≡ false;
}
