-- The grammar of a subcommand that is given by its name and its words.
use Rattle.std.specs.Prelude.{map}
use Rattle.clap.specs.Words.{App, Rule, Text}
use Rattle.hh_words.specs.Grammar.{command, option, optional_positional, positional, required_option}
use Rattle.hh_words.specs.declared.grammar.Form.{Form}
use Rattle.hh_words.specs.declared.grammar.Form.TheVariants.{Placed, PlacedIfAny, Named, NamedIfAny}
use Rattle.hh_words.specs.declared.grammar.Subcommand.{Subcommand}
use Rattle.hh_words.specs.declared.grammar.Word.{Word}

-- the rule for a way in which a value is given
abbrev pub form_rule : Form → Text → Rule
form_rule Placed = positional
form_rule PlacedIfAny = optional_positional
form_rule Named = required_option
form_rule NamedIfAny = option

-- a word, as `clap` reads it
abbrev pub word_rule : Word → Rule
word_rule word = form_rule word.form word.name.now

-- a subcommand, as `clap` reads it
abbrev pub subcommand_app : Subcommand → App
subcommand_app s = command s.name.now (map word_rule s.words.now)
