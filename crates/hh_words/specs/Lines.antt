-- What a line of words asks for.
use Rattle.std.specs.Prelude.{◌≡◌, ◌++◌, Bool, false, List, [], ◌∷◌, Option, Some, None, codes, string_bytes, if◌then◌else◌}
use Rattle.std.specs.Str.{bytes_eq}
use Rattle.clap.specs.Words.{Row, Text, first_of, fault_of, subcommand_of}
use Rattle.clap.specs.Kinds.{Kinds}
use Rattle.hh_rows.specs.declared.settings.Settings.{Settings}
use Rattle.hh_words.specs.Database.{given_task}
use Rattle.hh_words.specs.Given.{settings_given}
use Rattle.hh_words.specs.Grammar.{settle_app}
use Rattle.hh_words.specs.Tasks.{ToRunScript, Task, task_of}
use Rattle.hh_words.specs.declared.words.Command.{Command}
use Rattle.hh_words.specs.declared.words.Command.TheVariants.{Period, Script, OnDatabase}
use Rattle.hh_words.specs.declared.words.WordsFault.{WordsFault}
use Rattle.hh_words.specs.declared.words.WordsFault.TheVariants.{Memory, Wrong}

-- a command with its values; a command on a database file has the file's path first
pub data Line : Type 0 where
  PeriodCommand : Text → Text → Text → Line
  ScriptCommand : Settings → Text → Line
  DatabaseCommand : Text → Task → Line

-- a command's values
abbrev pub line_of : Command → Line
line_of (Period words) = PeriodCommand words.meter.now words.contracts.now words.price.now
line_of (Script words) = ScriptCommand words.settings words.file.now
line_of (OnDatabase words) = DatabaseCommand words.path.now (task_of words.task)

-- `period` needs its three values
abbrev pub period_line : Option Text → Option Text → Option Text → Option Line
period_line (Some meter) (Some contracts) (Some price) = Some (PeriodCommand meter contracts price)
period_line _ _ _ = None

-- what `period` was given
unfoldable pub given_period : List Row → Option Line
given_period rows = period_line (first_of (codes "METER") rows) (first_of (codes "CONTRACTS") rows) (first_of (codes "PRICE") rows)

-- a command on a database file needs the file's path
abbrev pub database_line : Option Text → Option Task → Option Line
database_line (Some path) (Some task) = Some (DatabaseCommand path task)
database_line _ _ = None

-- the command of another subcommand, given its values
abbrev pub given_database : Text → List Row → Option Line
given_database name rows = database_line (first_of (codes "db") rows) (given_task name rows)

-- a script over a new office needs the office's settings and its file
abbrev pub new_script_line : Option Settings → Option Text → Option Line
new_script_line (Some settings) (Some file) = Some (ScriptCommand settings file)
new_script_line _ _ = None

-- a script over the office of a database file is given no key of the operator and no minutes, because that office has its own
abbrev pub database_script_line : Text → Option Text → Option Text → Option Text → Option Line
database_script_line path None None (Some file) = Some (DatabaseCommand path (ToRunScript file))
database_script_line path _ _ _ = None

-- a script, with the path of a database file or without
abbrev pub script_line : Option Text → Option Text → Option Text → Option Text → Option Line
script_line None key minutes file = new_script_line (settings_given key minutes) file
script_line (Some path) key minutes file = database_script_line path key minutes file

-- what `script` was given
unfoldable pub given_script : List Row → Option Line
given_script rows = script_line (first_of (codes "db") rows) (first_of (codes "operator-key") rows) (first_of (codes "lead-minutes") rows) (first_of (codes "FILE") rows)

-- the command of a subcommand, given its name and its values
abbrev pub given_command : Text → List Row → Option Line
given_command name rows =
    if bytes_eq name (codes "period") then given_period rows
    else if bytes_eq name (codes "script") then given_script rows
    else given_database name rows

-- the same, if there is a subcommand
abbrev pub given_line : Option (Text × List Row) → Option Line
given_line None = None
given_line (Some given) = given_command given.0 given.1

-- a command, if `clap` finds no fault
abbrev pub faultless : Kinds → Option Line → Option Line
faultless [] line = line
faultless (kind ∷ kinds) line = None

-- the command that the words form by `clap`'s grammar, after the program's own name
unfoldable pub line_value : List Text → Option Line
line_value words = faultless (fault_of settle_app words) (given_line (subcommand_of settle_app words))

-- how the program is used, in short
abbrev pub usage : Text
usage = codes "usage: settle period METER CONTRACTS PRICE\n       settle script --operator-key KEY [--lead-minutes N] [--strict] FILE\n       settle script --db PATH [--strict] FILE\n       settle init --db PATH --operator-key KEY [--lead-minutes N]\n       settle migrate --db PATH\n       settle load --db PATH --key KEY [--at SECONDS] KIND FILE\n       settle run --db PATH --key KEY [--at SECONDS] DATE KIND\n       settle report --db PATH --key KEY FORM [DATE KIND]\n       settle serve --db PATH --port N [--count N] [--at SECONDS]\n       settle --version\n       --key-file PATH and --operator-key-file PATH take the key from a file\n       with any command: [--explain]\n"

-- a text that ends with how the program is used
abbrev pub EndsWithUsage : Text → Type 0
EndsWithUsage text = (front : Text) × (text ≡ front ++ usage)

-- if `clap` finds no fault in words that are wrong, a value is off its grammar, and the text that is told ends with how the program is used
abbrev pub TellsUsage : List Text → WordsFault → Type 0
TellsUsage words (Wrong text) = fault_of settle_app words ≡ [] → EndsWithUsage (string_bytes text)
TellsUsage words Memory = Unit {0}

-- what the program tells about its version
abbrev pub version_text : Text
version_text = codes "settle 2.0.0, tables of version 2\n"

-- words that ask for the version: only `--version` after the program's own name
abbrev pub asks_version : List Text → Bool
asks_version (name ∷ word ∷ []) = bytes_eq word (codes "--version")
asks_version _ = false
