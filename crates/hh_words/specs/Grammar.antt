-- The command line, as `clap` reads it.
use Rattle.std.specs.Prelude.{List, [], ◌∷◌, Some, codes, fold, true}
use Rattle.clap.specs.Words.{App, Rule, Text, new_app, new_rule, with_rule, with_subcommand}
use Rattle.clap.specs.declared.builder.ArgAction.TheVariants.{Set}

-- a word that is given at its place, or left out
abbrev pub optional_positional : Text → Rule
optional_positional id = record (new_rule id) { action = Some Set }

-- a required word that is given at its place
abbrev pub positional : Text → Rule
positional id = record (new_rule id) { required = true; action = Some Set }

-- a value that is given after its name
abbrev pub option : Text → Rule
option id = record (new_rule id) { long = Some id; action = Some Set }

-- a required value that is given after its name
abbrev pub required_option : Text → Rule
required_option id = record (option id) { required = true }

-- a command and its words
abbrev pub command : Text → List Rule → App
command name rules = fold with_rule (new_app name) rules

-- `period METER CONTRACTS PRICE`
abbrev pub period_app : App
period_app = command (codes "period") (positional (codes "METER") ∷ positional (codes "CONTRACTS") ∷ positional (codes "PRICE") ∷ [])

-- `script [--db PATH] [--operator-key KEY] [--lead-minutes N] FILE`
abbrev pub script_app : App
script_app = command (codes "script")
    (option (codes "db") ∷ option (codes "operator-key") ∷ option (codes "lead-minutes") ∷ positional (codes "FILE") ∷ [])

-- `init --db PATH --operator-key KEY [--lead-minutes N]`
abbrev pub init_app : App
init_app = command (codes "init") (required_option (codes "db") ∷ required_option (codes "operator-key") ∷ option (codes "lead-minutes") ∷ [])

-- `migrate --db PATH`
abbrev pub migrate_app : App
migrate_app = command (codes "migrate") (required_option (codes "db") ∷ [])

-- `load --db PATH --key KEY [--at SECONDS] KIND FILE`
abbrev pub load_app : App
load_app = command (codes "load") (required_option (codes "db") ∷ required_option (codes "key") ∷ option (codes "at")
    ∷ positional (codes "KIND") ∷ positional (codes "FILE") ∷ [])

-- `run --db PATH --key KEY [--at SECONDS] DATE KIND`
abbrev pub run_app : App
run_app = command (codes "run") (required_option (codes "db") ∷ required_option (codes "key") ∷ option (codes "at")
    ∷ positional (codes "DATE") ∷ positional (codes "KIND") ∷ [])

-- `report --db PATH --key KEY FORM [DATE [KIND]]`
abbrev pub report_app : App
report_app = command (codes "report") (required_option (codes "db") ∷ required_option (codes "key")
    ∷ positional (codes "FORM") ∷ optional_positional (codes "DATE") ∷ optional_positional (codes "KIND") ∷ [])

-- `serve --db PATH --port N [--count N] [--at SECONDS]`
abbrev pub serve_app : App
serve_app = command (codes "serve")
    (required_option (codes "db") ∷ required_option (codes "port") ∷ option (codes "count") ∷ option (codes "at") ∷ [])

-- the program, which needs a subcommand
abbrev pub settle_start : App
settle_start = let a : App = new_app (codes "settle") in
    record { top = record a.top { subcommand_required = true }; subs = [] }

-- a program with one more subcommand
abbrev pub with_command : App → App → App
with_command program subcommand = with_subcommand program subcommand.top

-- the program and its subcommands
abbrev pub program : List App → App
program subcommands = fold with_command settle_start subcommands

-- the program
unfoldable pub settle_app : App
settle_app = program (period_app ∷ script_app ∷ init_app ∷ migrate_app ∷ load_app ∷ run_app ∷ report_app ∷ serve_app ∷ [])
