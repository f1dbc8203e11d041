-- What the commands on a database file ask for.
use Rattle.std.specs.Prelude.{ℕ, ℤ, List, Option, Some, None, bytes_eq, codes, option_and_then, option_map, if◌then◌else◌}
use Rattle.clap.specs.Words.{Row, Text, first_of}
use Rattle.hh_requests.specs.declared.report.Report.{Report}
use Rattle.hh_rows.specs.Kinds.{kind_value}
use Rattle.hh_rows.specs.declared.file_kind.FileKind.{FileKind}
use Rattle.hh_runs.specs.declared.run_key.RunKey.{RunKey}
use Rattle.hh_word_values.specs.Connections.{port_value}
use Rattle.hh_word_values.specs.Reports.{form_value, run_key_value}
use Rattle.hh_word_values.specs.Values.{path_name}
use Rattle.hh_words.specs.Given.{count_given, given_key, given_moment, given_settings, required_value}
use Rattle.hh_words.specs.Tasks.{ToInit, ToLoad, ToMigrate, ToRun, ToServe, Task, ToReport}

-- what `init` was given
unfoldable pub given_init : List Row → Option Task
given_init rows = option_map ToInit (given_settings rows)

-- `load` needs each of its values
abbrev pub whole_load : Option (Option ℤ) → Option Text → Option FileKind → Option Text → Option Text → Option Task
whole_load (Some at) (Some key) (Some kind) (Some path) (Some name) =
    Some (ToLoad (record { at = at; key = key; kind = kind; path = path; name = name }))
whole_load _ _ _ _ _ = None

-- what `load` was given
unfoldable pub given_load : List Row → Option Task
given_load rows = let file = first_of (codes "FILE") rows in
    whole_load (given_moment rows) (given_key rows) (required_value kind_value (first_of (codes "KIND") rows)) file (required_value path_name file)

-- the run of a date and a kind, if both are given
abbrev pub run_named : Option Text → Option Text → Option RunKey
run_named (Some date) (Some kind) = run_key_value date kind
run_named _ _ = None

-- `run` needs each of its values
abbrev pub whole_run : Option (Option ℤ) → Option Text → Option RunKey → Option Task
whole_run (Some at) (Some key) (Some run) = Some (ToRun (record { at = at; key = key; run = run }))
whole_run _ _ _ = None

-- what `run` was given
unfoldable pub given_run : List Row → Option Task
given_run rows = whole_run (given_moment rows) (given_key rows) (run_named (first_of (codes "DATE") rows) (first_of (codes "KIND") rows))

-- the report of a form: about a run if DATE and KIND are given, and about no run if neither is
abbrev pub report_asked : Text → Option Text → Option Text → Option Report
report_asked form None None = form_value form None
report_asked form date kind = option_and_then (λ run. form_value form (Some run)) (run_named date kind)

-- the report that the words FORM, DATE and KIND ask for
abbrev pub given_report_asked : List Row → Option Report
given_report_asked rows =
    required_value (λ form. report_asked form (first_of (codes "DATE") rows) (first_of (codes "KIND") rows)) (first_of (codes "FORM") rows)

-- `report` needs both of its values
abbrev pub whole_report : Option Text → Option Report → Option Task
whole_report (Some key) (Some report) = Some (ToReport (record { key = key; report = report }))
whole_report _ _ = None

-- what `report` was given
unfoldable pub given_report : List Row → Option Task
given_report rows = whole_report (given_key rows) (given_report_asked rows)

-- `serve` needs each of its values
abbrev pub whole_serve : Option (Option ℤ) → Option ℕ → Option ℕ → Option Task
whole_serve (Some at) (Some port) (Some count) = Some (ToServe (record { at = at; port = port; count = count }))
whole_serve _ _ _ = None

-- what `serve` was given
unfoldable pub given_serve : List Row → Option Task
given_serve rows = whole_serve (given_moment rows) (required_value port_value (first_of (codes "port") rows))
    (count_given (first_of (codes "count") rows))

-- the task of a subcommand on a database file, given its name and the values beside the file's path
abbrev pub given_task : Text → List Row → Option Task
given_task name rows =
    if bytes_eq name (codes "init") then given_init rows
    else if bytes_eq name (codes "migrate") then Some ToMigrate
    else if bytes_eq name (codes "load") then given_load rows
    else if bytes_eq name (codes "run") then given_run rows
    else if bytes_eq name (codes "report") then given_report rows
    else if bytes_eq name (codes "serve") then given_serve rows
    else None
