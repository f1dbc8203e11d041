-- The steps of a script: what the words of its lines ask for.
use Rattle.std.specs.Prelude.{ℕ, ℤ, List, [], ◌∷◌, Option, Some, None, option_map, codes, bytes_eq, if◌then◌else◌}
use Rattle.hh_rows.specs.Kinds.{kind_value}
use Rattle.hh_rows.specs.declared.file_kind.FileKind.{FileKind}
use Rattle.hh_runs.specs.declared.run_key.RunKey.{RunKey}
use Rattle.hh_word_values.specs.Reports.{run_key_value}
use Rattle.hh_word_values.specs.Values.{moment_value, path_name, path_value, shown_key_value}
use Rattle.hh_script.specs.declared.load.LoadLine.{LoadLine}
use Rattle.hh_script.specs.declared.run.RunLine.{RunLine}
use Rattle.hh_script.specs.declared.serve.ServeLine.{ServeLine}
use Rattle.hh_script.specs.declared.script_line.ScriptLine.{ScriptLine}
use Rattle.hh_script.specs.declared.script_line.ScriptLine.TheVariants as line
use Rattle.hh_script.specs.Reports.{ReportStep, report_of, report_value}
use Rattle.hh_script.specs.Serves.{serve_value}
use Rattle.hh_script.specs.Words.{words_of}

-- a file to be loaded: when, by whom, of which kind, its path, and the name by which it is registered
pub record LoadStep : Type 0 where
  pub moment : ℤ
  pub key : List ℕ
  pub kind : FileKind
  pub path : List ℕ
  pub name : List ℕ

-- a run to be made: when, by whom, and which
pub record RunStep : Type 0 where
  pub moment : ℤ
  pub key : List ℕ
  pub run : RunKey

-- a step of a script
pub data Step : Type 0 where
  LoadFile : LoadStep → Step
  MakeRun : RunStep → Step
  WriteReport : ReportStep → Step
  Serve : ServeLine → Step

-- the load that a line asks for
abbrev pub load_of : LoadLine → LoadStep
load_of l = record { moment = l.moment; key = l.key.now; kind = l.kind; path = l.path.now; name = l.name }

-- the run that a line asks for
abbrev pub run_of : RunLine → RunStep
run_of r = record { moment = r.moment; key = r.key.now; run = r.run }

-- the step that a line asks for
abbrev pub step_of : ScriptLine → Step
step_of (line.Load l) = LoadFile (load_of l)
step_of (line.Run r) = MakeRun (run_of r)
step_of (line.Report r) = WriteReport (report_of r)
step_of (line.Serve s) = Serve s

-- the values of a load, if all are there
abbrev pub load_from : Option ℤ → Option (List ℕ) → Option FileKind → Option (List ℕ) → Option (List ℕ) → Option LoadStep
load_from (Some moment) (Some key) (Some kind) (Some path) (Some name) =
    Some (record { moment = moment; key = key; kind = kind; path = path; name = name })
load_from _ _ _ _ _ = None

-- SECONDS KEY KIND PATH
abbrev pub load_value : List (List ℕ) → Option LoadStep
load_value (moment ∷ key ∷ kind ∷ path ∷ []) =
    load_from (moment_value moment) (shown_key_value key) (kind_value kind) (path_value path) (path_name path)
load_value _ = None

-- the values of a run, if all are there
abbrev pub run_from : Option ℤ → Option (List ℕ) → Option RunKey → Option RunStep
run_from (Some moment) (Some key) (Some run) = Some (record { moment = moment; key = key; run = run })
run_from _ _ _ = None

-- SECONDS KEY DATE KIND
abbrev pub run_value : List (List ℕ) → Option RunStep
run_value (moment ∷ key ∷ date ∷ kind ∷ []) =
    run_from (moment_value moment) (shown_key_value key) (run_key_value date kind)
run_value _ = None

-- the step that words ask for; the first word decides its kind
abbrev pub step_of_words : List (List ℕ) → Option Step
step_of_words [] = None
step_of_words (command ∷ words) =
    if bytes_eq command (codes "load") then option_map LoadFile (load_value words)
    else if bytes_eq command (codes "run") then option_map MakeRun (run_value words)
    else if bytes_eq command (codes "report") then option_map WriteReport (report_value words)
    else if bytes_eq command (codes "serve") then option_map Serve (serve_value words)
    else None

-- the step that a line asks for, if it has a form
unfoldable pub step_value : List ℕ → Option Step
step_value text = step_of_words (words_of text)
