-- What is done on a database file.
use Rattle.std.specs.Prelude.{ℤ, Option}
use Rattle.clap.specs.Words.{Text}
use Rattle.hh_requests.specs.declared.report.Report.{Report}
use Rattle.hh_rows.specs.declared.file_kind.FileKind.{FileKind}
use Rattle.hh_rows.specs.declared.settings.Settings.{Settings}
use Rattle.hh_runs.specs.declared.run_key.RunKey.{RunKey}
use Rattle.hh_words.specs.declared.database.DatabaseTask.{DatabaseTask}
use Rattle.hh_words.specs.declared.database.DatabaseTask.TheVariants as given
use Rattle.hh_words.specs.declared.database.LoadWords.{LoadWords}
use Rattle.hh_words.specs.declared.database.ReportWords.{ReportWords}
use Rattle.hh_words.specs.declared.database.RunWords.{RunWords}
use Rattle.hh_words.specs.declared.database.ServeWords.{ServeWords}

-- a file to be loaded: when, by whom, of which kind, its path, and the name by which it is registered
pub record LoadTask : Type 0 where
  pub at : Option ℤ
  pub key : Text
  pub kind : FileKind
  pub path : Text
  pub name : Text

-- a run to be made: when, by whom, and which
pub record RunTask : Type 0 where
  pub at : Option ℤ
  pub key : Text
  pub run : RunKey

-- a report to be written: by whom it is asked for, and which
pub record ReportTask : Type 0 where
  pub key : Text
  pub report : Report

-- what is done on a database file, with its values
pub data Task : Type 0 where
  ToInit : Settings → Task
  ToMigrate : Task
  ToLoad : LoadTask → Task
  ToRun : RunTask → Task
  ToReport : ReportTask → Task
  ToServe : ServeWords → Task
  ToRunScript : Text → Task

abbrev pub load_task : LoadWords → LoadTask
load_task l = record { at = l.at; key = l.key.now; kind = l.kind; path = l.path.now; name = l.name }

abbrev pub run_task : RunWords → RunTask
run_task r = record { at = r.at; key = r.key.now; run = r.run }

abbrev pub report_task : ReportWords → ReportTask
report_task r = record { key = r.key.now; report = r.report }

-- the values of a task
abbrev pub task_of : DatabaseTask → Task
task_of (given.Init settings) = ToInit settings
task_of given.Migrate = ToMigrate
task_of (given.Load words) = ToLoad (load_task words)
task_of (given.Run words) = ToRun (run_task words)
task_of (given.Report words) = ToReport (report_task words)
task_of (given.Serve words) = ToServe words
task_of (given.Script file) = ToRunScript file.now
