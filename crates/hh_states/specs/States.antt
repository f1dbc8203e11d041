-- The states of the settlement machine: all that has been accepted, and the runs.
use Rattle.std.specs.Prelude.{ℕ, List, []}
use Rattle.std.specs.Ordering.{on, then_cmp}
use Rattle.std.specs.declared.cmp.Ordering.{Ordering}
use Rattle.hh_rules.specs.Days.{Midnights}
use Rattle.hh_rules.specs.Accounts.{bytes_cmp}
use Rattle.hh_rules.specs.settings.Settings.{Settings}
use Rattle.hh_rules.specs.Kinds.{kind_word}
use Rattle.hh_rules.specs.History.{History}
use Rattle.hh_rules.specs.Lateness.{Timetable}
use Rattle.hh_states.specs.declared.file_key.FileKey.{FileKey}
use Rattle.hh_states.specs.Runs.{Run}

-- files in the order of the words of their kinds, then of their names
abbrev pub file_key_cmp : FileKey → FileKey → Ordering
file_key_cmp = then_cmp (on (λ k. kind_word k.kind) bytes_cmp) (on (λ k. k.name) bytes_cmp)

-- what is kept of an accepted file: its bytes, and how many of its rows were applied and how many came late
pub record KeptFileView : Type 0 where
  pub body : List ℕ
  pub applied : ℕ
  pub late : ℕ

-- the settings, all accepted rows, the accepted files and the runs, each in the order in which they came
pub record State : Type 0 where
  pub settings : Settings
  pub history : History
  pub files : List (FileKey × KeptFileView)
  pub runs : List Run

-- the state in which nothing has been accepted
abbrev pub empty_state : Settings → State
empty_state settings = record { settings = settings; history = []; files = []; runs = [] }

-- the local midnights, and the minutes by which an office's notifications close before their period
abbrev pub office_timetable : Midnights → Settings → Timetable
office_timetable midnight settings = record { midnight = midnight; lead_minutes = settings.lead_minutes }
