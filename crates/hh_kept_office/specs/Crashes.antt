-- What a crash leaves of an office's tables after a command on a database.
use Rattle.std.specs.Prelude.{◌≡◌, ◌⊎◌, List, ℕ, Some, MatchBool, IsTrue, Result, Ok, Err}
use Rattle.jiff.specs.declared.tz.timezone.TimeZone.{TimeZone}
use Rattle.sqlite.specs.State as connection
use Rattle.sqlite_trees.specs.Tree.{Trees}
use Rattle.hh_time.specs.Days.{Midnights}
use Rattle.hh_states.specs.Content.{Content, tables_of}
use Rattle.hh_states.specs.States.{State}
use Rattle.hh_store.specs.declared.store_fault.StoreFault.{StoreFault}
use Rattle.hh_store.specs.StoreFaults.{store_fault}
use Rattle.hh_session.specs.Machine.{next}
use Rattle.hh_session.specs.Promises.{Represents, gives_up}
use Rattle.hh_session.specs.Views.{midnight_of}
use Rattle.hh_host.specs.Views.{HostView}
use Rattle.hh_session.specs.Doing.{request_for, request_of}
use Rattle.hh_session.specs.Errands.{ErrandStep, Load, Report, Run, Serve}
use Rattle.hh_session.specs.errand.ErrandStop.{ErrandStop}
use Rattle.hh_session.specs.errand.ErrandStop.TheVariants as stop
use Rattle.hh_sqlstore.specs.Holds.{Holds, TreesHold}
use Rattle.hh_sqlstore.specs.Values.{version}
use Rattle.hh_session.specs.Script.{IsMarketZone}
use Rattle.hh_kept_office.specs.Kept.{office_of}

-- The state that a command leads to: by its load, if the file reads as it may, or by its run. A report changes no state. Nothing is said
-- here about connections that are served.
abbrev pub ReachedBy : HostView → Midnights → State → ErrandStep → State → Type 0
ReachedBy host midnight s (Load load) t =
    (body : List ℕ) × host.reads load.path (Some body) × (t ≡ next midnight s load.moment (request_of load body))
ReachedBy host midnight s (Run run) t = t ≡ next midnight s run.moment (request_for run)
ReachedBy host midnight s (Report asked) t = t ≡ s
ReachedBy host midnight s (Serve serve) t = ⊥

-- Whether the state before a command or the state that it leads to counts after it. A command that was answered counts, even if its output
-- failed. One that was given up may count or not. One that asked nothing does not count.
abbrev pub CountsAs : Result Unit ErrandStop → Type 0 → Type 0 → Type 0
CountsAs (Ok _) before reached = reached
CountsAs (Err stop.Output) before reached = reached
CountsAs (Err (stop.Refused fault)) before reached = MatchBool (gives_up fault) (before ⊎ reached) reached
CountsAs (Err _) before reached = before

-- `host` is what a host may show about files and ports. A command ended with `result` at an office in the market's zone, whose content was
-- `before`.
module _ (host : HostView) (before : Content) (step : ErrandStep) (result : Result Unit ErrandStop) where
  -- in each state that the office represented, whatever is left contains the tables of the state that counts
  abbrev pub HoldsWhatCounts : {L : Type 0} → (L → Content → Type 0) → (L → Type 0) → Type 0
  HoldsWhatCounts {L = L} holds IsLeft =
      (zone : TimeZone) × IsMarketZone zone
      × (let midnight : Midnights = midnight_of (office_of zone before) in
      (s : State) → Represents (office_of zone before) s → (left : L) → IsLeft left
      → CountsAs result (holds left (tables_of midnight s)) ((t : State) × ReachedBy host midnight s step t × holds left (tables_of midnight t)))

  -- the tables were not taken over, and whatever is left of their database contains what it contained
  abbrev pub HoldsUnused : (Trees → Type 0) → Type 0
  HoldsUnused IsLeft =
      (fault : StoreFault) × (result ≡ Err (stop.Refused (store_fault fault))) × ((trees : Trees) → IsLeft trees → TreesHold trees before)

-- After a command on a database with the tables of an office, if the disk has returned what was written: whatever a crash leaves contains
-- the tables of the state that counts. If the tables were not taken over, it contains the tables before the command.
abbrev pub KeptLeaves : HostView → connection.State → connection.State → ErrandStep → Result Unit ErrandStop → Type 0
KeptLeaves host old new (Serve serve) result = Unit {0}
KeptLeaves host old new step result =
    connection.HasCleanDisk new → IsTrue old.is_open → (before : Content) → Holds version before old.committed
    → HoldsWhatCounts host before step result TreesHold new.may_leave ⊎ HoldsUnused host before step result new.may_leave
