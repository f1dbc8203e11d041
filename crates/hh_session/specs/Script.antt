-- How a script in a file is run over a new office.
use Rattle.std.specs.Prelude.{◌≡◌, ℕ, ◌<◌, ◌≤◌, Bool, List, length, take, Some, None, codes}
use Rattle.std.specs.Io.KnownBytes.{Appends}
use Rattle.jiff.specs.Placed.{IsPosixZone}
use Rattle.jiff.specs.declared.tz.timezone.TimeZone.{TimeZone}
use Rattle.jiff.specs.Words.{plain_zone}
use Rattle.hh_devices.specs.DeviceChanges.{DeviceChange, HasFailed}
use Rattle.hh_devices.specs.Devices.{AppendsFront}
use Rattle.hh_time.specs.Days.{Midnights}
use Rattle.hh_time.specs.Zone.{midnight_in}
use Rattle.hh_names.specs.declared.fault.Refusal.TheVariants.{FileTooLarge}
use Rattle.hh_names.specs.Faults.{memory_fault, plain_fault, ByRefusal}
use Rattle.hh_rows.specs.declared.settings.Settings.{Settings}
use Rattle.hh_states.specs.Content.{tables_of}
use Rattle.hh_states.specs.States.{State, empty_state}
use Rattle.hh_host.specs.Views.{HostView}
use Rattle.hh_desk.specs.Headline.{Conserves}
use Rattle.hh_script.specs.Script.{first_bad_line, script_value}
use Rattle.hh_script.specs.Steps.{Step}
use Rattle.hh_session.specs.declared.run.LinesStop.{LinesStop}
use Rattle.hh_session.specs.declared.run.LinesStop.TheVariants.{Line, Output}
use Rattle.hh_session.specs.declared.script.ScriptStop.{ScriptStop}
use Rattle.hh_session.specs.declared.script.ScriptStop.TheVariants as stop
use Rattle.hh_session.specs.Course.{AllDone, AllDoneButLast, LastNotDone, MayStopBehind, ScriptDoes, cut_after}

-- the most bytes that a script may have: 16 MiB
abbrev pub most_script_bytes : ℕ
most_script_bytes = 16_777_216

-- the zone of the market
abbrev pub IsMarketZone : TimeZone → Type 0
IsMarketZone zone = IsPosixZone (codes "GMT0BST,M3.5.0/1,M10.5.0") (plain_zone zone)

-- `host` is what a host may show about files and ports. `settings` are the settings of the office.
module _ (host : HostView) (settings : Settings) where
  -- What steps write over a new office of the market's zone. In the state after them the office's tables add up: the rows of each run,
  -- contracts, charges with shares, the credits of units, and postings. The tables are in memory, so no line tells that a store refused.
  -- `may` says which steps may have been done, and which may not.
  abbrev pub NewOfficeDoes : (List Step → Bool → Type 0) → List Step → List ℕ → Type 0
  NewOfficeDoes may steps text =
      (zone : TimeZone) × IsMarketZone zone
      × (let midnight : Midnights = midnight_in (plain_zone zone) in
      (t : State) × ScriptDoes host ⊥ midnight may (empty_state settings) steps text t × Conserves midnight t (tables_of midnight t))

  -- `device` is the change of an output.
  module _ (device : DeviceChange) where
    -- steps were run over a new office, and what they write was written
    abbrev pub NewOfficeWrites : (List Step → Bool → Type 0) → List Step → Type 0
    NewOfficeWrites may steps = (text : List ℕ) × NewOfficeDoes may steps text × Appends device.old device.new text

    -- only the first of the steps were run, the last of these was cut short, and a beginning of what they write was written
    abbrev pub NewOfficeCuts : Bool → List Step → Type 0
    NewOfficeCuts strict steps =
        (count : ℕ) × (text : List ℕ) × NewOfficeDoes (AllDoneButLast strict) (cut_after count steps) text × AppendsFront device.old device.new text

    -- The steps were not run to their end. Either the output failed. Or they are strict, and those up to a line were run: all but the last
    -- of these were done, and the last was not.
    abbrev pub NewOfficeEnds : Bool → List Step → LinesStop → Type 0
    NewOfficeEnds strict steps Output = HasFailed device × NewOfficeCuts strict steps
    NewOfficeEnds strict steps (Line number) = MayStopBehind strict steps number × NewOfficeWrites LastNotDone (take number steps)

-- A script is in the file at `path`.
module _ (host : HostView) (path : List ℕ) where
  -- the file may read as a script of these steps
  abbrev pub IsScript : List Step → Type 0
  IsScript steps = (all : List ℕ) × host.reads path (Some all) × (length all ≤ most_script_bytes) × (script_value all ≡ Some steps)

  -- why the steps are not known: the file cannot be read, is too large, or has a line off its form; or memory was refused
  abbrev pub IsUnread : ScriptStop → Type 0
  IsUnread stop.File = host.reads path None
  IsUnread (stop.BadLine line word) = (all : List ℕ) × host.reads path (Some all) × (script_value all ≡ None) × (first_bad_line all ≡ Some line)
  IsUnread (stop.Refused fault) = ByRefusal fault.refusal (fault ≡ memory_fault)
      ((fault ≡ plain_fault FileTooLarge) × ((all : List ℕ) × host.reads path (Some all) × (most_script_bytes < length all)))
  IsUnread (stop.Early why) = ⊥

  -- `settings` are the settings of an office, and `device` is the change of an output.
  module _ (settings : Settings) (device : DeviceChange) where
    -- the script was run, and what it writes was written; if it is strict, each line was done
    abbrev pub WritesScript : Bool → Type 0
    WritesScript strict = (steps : List Step) × IsScript steps × NewOfficeWrites host settings device (AllDone strict) steps

    -- why the script is not run, or not to its end: it was not read, and nothing was written; or its run ended early
    abbrev pub StopsAt : Bool → ScriptStop → Type 0
    StopsAt strict (stop.Early why) = (steps : List Step) × IsScript steps × NewOfficeEnds host settings device strict steps why
    StopsAt strict why = (device.new ≡ device.old) × IsUnread why
