-- What comes of the lines of a script over an office whose tables are kept in a database.
use Rattle.std.specs.Prelude.{ℕ, Bool, List, take}
use Rattle.std.specs.Io.KnownBytes.{Appends}
use Rattle.sqlite.specs.Effect.{Database}
use Rattle.jiff.specs.declared.tz.timezone.TimeZone.{TimeZone}
use Rattle.jiff.specs.Words.{plain_zone}
use Rattle.hh_devices.specs.DeviceChanges.{DeviceChange}
use Rattle.hh_devices.specs.Devices.{AppendsFront}
use Rattle.hh_time.specs.Days.{Midnights}
use Rattle.hh_time.specs.Zone.{midnight_in}
use Rattle.hh_rows.specs.declared.settings.Settings.{Settings}
use Rattle.hh_states.specs.Changes.{TablesRepresent}
use Rattle.hh_states.specs.Content.{Content, tables_of}
use Rattle.hh_states.specs.States.{State, empty_state}
use Rattle.hh_sqlstore.specs.Values.{version}
use Rattle.hh_sqlstore.specs.Holds.{Holds}
use Rattle.hh_host.specs.Views.{HostView}
use Rattle.hh_script.specs.Steps.{Step}
use Rattle.hh_session.specs.declared.run.LinesStop.{LinesStop}
use Rattle.hh_session.specs.declared.run.LinesStop.TheVariants.{Line, Output}
use Rattle.hh_session.specs.Course.{AllDoneButLast, LastNotDone, MayStopBehind, ScriptDoes, cut_after}
use Rattle.hh_session.specs.Script.{IsMarketZone}
use Rattle.hh_session.specs.Headline.{Conserves}
use Rattle.hh_kept_office.specs.declared.stop.DatabaseStop.{DatabaseStop}
use Rattle.hh_kept_office.specs.declared.stop.DatabaseStop.TheVariants.{Early, Refused}

-- `holds` is true for the local midnights in the zone of the market
abbrev pub InMarket : (Midnights → Type 0) → Type 0
InMarket holds = (zone : TimeZone) × IsMarketZone zone × holds (midnight_in (plain_zone zone))

-- The database contains the tables of a state. They add up: the rows of each run, contracts, charges with shares, the credits of units, and
-- postings.
pub record HoldsState (midnight : Midnights) (t : State) (db : Database) : Type 0 where
  pub holds : Holds version (tables_of midnight t) db
  pub sums : Conserves midnight t (tables_of midnight t)

-- `host` is what a host may show about files and ports. The database may have failed only if `fails` holds. `device` is the change of an
-- output. `db` is the database after the steps.
module _ (host : HostView) (fails : Type 0) (device : DeviceChange) (db : Database)
    (steps : List Step) where
  -- The steps were run from a state, what they write was written, and the database contains the tables of the state after them. `may` says
  -- which steps may have been done, and which may not.
  abbrev pub WritesFrom : (List Step → Bool → Type 0) → State → Midnights → Type 0
  WritesFrom may s midnight =
      (text : List ℕ) × (t : State)
      × ScriptDoes host fails midnight may s steps text t × Appends device.old device.new text × HoldsState midnight t db

  -- only the first of the steps were run from a state, the last of these was cut short, a beginning of what they write was written, and the
  -- database contains the tables of the state after them
  abbrev pub CutsFrom : Bool → State → Midnights → Type 0
  CutsFrom strict s midnight =
      (count : ℕ) × (text : List ℕ) × (t : State)
      × ScriptDoes host fails midnight (AllDoneButLast strict) s (cut_after count steps) text t × AppendsFront device.old device.new text × HoldsState midnight t db

  -- the same from a new office with these settings
  module _ (settings : Settings) where
    abbrev pub WritesNew : (List Step → Bool → Type 0) → Type 0
    WritesNew may = InMarket (WritesFrom may (empty_state settings))

    abbrev pub CutsNew : Bool → Type 0
    CutsNew strict = InMarket (CutsFrom strict (empty_state settings))

  -- the same from each state whose tables have this content
  module _ (content : Content) where
    abbrev pub WritesOver : (List Step → Bool → Type 0) → Type 0
    WritesOver may = InMarket (λ midnight. (s : State) → TablesRepresent midnight content s → WritesFrom may s midnight)

    abbrev pub CutsOver : Bool → Type 0
    CutsOver strict = InMarket (λ midnight. (s : State) → TablesRepresent midnight content s → CutsFrom strict s midnight)

-- `host` is what a host may show about files and ports. The database may have failed only if `fails` holds. `device` is the change of an
-- output. `db` is the database after the steps. The steps were not run to their end: the output failed; or they are strict, and only those
-- up to a line were run, all but the last of these were done, and the last was not.
module _ (host : HostView) (fails : Type 0) (device : DeviceChange) (db : Database) (strict : Bool) (steps : List Step) where
  -- the steps ended early, from a new office with these settings
  abbrev pub EarlyNew : Settings → LinesStop → Type 0
  EarlyNew settings Output = CutsNew host fails device db steps settings strict
  EarlyNew settings (Line number) = MayStopBehind strict steps number × WritesNew host fails device db (take number steps) settings LastNotDone

  -- the steps ended early, from each state whose tables have this content
  abbrev pub EarlyOver : Content → LinesStop → Type 0
  EarlyOver content Output = CutsOver host fails device db steps content strict
  EarlyOver content (Line number) = MayStopBehind strict steps number × WritesOver host fails device db (take number steps) content LastNotDone

-- `holds` is true for lines that were not run to their end
abbrev pub IfEarly : DatabaseStop → (LinesStop → Type 0) → Type 0
IfEarly (Early why) holds = holds why
IfEarly (Refused fault) holds = Unit {0}

-- no line was run, because the tables are refused
abbrev pub WereRefused : DatabaseStop → Type 0
WereRefused (Early why) = ⊥
WereRefused (Refused fault) = Unit {0}
