-- How a line of words ends: it is done, or it stops and the reason is told.
use Rattle.std.specs.Prelude.{◌≡◌, ◌≢◌, ◌⊎◌, ℕ, Bool, true, false, List, [], ◌++◌, Option, Some, None, Ok, Err, codes, decimal}
use Rattle.std.specs.Io.KnownBytes.{Appends}
use Rattle.clap.specs.Words.{Text, fault_of}
use Rattle.hh_devices.specs.DeviceChanges.{DeviceChange, HasFailed}
use Rattle.hh_devices.specs.Devices.{AppendsFront}
use Rattle.hh_names.specs.Faults.{ByRefusal}
use Rattle.hh_rows.specs.declared.settings.Settings.{Settings}
use Rattle.hh_host.specs.Views.{HostView}
use Rattle.hh_script.specs.declared.bad_word.BadWord.{BadWord}
use Rattle.hh_kept_office.specs.script.ScriptStop.{ScriptStop}
use Rattle.hh_kept_office.specs.script.ScriptStop.TheVariants as script
use Rattle.hh_kept_office.specs.Script.{IsUnread, StopsAt, WritesScript}
use Rattle.hh_period.specs.declared.rejection.Rejection.{Rejection}
use Rattle.hh_period.specs.Outcome.{memory_rejection, period_outcome, Outcome}
use Rattle.hh_period.specs.RejectionText.{rejection_text}
use Rattle.hh_words.specs.Grammar.{settle_app}
use Rattle.hh_kept_office.specs.Places.{Places}
use Rattle.hh_words.specs.Lines.{DatabaseCommand, EndsWithUsage, Line, PeriodCommand, ScriptCommand, line_value}
use Rattle.hh_words.specs.Tasks.{ToRunScript}
use Rattle.hh_settle.specs.Stopping.{script_stop}
use Rattle.hh_settle.specs.Tasks.{DoesTask, StopsTask}
use Rattle.hh_settle.specs.declared.stop.Stop.{Stop}
use Rattle.hh_settle.specs.declared.stop.Stop.TheVariants as stop

-- the line that tells a rejection
abbrev pub rejection_line : Rejection → List ℕ
rejection_line e = rejection_text e ++ codes "\n"

-- the line that tells why a command stops
abbrev pub stop_line : Stop → List ℕ
stop_line (stop.Refused e) = rejection_line e
stop_line stop.File = codes "fault file\n"
stop_line stop.Output = codes "fault output\n"
stop_line stop.Exists = codes "fault exists\n"
stop_line stop.NoFile = codes "fault nofile\n"
stop_line stop.NoSocket = codes "fault socket\n"
stop_line stop.NoClock = codes "fault clock\n"
stop_line (stop.BadLine line word) = codes "line " ++ decimal line ++ codes " is off its form\n"
stop_line (stop.Line number) = codes "line " ++ decimal number ++ codes " stopped the script\n"

-- the exit status of a command that stops: 1, or 2 for a line of a script that is off its form
abbrev pub stop_status : Stop → ℕ
stop_status (stop.Refused e) = 1
stop_status stop.File = 1
stop_status stop.Output = 1
stop_status stop.Exists = 1
stop_status stop.NoFile = 1
stop_status stop.NoSocket = 1
stop_status stop.NoClock = 1
stop_status (stop.BadLine line word) = 2
stop_status (stop.Line number) = 1

-- a text was written, unless the device failed
abbrev pub IsTold : DeviceChange → List ℕ → Type 0
IsTold device text = HasFailed device ⊎ Appends device.old device.new text

-- the line that tells that words are not text
abbrev pub not_text_line : List ℕ
not_text_line = codes "words that are not text (UTF-8)\n"

-- A text that tells what is wrong with words was written, unless the device failed. If `clap` finds no fault in the words, the text ends
-- with how the program is used.
abbrev pub TellsWrong : List Text → DeviceChange → Type 0
TellsWrong words device = (text : List ℕ) × (text ≢ []) × (fault_of settle_app words ≡ [] → EndsWithUsage text) × IsTold device text

-- a stop is a refusal
abbrev pub IsRefused : Stop → Type 0
IsRefused (stop.Refused e) = Unit {0}
IsRefused _ = ⊥

-- the line of the stop was written, unless the device failed; in the place of a refusal, the line of refused memory may be written
abbrev pub Tells : DeviceChange → Stop → Type 0
Tells device s = HasFailed device ⊎ Appends device.old device.new (stop_line s)
    ⊎ (IsRefused s × Appends device.old device.new (rejection_line memory_rejection))

-- a text was written, and perhaps more after it
abbrev pub AppendsAtLeast : Option (List ℕ) → Option (List ℕ) → List ℕ → Type 0
AppendsAtLeast old new text = (more : List ℕ) × Appends old new (text ++ more)

-- the number of the script's line that is off its form was written, unless the device failed; the text after it is for people
abbrev pub TellsBadLine : DeviceChange → ℕ → BadWord → Type 0
TellsBadLine device line word = HasFailed device ⊎ AppendsAtLeast device.old device.new (stop_line (stop.BadLine line word))

-- the reason is told like this; if explanations were asked for, nothing is promised about what is told
abbrev pub UnlessExplained : Bool → Type 0 → Type 0
UnlessExplained true told = Unit {0}
UnlessExplained false told = told

-- a stop has status 1
abbrev pub HasStatusOne : Stop → Type 0
HasStatusOne s = stop_status s ≡ 1

-- `device` is the change of an output. `Comes` says which outcomes there may be, and `unread` whether a file cannot be read. Refused:
-- nothing was written, and the rejection is one that may come, or memory ran out in its place. Unreadable: nothing was written. Output
-- failed: a beginning of a text that may come was written.
module _ (device : DeviceChange) where
  abbrev pub StopsBy : (Outcome (List ℕ) → Type 0) → Type 0 → Stop → Type 0
  StopsBy Comes unread (stop.Refused e) = (device.new ≡ device.old) × ByRefusal e.fault.refusal (e ≡ memory_rejection) (Comes (Err e))
  StopsBy Comes unread stop.File = (device.new ≡ device.old) × unread
  StopsBy Comes unread stop.Output = HasFailed device × ((text : List ℕ) × Comes (Ok text) × AppendsFront device.old device.new text)
  StopsBy Comes unread _ = ⊥

-- words form the line of a script, which runs over a new office or over the office of a database
abbrev pub IsOfScript : List Text → Text → Type 0
IsOfScript words file =
    ((settings : Settings) × (line_value words ≡ Some (ScriptCommand settings file)))
    ⊎ ((path : Text) × (line_value words ≡ Some (DatabaseCommand path (ToRunScript file))))

-- `host` is what a host may show about files and ports.
module _ (host : HostView) where
  -- what may come of a period, given what its files may read as: a text or a rejection
  abbrev pub ComesTo : Text → Text → Text → Outcome (List ℕ) → Type 0
  ComesTo meter contracts price outcome =
      (m c : List ℕ) × host.reads meter (Some m) × host.reads contracts (Some c) × (period_outcome m c price ≡ outcome)

  -- a file of a period cannot be read: METER, or CONTRACTS after METER was read
  abbrev pub HasUnreadable : Text → Text → Type 0
  HasUnreadable meter contracts = host.reads meter None ⊎ ((m : List ℕ) × host.reads meter (Some m) × host.reads contracts None)

  -- a period is settled, and its text was written
  abbrev pub DoesPeriod : Text → Text → Text → DeviceChange → Type 0
  DoesPeriod meter contracts price device = (text : List ℕ) × ComesTo meter contracts price (Ok text) × Appends device.old device.new text

  -- a period stops for this reason, and `device` is the change of the output
  abbrev pub StopsPeriod : DeviceChange → Text → Text → Text → Stop → Type 0
  StopsPeriod device meter contracts price = StopsBy device (ComesTo meter contracts price) (HasUnreadable meter contracts)

  -- `places` are the databases at the paths of the machine. `strict` says whether a script is strict.
  module _ (places : Places) (strict : Bool) where
    -- a line is done, and its text was written
    abbrev pub Does : Line → DeviceChange → Type 0
    Does (PeriodCommand meter contracts price) device = DoesPeriod meter contracts price device
    Does (ScriptCommand settings file) device = WritesScript host file settings device strict
    Does (DatabaseCommand path task) device = DoesTask host places path device strict task

    -- a line stops for this reason, and `device` is the change of the output
    abbrev pub StopsLine : DeviceChange → Line → Stop → Type 0
    StopsLine device (PeriodCommand meter contracts price) s = StopsPeriod device meter contracts price s
    StopsLine device (ScriptCommand settings file) s = (why : ScriptStop) × (s ≡ script_stop why) × StopsAt host file settings device strict why
    StopsLine device (DatabaseCommand path task) s = StopsTask host places path device strict task s

    -- words form a line, and it is done
    abbrev pub DoesWords : List Text → DeviceChange → Type 0
    DoesWords words device = (line : Line) × (line_value words ≡ Some line) × Does line device

    -- words stop for the reason for which their line stops, or because memory ran out before they were read
    abbrev pub StopsWords : List Text → DeviceChange → Stop → Type 0
    StopsWords words out s = ((s ≡ stop.Refused memory_rejection) × (out.new ≡ out.old))
        ⊎ ((line : Line) × (line_value words ≡ Some line) × StopsLine out line s)

    -- words stop with status 1, and the reason is told, unless explanations are asked for
    abbrev pub Stops : Bool → List Text → DeviceChange → DeviceChange → Type 0
    Stops explain words out err = (s : Stop) × HasStatusOne s × StopsWords words out s × UnlessExplained explain (Tells err s)

  -- the words form no line, and that is told; or a line of their script is off its form, and the line's number is told
  abbrev pub AreWrong : Bool → List Text → DeviceChange → Type 0
  AreWrong explain words err = ((line_value words ≡ None) × TellsWrong words err) ⊎ ((file : Text) × (line : ℕ) × (word : BadWord)
      × IsOfScript words file × IsUnread host file (script.BadLine line word) × UnlessExplained explain (TellsBadLine err line word))
