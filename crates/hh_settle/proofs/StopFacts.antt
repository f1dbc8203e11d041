-- How a line stops or is done, given what was read of its files.
use Rattle.std.proofs.Common.{◌≡◌, ◌<◌, ℕ, List, Option, Some, Bool, true, false, inl, inr, Result, Ok, Err, IfErr, take, refl, sym, ap, subst, ◌∙◌}
use Rattle.std.specs.Result.{IsErrAnd}
use Rattle.hh_devices.specs.DeviceChanges.{DeviceChange, HasFailed}
use Rattle.hh_names.specs.declared.fault.Refusal.{Refusal}
use Rattle.hh_names.specs.declared.fault.Refusal.TheVariants as refusal
use Rattle.hh_names.specs.Faults.{ByRefusal, Refuses}
use Rattle.hh_rows.specs.RowKinds.{most_bytes}
use Rattle.hh_period.specs.declared.inputs.PeriodFault.{PeriodFault}
use Rattle.hh_period.specs.declared.inputs.PeriodFault.TheVariants.{Refused, Write}
use Rattle.hh_period.specs.declared.rejection.Rejection.{Rejection}
use Rattle.hh_period.specs.Outcome.{period_outcome, rejections, Outcome, Writes, WritesFront}
use Rattle.hh_settle.specs.declared.stop.Stop.{Stop}
use Rattle.clap.specs.Words.{Text}
use Rattle.hh_rows.specs.declared.settings.Settings.{Settings}
use Rattle.hh_host.specs.Views.{HostView}
use Rattle.hh_script.specs.declared.bad_word.BadWord.{BadWord}
use Rattle.hh_kept_office.specs.run.LinesStop.TheVariants as lines
use Rattle.hh_kept_office.specs.script.ScriptStop.{ScriptStop}
use Rattle.hh_kept_office.specs.script.ScriptStop.TheVariants as script
use Rattle.hh_kept_office.specs.Script.{IsUnread, StopsAt}
use Rattle.hh_kept_office.specs.declared.path.PathStop.{PathStop}
use Rattle.hh_kept_office.specs.declared.path.PathStop.TheVariants as path
use Rattle.hh_kept_office.specs.declared.scripts.ScriptPathStop.{ScriptPathStop}
use Rattle.hh_kept_office.specs.declared.scripts.ScriptPathStop.TheVariants as at
use Rattle.hh_kept_office.specs.Places.{Connected, Places}
use Rattle.hh_kept_office.specs.Scripts.{EndsScript, RunsFile, script_at}
use Rattle.hh_words.specs.Tasks.{Task, ToInit, ToLoad, ToMigrate, ToReport, ToRun, ToRunScript, ToServe}
use Rattle.hh_settle.specs.Stopping.{period_stop, script_stop}
use Rattle.hh_settle.specs.Tasks.{StopsAsked, StopsTask, path_stop, script_path_stop}
use Rattle.hh_words.specs.Lines.{DatabaseCommand, Line, PeriodCommand, ScriptCommand, line_value}
use Rattle.hh_kept_office.specs.errand.ErrandStop.TheVariants as errand
use Rattle.hh_settle.specs.declared.stop.Stop.TheVariants as stop
use Rattle.hh_settle.specs.Stops.{IsOfScript, ComesTo, DoesPeriod, HasUnreadable, StopsBy, StopsLine, StopsPeriod}
use Rattle.hh_settle.specs.steps.Stops.{IsBadLineAnd}
use Rattle.hh_settle.proofs.FrontFacts.{period_outcome-front}

ByRefusal-map : (r : Refusal) (P Q R : Type 0) → (Q → R) → ByRefusal r P Q → ByRefusal r P R
ByRefusal-map refusal.Memory P Q R f p = p
ByRefusal-map r P Q R f q = f q

-- `front` was read at a path: the beginning of what the file may read as
abbrev pub IsFrontOf : (List ℕ → Option (List ℕ) → Type 0) → ℕ → List ℕ → List ℕ → Type 0
IsFrontOf reads most path front = (all : List ℕ) × reads path (Some all) × (front ≡ take most all)

-- Enough was read of each file of a line to notice a file that is too large.
module _ (host : HostView) (most : ℕ) (enough : most_bytes < most) (meter contracts price : List ℕ)
    (m c : List ℕ) (meter_read : IsFrontOf host.reads most meter m) (contracts_read : IsFrontOf host.reads most contracts c) where
  -- the line has the same outcome as the bytes that were read
  comes_to : (outcome : Outcome (List ℕ)) → period_outcome m c price ≡ outcome → ComesTo host meter contracts price outcome
  comes_to outcome is = (
    meter_read.0,
    contracts_read.0,
    meter_read.1,
    contracts_read.1,
    sym (period_outcome-front most enough meter_read.0 contracts_read.0 price) ∙ sym (λ i. period_outcome (meter_read.2 i) (contracts_read.2 i) price) ∙ is,
  )

  pub done_by_period : (device : DeviceChange) → Writes (period_outcome m c price) device → DoesPeriod host meter contracts price device
  done_by_period device (text, is, went) = (text, comes_to (Ok text) is, went)

  -- `device` is the change of an output.
  module _ (device : DeviceChange) where
    -- what the contract of a period says about its fault
    pub record IsPeriodFault (fault : PeriodFault) : Type 0 where
      pub refused : (e : Rejection) → fault ≡ Refused e → Refuses rejections e (period_outcome m c price)
      pub untouched : (e : Rejection) → fault ≡ Refused e → device.new ≡ device.old
      pub cut : fault ≡ Write → WritesFront (period_outcome m c price) device
      pub failed_then : fault ≡ Write → HasFailed device

    -- the line stops as the fault says
    line_stops : (fault : PeriodFault) → IsPeriodFault fault → StopsPeriod host device meter contracts price (period_stop fault)
    line_stops (Refused e) h = (h.untouched e refl, ByRefusal-map e.fault.refusal _ _ _ (comes_to (Err e)) (h.refused e refl))
    line_stops Write h = let (text, is, went) = h.cut refl in (h.failed_then refl, (text, comes_to (Ok text) is, went))

    pub stopped_by_period : {T : Type 0} (fault : PeriodFault) → IsPeriodFault fault
        → (result : Result T Stop) → IsErrAnd result (λ s. s ≡ period_stop fault)
        → IfErr result (λ s. StopsPeriod host device meter contracts price s)
    stopped_by_period fault h (Ok x) passed = tt
    stopped_by_period fault h (Err s) passed = subst (StopsPeriod host device meter contracts price) (sym passed) (line_stops fault h)

-- ---- a line of a script that is off its form

-- why a script at a path is not run
abbrev stop_in : Result Unit ScriptPathStop → ScriptStop
stop_in (Err (at.Script why)) = why
stop_in _ = script.File

-- the reason comes from the script itself
abbrev is_own : Result Unit ScriptPathStop → Bool
is_own (Err (at.Script why)) = true
is_own _ = false

-- if a line of a script is off its form, the script was not read
unread_bad_line : (host : HostView) (file : Text) (device : DeviceChange) (strict : Bool) (found left : Connected) (ended : Result Unit ScriptStop) (n : ℕ) (word : BadWord)
    → Err (at.Script (script.BadLine n word)) ≡ script_at ended → RunsFile host device file strict found left ended → IsUnread host file (script.BadLine n word)
unread_bad_line host file device strict found left (Ok x) n word is runs = let bad : script.BadLine n word ≡ script.File = ap stop_in is in cc bad
unread_bad_line host file device strict found left (Err script.File) n word is runs = let bad : script.BadLine n word ≡ script.File = ap stop_in is in cc bad
unread_bad_line host file device strict found left (Err (script.Early why)) n word is runs = let bad : script.BadLine n word ≡ script.Early why = ap stop_in is in cc bad
unread_bad_line host file device strict found left (Err (script.Refused fault)) n word is runs = let bad : script.BadLine n word ≡ script.Refused fault = ap stop_in is in cc bad
unread_bad_line host file device strict found left (Err (script.BadLine m other)) n word is (inr (held, unread, takes), kept) =
    let same : script.BadLine n word ≡ script.BadLine m other = ap stop_in is in
    subst (IsUnread host file) (sym same) unread
unread_bad_line host file device strict found left (Err (script.BadLine m other)) n word is (inl ((fault, none), leaves), kept) = cc none

ends_bad_line : (host : HostView) (file : Text) (device : DeviceChange) (strict : Bool) (places : Places) (path : Text) (n : ℕ) (word : BadWord)
    → EndsScript host device file strict places path (Err (at.Script (script.BadLine n word))) → IsUnread host file (script.BadLine n word)
ends_bad_line host file device strict places path n word (inl (fault, refused, is, kept)) = let bad : true ≡ false = ap is_own is in cc bad
ends_bad_line host file device strict places path n word (inr (inl (is, absent, kept))) = let bad : true ≡ false = ap is_own is in cc bad
ends_bad_line host file device strict places path n word (inr (inr (present, (found, left, ended, opens, closes, is, runs)))) =
    unread_bad_line host file device strict found left ended n word is runs

-- A line stops because a line of its script is off its form, and `told` holds: the words are wrong.
module _ (host : HostView) (places : Places) (strict : Bool) (words : List Text) (out : DeviceChange) (told : ℕ → BadWord → Type 0) where
  abbrev pub IsOfBadLine : Type 0
  IsOfBadLine = (file : Text) × (line : ℕ) × (word : BadWord) × IsOfScript words file × IsUnread host file (script.BadLine line word) × told line word

  bad_line_at : (settings : Settings) (file : Text) → line_value words ≡ Some (ScriptCommand settings file) → (line : ℕ) (word : BadWord) → told line word
      → (why : ScriptStop) → script_stop why ≡ stop.BadLine line word → StopsAt host file settings out strict why → IsOfBadLine
  bad_line_at settings file is line word tells script.File same at = cc same
  bad_line_at settings file is line word tells (script.BadLine n other) same at =
      let number : n ≡ line = cc same in
      let of : other ≡ word = cc same in
      (file, n, other, inl (settings, is), at.1, subst (λ m. told m other) (sym number) (subst (told line) (sym of) tells))
  bad_line_at settings file is line word tells (script.Refused fault) same at = cc same
  bad_line_at settings file is line word tells (script.Early lines.Output) same at = cc same
  bad_line_at settings file is line word tells (script.Early (lines.Line number)) same at = cc same

  bad_line_kept : (path file : Text) → line_value words ≡ Some (DatabaseCommand path (ToRunScript file)) → (line : ℕ) (word : BadWord) → told line word
      → (why : ScriptPathStop) → script_path_stop why ≡ stop.BadLine line word → EndsScript host out file strict places path (Err why) → IsOfBadLine
  bad_line_kept path file is line word tells at.NoFile same ends = cc same
  bad_line_kept path file is line word tells (at.Unopened fault) same ends = cc same
  bad_line_kept path file is line word tells (at.Script script.File) same ends = cc same
  bad_line_kept path file is line word tells (at.Script (script.Refused fault)) same ends = cc same
  bad_line_kept path file is line word tells (at.Script (script.Early lines.Output)) same ends = cc same
  bad_line_kept path file is line word tells (at.Script (script.Early (lines.Line number))) same ends = cc same
  bad_line_kept path file is line word tells (at.Script (script.BadLine n other)) same ends =
      let number : n ≡ line = cc same in
      let of : other ≡ word = cc same in
      (file, n, other, inr (path, is), ends_bad_line host file out strict places path n other ends, subst (λ m. told m other) (sym number) (subst (told line) (sym of) tells))

  -- no other command on a database runs a script
  not_bad_line : {A : Type 0} (why : PathStop) (line : ℕ) (word : BadWord) → path_stop why ≡ stop.BadLine line word → A
  not_bad_line path.Exists line word same = cc same
  not_bad_line path.NoFile line word same = cc same
  not_bad_line (path.Errand (errand.Refused fault)) line word same = cc same
  not_bad_line (path.Errand errand.Unreadable) line word same = cc same
  not_bad_line (path.Errand errand.NoSocket) line word same = cc same
  not_bad_line (path.Errand errand.Output) line word same = cc same

  asked_bad_line : {A : Type 0} (path : Text) (task : Task) (s : Stop) (line : ℕ) (word : BadWord) → StopsAsked host places path out task s → s ≡ stop.BadLine line word → A
  asked_bad_line path task s line word (inl (why, from, ends)) same = not_bad_line why line word (sym from ∙ same)
  asked_bad_line path task s line word (inr (clock, asks, kept)) same = let bad : stop.NoClock ≡ stop.BadLine line word = sym clock ∙ same in cc bad

  task_bad_line : (path : Text) (task : Task) → line_value words ≡ Some (DatabaseCommand path task) → (s : Stop) (line : ℕ) (word : BadWord)
      → StopsTask host places path out strict task s → s ≡ stop.BadLine line word → told line word → IsOfBadLine
  task_bad_line path (ToInit settings) is s line word (why, from, makes) same tells = not_bad_line why line word (sym from ∙ same)
  task_bad_line path ToMigrate is s line word (why, from, migrates) same tells = not_bad_line why line word (sym from ∙ same)
  task_bad_line path (ToLoad load) is s line word stops same tells = asked_bad_line path (ToLoad load) s line word stops same
  task_bad_line path (ToRun run) is s line word stops same tells = asked_bad_line path (ToRun run) s line word stops same
  task_bad_line path (ToReport asked) is s line word stops same tells = asked_bad_line path (ToReport asked) s line word stops same
  task_bad_line path (ToServe serve) is s line word stops same tells = asked_bad_line path (ToServe serve) s line word stops same
  task_bad_line path (ToRunScript file) is s line word (why, from, ends) same tells = bad_line_kept path file is line word tells why (sym from ∙ same) ends

  pub wrong_by_bad_line : (l : Line) → line_value words ≡ Some l → (s : Stop) → StopsLine host places strict out l s → IsBadLineAnd told s → IsOfBadLine
  wrong_by_bad_line (PeriodCommand meter contracts price) is s stops (line, word, same, tells) =
      absurd (subst (StopsBy out (ComesTo host meter contracts price) (HasUnreadable host meter contracts)) same stops)
  wrong_by_bad_line (ScriptCommand settings file) is s (why, from, at) (line, word, same, tells) = bad_line_at settings file is line word tells why (sym from ∙ same) at
  wrong_by_bad_line (DatabaseCommand path task) is s stops (line, word, same, tells) = task_bad_line path task is s line word stops same tells
