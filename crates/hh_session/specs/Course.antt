-- What becomes of an office, and what is written, while the lines of a script run.
use Rattle.std.specs.Prelude.{◌≡◌, ◌≤◌, ◌<◌, ℕ, Bool, false, List, [], ◌∷◌, ◌++◌, length, take, IsTrue}
use Rattle.std.specs.Io.KnownBytes.{Appends}
use Rattle.hh_devices.specs.DeviceChanges.{DeviceChange}
use Rattle.hh_devices.specs.Devices.{AppendsFront}
use Rattle.hh_time.specs.Days.{Midnights}
use Rattle.hh_states.specs.States.{State}
use Rattle.hh_desk.specs.Promises.{Represents, RepresentsNow}
use Rattle.hh_desk.specs.Views.{OfficeView, midnight_of}
use Rattle.hh_host.specs.Views.{HostView}
use Rattle.hh_desk.specs.Headline.{Conserves}
use Rattle.hh_script.specs.Steps.{LoadFile, MakeRun, Serve, Step, WriteReport}
use Rattle.hh_desk.specs.declared.told.Told.{Told}
use Rattle.hh_desk.specs.Doing.{LoadDoes, RunDoes}
use Rattle.hh_session.specs.declared.run.LinesStop.{LinesStop}
use Rattle.hh_session.specs.declared.run.LinesStop.TheVariants.{Line, Output}
use Rattle.hh_session.specs.Lines.{told_done, told_line}
use Rattle.hh_session.specs.Reporting.{ReportDoes}
use Rattle.hh_session.specs.Serving.{ServeDoes, awaits_none}

-- a text is the line that tells what came of something, and `done` says whether it was done
abbrev pub IsLineOf : (Told → Type 0) → Bool → List ℕ → Type 0
IsLineOf does done text = (told : Told) × does told × (done ≡ told_done told) × (text ≡ told_line told)

-- `host` is what a host may show about files and ports. The store may have failed only if `fails` holds.
module _ (host : HostView) (fails : Type 0) (midnight : Midnights) where
  -- what a step does in a state: whether it is done or meets a refusal or a fault, what it writes, and the state after it
  abbrev pub StepDoes : State → Step → Bool → List ℕ → State → Type 0
  StepDoes s (LoadFile load) done text t = IsLineOf (λ told. LoadDoes host fails midnight s load told t) done text
  StepDoes s (MakeRun run) done text t = IsLineOf (λ told. RunDoes fails midnight s run told t) done text
  StepDoes s (WriteReport asked) done text t = ReportDoes fails midnight s asked done text × (t ≡ s)
  StepDoes s (Serve line) done text t = ServeDoes host fails midnight s line done text t

  -- What the steps of a script write, one after the other, and the state after them. `may` is given the steps after a step and whether the
  -- step was done, and says whether that may be.
  abbrev pub ScriptDoes : (List Step → Bool → Type 0) → State → List Step → List ℕ → State → Type 0
  ScriptDoes may s [] text t = (text ≡ []) × (t ≡ s)
  ScriptDoes may s (step ∷ steps) text t =
      (done : Bool) × (line : List ℕ) × (between : State) × (rest : List ℕ)
      × may steps done × StepDoes s step done line between × ScriptDoes may between steps rest t × (text ≡ line ++ rest)

-- if a script is strict, every step is done
abbrev pub AllDone : Bool → List Step → Bool → Type 0
AllDone strict behind done = IsTrue strict → IsTrue done

-- if a script is strict, every step but the last is done
abbrev pub AllDoneButLast : Bool → List Step → Bool → Type 0
AllDoneButLast strict [] done = Unit {0}
AllDoneButLast strict (step ∷ steps) done = IsTrue strict → IsTrue done

-- every step but the last is done, and the last is not
abbrev pub LastNotDone : List Step → Bool → Type 0
LastNotDone [] done = done ≡ false
LastNotDone (step ∷ steps) done = IsTrue done

-- what a step becomes if its output fails: a line that serves awaits no connection, and any other step stays as it is
abbrev pub cut_short : Step → Step
cut_short (LoadFile load) = LoadFile load
cut_short (MakeRun run) = MakeRun run
cut_short (WriteReport asked) = WriteReport asked
cut_short (Serve line) = Serve (awaits_none line)

-- steps, the last of which was cut short
abbrev pub cut_last : List Step → List Step
cut_last [] = []
cut_last (step ∷ []) = cut_short step ∷ []
cut_last (step ∷ other ∷ steps) = step ∷ cut_last (other ∷ steps)

-- the first `count` steps, the last of which was cut short
abbrev pub cut_after : ℕ → List Step → List Step
cut_after count steps = cut_last (take count steps)

-- the steps are strict, and `number` is one of their numbers, so that they may stop there
abbrev pub MayStopBehind : Bool → List Step → ℕ → Type 0
MayStopBehind strict steps number = IsTrue strict × (0 < number) × (number ≤ length steps)

-- `device` is the change of an output. The store may have failed only if `fails` holds.
module _ (host : HostView) (fails : Type 0) (old new : OfficeView) (device : DeviceChange) where
  -- steps were run from each state that the office represented, and what they write was written
  abbrev pub RunsScript : (List Step → Bool → Type 0) → List Step → Type 0
  RunsScript may steps = (s : State) → Represents old s
      → (text : List ℕ) × (t : State) × ScriptDoes host fails (midnight_of old) may s steps text t × Appends device.old device.new text × RepresentsNow old new t

  -- only the first of the steps were run, the last of these was cut short, and a beginning of what they write was written
  abbrev pub StopsScript : Bool → List Step → Type 0
  StopsScript strict steps = (s : State) → Represents old s
      → (count : ℕ) × (text : List ℕ) × (t : State)
      × ScriptDoes host fails (midnight_of old) (AllDoneButLast strict) s (cut_after count steps) text t × AppendsFront device.old device.new text × RepresentsNow old new t

  -- The steps were not run to their end. Either the output failed. Or they are strict, and those up to a line were run: all but the last of
  -- these were done, and the last was not.
  abbrev pub EndsEarly : Bool → List Step → LinesStop → Type 0
  EndsEarly strict steps Output = StopsScript strict steps
  EndsEarly strict steps (Line number) = MayStopBehind strict steps number × RunsScript LastNotDone (take number steps)

-- `host` is what a host may show about files and ports. The store may have failed only if `fails` holds. `old` is the office before the
-- lines, and `new` after them.
module _ (host : HostView) (fails : Type 0) (old new : OfficeView) where
  -- steps were run from each state that the office represented, and in the state after them the tables add up: the rows of each run,
  -- contracts, charges with shares, the credits of units, and postings
  abbrev pub ScriptConserves : (List Step → Bool → Type 0) → List Step → Type 0
  ScriptConserves may steps = (s : State) → Represents old s
      → (text : List ℕ) × (t : State) × ScriptDoes host fails (midnight_of old) may s steps text t × Conserves (midnight_of old) t new.content

  -- the tables add up in the state after the first of the steps
  abbrev pub FirstConserve : Bool → List Step → Type 0
  FirstConserve strict steps = (s : State) → Represents old s
      → (count : ℕ) × (text : List ℕ) × (t : State)
      × ScriptDoes host fails (midnight_of old) (AllDoneButLast strict) s (cut_after count steps) text t × Conserves (midnight_of old) t new.content

  -- the tables add up in the state after the steps that were run
  abbrev pub EarlyConserves : Bool → List Step → LinesStop → Type 0
  EarlyConserves strict steps Output = FirstConserve strict steps
  EarlyConserves strict steps (Line number) = ScriptConserves LastNotDone (take number steps)
