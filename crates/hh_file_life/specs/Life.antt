-- The life of the two files of an office's database: what a crash leaves of them, from one command to the next.
use Rattle.std.specs.Prelude.{◌≡◌, ◌⊎◌, List, [], ◌∷◌, IsTrue, MatchBool}
use Rattle.sqlite_disk.specs.declared.Disk.{Ghosts}
use Rattle.sqlite_disk.specs.declared.Files.{Files}
use Rattle.sqlite_wal.specs.Files.{outcomes}
use Rattle.sqlite_wal.specs.Reads.{AreClean}
use Rattle.sqlite_wal.specs.Recovery.{Image}
use Rattle.sqlite_trees.specs.Tree.{Trees}
use Rattle.sqlite.specs.Files.{HoldsDatabase, image_of}
use Rattle.hh_time.specs.Days.{Midnights}
use Rattle.hh_rows.specs.declared.settings.Settings.{Settings}
use Rattle.hh_requests.specs.declared.reply.Reply.{Reply}
use Rattle.hh_states.specs.Content.{Content, tables_of}
use Rattle.hh_states.specs.States.{State, empty_state}
use Rattle.hh_states.specs.Steps.{IsReached}
use Rattle.hh_office.specs.Machine.{answer, next}
use Rattle.hh_office.specs.Promises.{is_given_up}
use Rattle.hh_sqlstore.specs.Holds.{TreesHold}
use Rattle.hh_file_life.specs.declared.life.FileCommand.{FileCommand}

-- what is left contains the tables of a state that the machine reaches, and `Of` is true for that state
abbrev pub HoldsSome : {L : Type 0} → (L → Content → Type 0) → Midnights → (State → Type 0) → L → Type 0
HoldsSome holds midnight Of left = (s : State) × IsReached midnight s × Of s × holds left (tables_of midnight s)

module _ {D : Type 0} (g : Ghosts D) (files : Files D) where
  -- no sync of them has failed
  abbrev pub AreUsable : Type 0
  AreUsable = IsTrue (g.is_usable files.log) × IsTrue (g.is_usable files.db)

  -- whatever a crash leaves of the files contains trees of this kind
  abbrev pub LeaveOnly : (Trees → Type 0) → Type 0
  LeaveOnly Of = (image : Image) → outcomes g files.log files.db image
      → ∥ ((trees : Trees) × HoldsDatabase image trees × Of trees) ∥₁

  module _ (midnight : Midnights) where
    -- whatever a crash leaves of the files contains the tables of this state
    abbrev pub LeaveState : State → Type 0
    LeaveState s = LeaveOnly (λ trees. TreesHold trees (tables_of midnight s))

    -- whatever a crash leaves of the files contains the tables of a state of this kind, which the machine reaches
    abbrev pub LeaveStates : (State → Type 0) → Type 0
    LeaveStates Of = LeaveOnly (HoldsSome TreesHold midnight Of)

    -- as the files read now, they contain the tables of this state
    abbrev pub ReadAs : State → Type 0
    ReadAs s = (trees : Trees) × HoldsDatabase (image_of g files) trees × TreesHold trees (tables_of midnight s)

module _ (midnight : Midnights) where
  -- A command that was answered was counted once: the reply is the machine's, and so is the state after it. A command that was given up was
  -- counted or not.
  abbrev pub IsCounted : State → FileCommand → Reply → State → Type 0
  IsCounted s command given t = MatchBool (is_given_up given)
      ((t ≡ s) ⊎ (t ≡ next midnight s command.moment command.request))
      ((given ≡ answer midnight s command.moment command.request) × (t ≡ next midnight s command.moment command.request))

  -- the commands were counted one after the other, each with its reply
  abbrev pub AreCounted : State → List FileCommand → List Reply → State → Type 0
  AreCounted s [] [] t = t ≡ s
  AreCounted s (command ∷ commands) (given ∷ replies) t =
      (between : State) × IsCounted s command given between × AreCounted between commands replies t
  AreCounted s _ _ t = ⊥

module _ {D : Type 0} (g : Ghosts D) (midnight : Midnights) (first : Files D) where
  -- For a command that was run over files that read as the tables of a state, if the disks have returned what was written: whatever a crash
  -- leaves of them after it contains the tables of a state by which the command was counted.
  abbrev pub LivesOnce : FileCommand → Reply → Files D → Type 0
  LivesOnce command given last =
      AreClean g last.log last.db → (s : State) → IsReached midnight s → ReadAs g first midnight s
      → LeaveStates g last midnight (IsCounted midnight s command given)

  -- The same for commands that were run one after the other, if whatever a crash leaves of the first files contains the tables of that
  -- state.
  abbrev pub Lives : List FileCommand → List Reply → Files D → Type 0
  Lives commands replies last =
      AreClean g last.log last.db → (s : State) → IsReached midnight s → LeaveState g first midnight s
      → LeaveStates g last midnight (AreCounted midnight s commands replies)

-- For files in which an office was made, if the disks have returned what was written: whatever a crash leaves of them contains the tables
-- of the state in which nothing has been accepted. The machine reaches that state.
abbrev pub LeavesNew : {D : Type 0} → Ghosts D → Settings → Files D → Type 0
LeavesNew g settings last = AreClean g last.log last.db
    → (midnight : Midnights) → IsReached midnight (empty_state settings) × LeaveState g last midnight (empty_state settings)
