-- What a crash leaves of an office's tables after a command was answered, and after they were made.
use Rattle.std.specs.Prelude.{◌≡◌, ℤ, Bool, IsTrue}
use Rattle.sqlite_trees.specs.Tree.{Trees}
use Rattle.sqlite.specs.State.{HasCleanDisk, State as Connected}
use Rattle.hh_time.specs.Days.{Midnights}
use Rattle.hh_rows.specs.declared.settings.Settings.{Settings}
use Rattle.hh_requests.specs.declared.reply.Reply.{Reply}
use Rattle.hh_requests.specs.declared.request.Request.{Request}
use Rattle.hh_states.specs.Content.{Content, tables_of}
use Rattle.hh_states.specs.States.{State, empty_state}
use Rattle.hh_states.specs.Steps.{IsReached}
use Rattle.hh_office.specs.Machine.{next}
use Rattle.hh_keyed_rows.specs.Values.{version}
use Rattle.hh_sqlstore.specs.Holds.{Holds, TreesHold}
use Rattle.hh_file_life.specs.declared.life.FileCommand.{FileCommand}
use Rattle.hh_file_life.specs.Life.{IsCounted, HoldsSome}

-- the machine reaches the state after this request from each state that it reaches
abbrev pub KeepsReached : Request → Type 0
KeepsReached request = (midnight : Midnights) (s : State) (moment : ℤ) → IsReached midnight s
    → IsReached midnight (next midnight s moment request)

-- A disk that has returned what was written had done so before. Whatever a crash leaves of tables that represented a state contains the
-- tables of a state by which the command was counted.
abbrev pub AnswersOver : {T L : Type 0} → (T → Type 0) → (T → Bool) → (T → L → Type 0) → (L → Content → Type 0) → (T → Content)
    → Midnights → FileCommand → T → T → Reply → Type 0
AnswersOver {L = L} is_honest is_open may_leave holds content midnight command old new given = is_honest new → is_honest old
    × (IsTrue (is_open old) → (s : State) → IsReached midnight s → content old ≡ tables_of midnight s
    → (left : L) → may_leave new left → HoldsSome holds midnight (IsCounted midnight s command given) left)

-- the same for a connection whose last commit had the tables of a state
abbrev pub AnswersIn : Midnights → FileCommand → Connected → Connected → Reply → Type 0
AnswersIn midnight command old new given = HasCleanDisk new → HasCleanDisk old
    × (IsTrue old.is_open → (s : State) → IsReached midnight s → Holds version (tables_of midnight s) old.committed
    → (trees : Trees) → new.may_leave trees → HoldsSome TreesHold midnight (IsCounted midnight s command given) trees)

-- if the disk has returned what was written, the connection is open and its last commit has the tables of a new office
abbrev pub HoldsNew : Settings → Connected → Type 0
HoldsNew settings made = HasCleanDisk made
    → IsTrue made.is_open × ((midnight : Midnights) → Holds version (tables_of midnight (empty_state settings)) made.committed)
