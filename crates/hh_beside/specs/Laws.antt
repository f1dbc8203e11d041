-- What is kept beside the tables continues to agree with them.
use Rattle.std.specs.Prelude.{◌≡◌, ℤ, IsTrue}
use Rattle.hh_time.specs.Days.{Midnights}
use Rattle.hh_runs.specs.declared.run_key.RunKey.{RunKey}
use Rattle.hh_states.specs.Changes.{load_change, run_change}
use Rattle.hh_states.specs.Content.{Content, tables_of}
use Rattle.hh_states.specs.States.{State}
use Rattle.hh_states.specs.Steps.{CanLoad, CanRun, IsReached, Load, after_load, after_run}
use Rattle.hh_states.specs.Beside.{Beside, agrees}
use Rattle.hh_beside.specs.DayLaws.{HaveTheSame}
use Rattle.hh_beside.specs.Keeping.{beside_of, beside_with_load, beside_with_run}

-- the same positions, and the same touched Settlement Periods in any order and any number of times
abbrev pub AreAlike : Beside → Beside → Type 0
AreAlike these those = (these.positions ≡ those.positions) × HaveTheSame these.touched those.touched

-- in a state that the machine reaches, what agrees with the tables still does after a load that it accepts
abbrev pub LoadsAgree : Type 0
LoadsAgree = (midnight : Midnights) (s : State) (load : Load) (beside after : Beside) → IsReached midnight s
    → CanLoad midnight s load → IsTrue (agrees (tables_of midnight s) beside)
    → AreAlike after (beside_with_load (load_change midnight s load) (tables_of midnight s) beside)
    → IsTrue (agrees (tables_of midnight (after_load midnight s load)) after)

-- and still does after a run that it makes
abbrev pub RunsAgree : Type 0
RunsAgree = (midnight : Midnights) (s : State) (moment : ℤ) (key : RunKey) (beside after : Beside) → IsReached midnight s
    → CanRun midnight s moment key → IsTrue (agrees (tables_of midnight s) beside)
    → AreAlike after (beside_with_run (run_change midnight s key) beside)
    → IsTrue (agrees (tables_of midnight (after_run s key)) after)

-- what is made anew beside tables agrees with them
abbrev pub MadeAnewAgrees : Type 0
MadeAnewAgrees = (content : Content) (made : Beside) → AreAlike made (beside_of content) → IsTrue (agrees content made)
