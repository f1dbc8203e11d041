-- What a crash leaves of tables after a command that asks an office over them.
use Rattle.std.specs.Prelude.{Bool, IsTrue, Result}
use Rattle.sqlite_trees.specs.declared.store.Store.{Ghosts}
use Rattle.sqlite.specs.Held.{Held, state}
use Rattle.sqlite.specs.State.{HasCleanDisk}
use Rattle.hh_states.specs.Content.{Content}
use Rattle.hh_host.specs.Views.{HostView}
use Rattle.hh_session.specs.Errands.{ErrandStep, Serve}
use Rattle.hh_session.specs.errand.ErrandStop.{ErrandStop}
use Rattle.hh_sqlstore.specs.Holds.{TreesHold}
use Rattle.hh_kept_office.specs.Crashes.{HoldsWhatCounts}

-- for tables that were open, if the disk has returned what was written
abbrev pub OverLeaves : {T L : Type 0} → (T → Type 0) → (T → Bool) → (T → L → Type 0) → (L → Content → Type 0) → HostView → T → T → Content → ErrandStep → Result Unit ErrandStop → Type 0
OverLeaves is_honest is_open may_leave holds host old new before (Serve serve) result = Unit {0}
OverLeaves is_honest is_open may_leave holds host old new before step result =
    is_honest new → is_honest old × (IsTrue (is_open old) → HoldsWhatCounts host before step result holds (may_leave new))

-- the same for the connection of tables in a database
abbrev pub ConnectionLeaves : {S : Type 0} → Ghosts S → HostView → Held S → Held S → Content → ErrandStep → Result Unit ErrandStop → Type 0
ConnectionLeaves {S = S} g =
    OverLeaves (λ (c : Held S). HasCleanDisk (state g c)) (λ (c : Held S). (state g c).is_open) (λ (c : Held S) trees. (state g c).may_leave trees) TreesHold
