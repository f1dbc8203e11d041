-- What a crash may leave of tables, after calls on them.
use Rattle.std.specs.Prelude.{◌≡◌, ◌⊎◌, Bool, IsTrue}
use Rattle.hh_time.specs.Days.{Midnights}
use Rattle.hh_states.specs.Changes.{IsLoadFrom, IsRunFrom, LoadChangeView, RunChangeView, effect_of_load, effect_of_run}
use Rattle.hh_states.specs.Content.{Content}

-- the new content is the old one with a load written, if the machine makes that load
abbrev pub MakesLoad : LoadChangeView → Content → Content → Type 0
MakesLoad load old new = (midnight : Midnights) → IsLoadFrom midnight old load → new ≡ effect_of_load load old

-- the new content is the old one with a run written, if the machine makes that run
abbrev pub MakesRun : RunChangeView → Content → Content → Type 0
MakesRun run old new = (midnight : Midnights) → IsRunFrom midnight old run → new ≡ effect_of_run run old

-- For a call on tables: whether their disk has returned what was written, whether they are open, and what a crash may leave of them.
module _ {T L : Type 0} (is_honest : T → Type 0) (is_open : T → Bool) (may_leave : T → L → Type 0) where
  -- A disk that is honest after the call was honest before it. If the tables were open and the call was answered, they are open.
  -- A crash leaves something that it might have left before, or something with a content for which Made holds.
  abbrev pub AddsOnly : (L → Content → Type 0) → T → T → (Type 0 → Type 0) → (Content → Type 0) → Type 0
  AddsOnly holds old new IfAnswered Made = is_honest new → is_honest old
      × (IsTrue (is_open old) → IfAnswered (IsTrue (is_open new))
      × ((left : L) → may_leave new left → may_leave old left ⊎ ((content : Content) × holds left content × Made content)))

  -- the same, and a crash leaves nothing but what it might have left before
  abbrev pub AddsNothing : T → T → (Type 0 → Type 0) → Type 0
  AddsNothing old new IfAnswered = is_honest new → is_honest old
      × (IsTrue (is_open old) → IfAnswered (IsTrue (is_open new)) × ((left : L) → may_leave new left → may_leave old left))

-- while tables are open, whatever a crash leaves of them has this content
abbrev pub LeavesContent : {T L : Type 0} → (T → Bool) → (T → L → Type 0) → (L → Content → Type 0) → T → Content → Type 0
LeavesContent {L = L} is_open may_leave holds tables content = IsTrue (is_open tables) → (left : L) → may_leave tables left → holds left content
