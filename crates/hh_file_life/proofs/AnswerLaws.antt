-- A command that an office answers or gives up, and what a crash leaves after it.
use Rattle.std.proofs.Common.{◌≡◌, ◌⊎◌, inl, inr, Bool, true, false, IsTrue, refl, subst, sym}
use Rattle.std.specs.Prelude.{MatchBool}
use Rattle.sqlite_trees.specs.Tree.{Trees}
use Rattle.sqlite.specs.State.{HasCleanDisk, State as Connected}
use Rattle.hh_time.specs.Days.{Midnights}
use Rattle.hh_requests.specs.declared.reply.Reply.{Reply}
use Rattle.hh_requests.specs.declared.reply.Reply.TheVariants as reply
use Rattle.hh_states.specs.Content.{Content, tables_of}
use Rattle.hh_states.specs.States.{State}
use Rattle.hh_states.specs.Steps.{IsReached}
use Rattle.hh_store.specs.Crashes.{AddsOnly}
use Rattle.hh_store.specs.StoreFaults.{store_fault}
use Rattle.hh_store.specs.declared.store_fault.StoreFault.{StoreFault}
use Rattle.hh_store.specs.declared.store_fault.StoreFault.TheVariants.{Memory, Store}
use Rattle.hh_office.specs.Crashes.{CrashStep, IfReplied}
use Rattle.hh_office.specs.Machine.{answer, next}
use Rattle.hh_office.specs.Promises.{HandleStep, is_given_up}
use Rattle.hh_office.specs.Views.{IsSure, Kept, midnight_of}
use Rattle.hh_keyed_rows.specs.Values.{version}
use Rattle.hh_sqlstore.specs.Holds.{Holds, TreesHold}
use Rattle.hh_sqlstore.specs.Leaving.{KeepsHeld}
use Rattle.hh_file_life.specs.declared.life.FileCommand.{FileCommand}
use Rattle.hh_file_life.specs.Life.{IsCounted, HoldsSome}
use Rattle.hh_file_life.specs.steps.Answers.{AnswersIn, KeepsReached}

-- what was answered is what the machine answers
told : (Open Same Told More : Type 0) (b : Bool) → MatchBool b (Unit {0}) Open → (Open → MatchBool b Same (Told × More)) → MatchBool b (Unit {0}) Told
told Open Same Told More true replied step = tt
told Open Same Told More false replied step = (step replied).0

-- by whether the command was given up: what is left contains the tables before it or after it
by_reply : {L : Type 0} (holds : L → Content → Type 0) (left : L) (midnight : Midnights) (s after : State) (content : Content) (Told : Type 0) (b : Bool)
    → IsReached midnight s → IsReached midnight after → content ≡ tables_of midnight s
    → MatchBool b (holds left content ⊎ holds left (tables_of midnight after)) (holds left (tables_of midnight after)) → MatchBool b (Unit {0}) Told
    → HoldsSome holds midnight (λ t. MatchBool b ((t ≡ s) ⊎ (t ≡ after)) (Told × (t ≡ after))) left
by_reply holds left midnight s after content Told true reached last is (inl old) as_told = (s, reached, inl refl, subst (holds left) is old)
by_reply holds left midnight s after content Told true reached last is (inr new) as_told = (after, last, inr refl, new)
by_reply holds left midnight s after content Told false reached last is new as_told = (after, last, (as_told, refl), new)

module _ {T L : Type 0} (is_honest : T → Type 0) (is_open : T → Bool) (may_leave : T → L → Type 0) (holds : L → Content → Type 0) (old new : Kept T) where
  -- what a crash leaves after a command that an office has handled
  pub handled : (command : FileCommand) (given : Reply) (Made : Content → Type 0) → KeepsReached command.request
      → AddsOnly is_honest is_open may_leave holds old.tables new.tables (IfReplied given) Made
      → CrashStep is_honest is_open may_leave holds old new command.moment command.request given
      → (IsSure is_open new → HandleStep old.seen new.seen command.moment command.request given)
      → is_honest new.tables → is_honest old.tables
      × (IsTrue (is_open old.tables) → (s : State) → IsReached (midnight_of old.seen) s → old.seen.content ≡ tables_of (midnight_of old.seen) s
      → (left : L) → may_leave new.tables left → HoldsSome holds (midnight_of old.seen) (IsCounted (midnight_of old.seen) s command given) left)
  handled command given Made keeps adds left_by step honest =
      let midnight = midnight_of old.seen in (
        (adds honest).0,
        λ stands s reached is left may.
            let after = next midnight s command.moment command.request in
            by_reply holds left midnight s after old.seen.content (given ≡ answer midnight s command.moment command.request) (is_given_up given)
            reached (keeps midnight s command.moment reached) is (left_by honest stands s (reached, is) left may)
            (told _ _ _ _ (is_given_up given) ((adds honest).1 stands).0 (λ sure. step sure s (reached, is))),
      )

-- a fault of the store gives a command up
given_up : (fault : StoreFault) → is_given_up (reply.Refused (store_fault fault)) ≡ true
given_up Memory = refl
given_up Store = refl

module _ (midnight : Midnights) (command : FileCommand) (old new : Connected) where
  -- the tables were not taken over
  pub refused : (fault : StoreFault) → KeepsHeld old new → AnswersIn midnight command old new (reply.Refused (store_fault fault))
  refused fault keeps clean = (
    (keeps clean).0,
    λ stands s reached holds trees may. (
      s,
      reached,
      subst (λ b. MatchBool b ((s ≡ s) ⊎ (s ≡ next midnight s command.moment command.request)) ((reply.Refused (store_fault fault) ≡ answer midnight s command.moment command.request) × (s ≡ next midnight s command.moment command.request)))
          (sym (given_up fault)) (inl refl),
      (keeps clean).1 stands (tables_of midnight s) holds trees may,
    ),
  )

  -- the tables were taken over, and the office has handled the command over them
  pub taken : (given : Reply) (taken_over : Connected) (content : Content) → KeepsHeld old taken_over → (HasCleanDisk taken_over → IsTrue taken_over.is_open)
      → ((held : Content) → Holds version held old.committed → IsTrue taken_over.is_open → content ≡ held)
      → (HasCleanDisk new → HasCleanDisk taken_over
      × (IsTrue taken_over.is_open → (s : State) → IsReached midnight s → content ≡ tables_of midnight s
      → (trees : Trees) → new.may_leave trees → HoldsSome TreesHold midnight (IsCounted midnight s command given) trees))
      → AnswersIn midnight command old new given
  taken given taken_over content keeps opens same over clean =
      let last = over clean in (
        (keeps last.0).0,
        λ stands s reached holds trees may.
            let up = opens last.0 in
            last.1 up s reached (same (tables_of midnight s) holds up) trees may,
      )
