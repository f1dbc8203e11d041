-- What a crash leaves after the parts of a request, one after the other.
use Rattle.std.proofs.Common.{◌≡◌, inl, inr, List, [], ◌∷◌, ◌++◌, length, map, cond, refl, sym, ap, subst, ◌∙◌, arith, Bool, true, false, Result, Ok, Err}
use Rattle.std.specs.Prelude.{◌⊎◌, ℤ, IsTrue, MatchBool, OnOk, filter, not, zip}
use Rattle.std.specs.List.{AllByRecursion}
use Rattle.std.specs.Result.{IsErr, IsErrAnd}
use Rattle.hh_tables.proofs.TableLaws.{false_is_not_true}
use Rattle.hh_time.specs.Days.{Midnights}
use Rattle.hh_names.specs.declared.fault.Fault.{Fault}
use Rattle.hh_requests.specs.declared.reply.Reply.{Reply}
use Rattle.hh_requests.specs.declared.reply.Reply.TheVariants as reply
use Rattle.hh_requests.specs.declared.request.Request.{Request}
use Rattle.hh_states.specs.Content.{Content, tables_of}
use Rattle.hh_states.specs.Changes.{LoadEffect, LoadChangeView, RunEffect, RunChangeView, effect_of_load, effect_of_run}
use Rattle.hh_states.specs.States.{State}
use Rattle.hh_store.specs.Crashes.{AddsNothing, AddsOnly, LeavesContent, MakesLoad, MakesRun}
use Rattle.hh_store.specs.StoreFaults.{store_fault}
use Rattle.hh_store.specs.declared.store_fault.StoreFault.{StoreFault}
use Rattle.hh_store.specs.declared.store_fault.StoreFault.TheVariants.{Memory, Store}
use Rattle.hh_office.specs.Crashes.{CrashAfterAll, CrashStep, IfReplied, MadeInEachState, with_content}
use Rattle.hh_office.specs.Machine.{Timed, loaded_reply, state_after, step}
use Rattle.hh_office.specs.Promises.{HandleStep, RunAllStep, Represents, UnlessFailed, is_given_up, served}
use Rattle.hh_office.specs.Transitions.{Transition}
use Rattle.hh_office.specs.Views.{Kept, OfficeView, midnight_of}
use Rattle.hh_office.specs.steps.Crashes.{IsAcceptedContent, IsLoadedContent, IsRunContent}
use Rattle.hh_office.specs.steps.Promises.{reply_of}
use Rattle.hh_office.proofs.StepLaws.{accepts}

module _ {T L : Type 0} (H : T → Type 0) (O : T → Bool) (M : T → L → Type 0) (holds : L → Content → Type 0) where
  -- ---- two calls, one after the other, if the first was answered

  pub only_then : (old mid new : T) (If : Type 0 → Type 0) (Made : Content → Type 0) → AddsNothing H O M old mid (λ P. P) → AddsOnly H O M holds mid new If Made
      → AddsOnly H O M holds old new If Made
  only_then old mid new If Made first second honest =
      let b = second honest in
      let a = first b.0 in
      (a.0, λ stood. let at = a.1 stood in let behind = b.1 at.0 in (behind.0, λ left may. elim (behind.1 left may) [ inl before ↦ inl (at.1 left before) | inr made ↦ inr made ]))

  -- ---- the same call, with something else known about its answer

  pub only_as : (old new : T) (If As : Type 0 → Type 0) (Made : Content → Type 0) → (If (IsTrue (O new)) → As (IsTrue (O new))) → AddsOnly H O M holds old new If Made
      → AddsOnly H O M holds old new As Made
  only_as old new If As Made so adds honest = let a = adds honest in (a.0, λ stood. let at = a.1 stood in (so at.0, at.1))

  -- a call that may leave `Made` may leave `Other`, if that follows when the tables were open before the call
  pub only_made : (old new : T) (If : Type 0 → Type 0) (Made Other : Content → Type 0)
      → (H old → IsTrue (O old) → (left : Content) → Made left → Other left) → AddsOnly H O M holds old new If Made → AddsOnly H O M holds old new If Other
  only_made old new If Made Other so adds honest =
      let a = adds honest in
      (a.0, λ stood. let at = a.1 stood in (at.0, λ left may. elim (at.1 left may) [ inl before ↦ inl before | inr made ↦ inr (made.0, made.1, so a.0 stood made.0 made.2) ]))

  -- the same for the last of two calls, if the first was answered
  pub only_made_then : (old mid new : T) (If : Type 0 → Type 0) (Made Other : Content → Type 0)
      → (IsTrue (O mid) → (left : Content) → Made left → Other left) → AddsNothing H O M old mid (λ P. P) → AddsOnly H O M holds mid new If Made
      → AddsOnly H O M holds old new If Other
  only_made_then old mid new If Made Other so first second =
      let last = only_made mid new If Made Other (λ honest. so) second in only_then old mid new If Other first last

-- ---- faults that are passed on

either_way : (b : Bool) (P : Type 0) → P → MatchBool b (Unit {0}) P
either_way true P p = tt
either_way false P p = p

-- what holds in any case holds unless a request was given up
pub replied_anyway : (given : Reply) (P : Type 0) → P → IfReplied given P
replied_anyway given P p = either_way (is_given_up given) P p

-- if the store has a fault, the request is given up
pub store_replied : (result : Result Reply Fault) (e : StoreFault) (P : Type 0) → IsErr result × IsErrAnd result (λ f. f ≡ store_fault e) → IfReplied (reply_of result) P
store_replied (Ok x) e P passed = absurd (false_is_not_true passed.0)
store_replied (Err f) Memory P passed = subst (λ (f : Fault). UnlessFailed f P) (sym passed.1) tt
store_replied (Err f) Store P passed = subst (λ (f : Fault). UnlessFailed f P) (sym passed.1) tt

-- if an answer fails, nothing has to be known about its value
pub failed_ok : {X E : Type 0} (result : Result X E) (P : Type 0) → IsErr result → OnOk result P
failed_ok (Ok x) P fails = absurd (false_is_not_true fails)
failed_ok (Err e) P fails = tt

-- ---- changes

-- a load that the store may have made is made for each load of the machine for which this is written
pub load_leaves : LoadEffect → (office : OfficeView) (load : LoadChangeView) (left : Content) → MakesLoad load office.content left → IsLoadedContent office load left
load_leaves effect office writes left made s load stands can is =
    let midnight = midnight_of office in
    ap (with_content office) (made midnight (s, load, stands, can, is) ∙ (λ i. effect_of_load (is i) (stands.1 i)) ∙ sym (effect midnight s load stands.0 can))

-- an accepted file leaves what its load leaves
pub accept_leaves : (office : OfficeView) (load : LoadChangeView) (left : Content) → IsLoadedContent office load left → IsAcceptedContent office load left
accept_leaves office writes left leaves = accepts office (with_content office left) writes (loaded_reply writes.file) refl leaves

-- the same for a run
pub run_leaves : RunEffect → (office : OfficeView) (run : RunChangeView) (left : Content) → MakesRun run office.content left → IsRunContent office run left
run_leaves effect office writes left made s moment key stands can is =
    let midnight = midnight_of office in
    ap (with_content office) (made midnight (s, moment, key, stands, can, is) ∙ (λ i. effect_of_run (is i) (stands.1 i)) ∙ sym (effect midnight s moment key can))

-- ---- a request

made_by : (b : Bool) (office : OfficeView) (given : Reply) (t : Transition) (left : Content) → b ≡ false
    → MatchBool b (with_content office left ≡ office) ((given ≡ t.reply) × (with_content office left ≡ record office { content = tables_of (midnight_of office) t.state }))
    → left ≡ tables_of (midnight_of office) t.state
made_by true office given t left is makes = absurd (false_is_not_true (sym is))
made_by false office given t left is makes = ap (λ (o : OfficeView). o.content) makes.1

-- what is left after a transition was made
pub made_after : (office : OfficeView) (transition : Midnights → State → Transition) (left : Content) → MadeInEachState office transition left
    → (s : State) → Represents office s → left ≡ tables_of (midnight_of office) (transition (midnight_of office) s).state
made_after office transition left made s stands =
    made_by (is_given_up made.given) office made.given (transition (midnight_of office) s) left made.answered (made.makes s stands)

-- ---- lists of requests

-- none of the requests was given up
abbrev pub AreReplied : List Reply → Type 0
AreReplied given = AllByRecursion (λ reply. is_given_up reply ≡ false) given

-- then all of them were served
pub served_all : (requests : List Timed) (given : List Reply) → AreReplied given → length given ≡ length requests → map (λ r. r.0) (served requests given) ≡ requests
served_all [] given all count = none_of given
  where
    none_of : (given : List Reply) → map (λ (r : Timed × Reply). r.0) (filter (λ r. not (is_given_up r.1)) (zip [] given)) ≡ []
    none_of [] = refl
    none_of (g ∷ gs) = refl
served_all (t ∷ ts) [] all count = absurd (omega (arith, count))
served_all (t ∷ ts) (g ∷ gs) all count =
    ap (λ b. map (λ (r : Timed × Reply). r.0) (cond (not b) ((t, g) ∷ served ts gs) (served ts gs))) all.0
    ∙ ap (λ rest. t ∷ rest) (served_all ts gs all.1 (omega (arith, count)))

-- if none of a list was given up, neither the last nor any before it was
pub replied_before : (before : List Reply) (last : Reply) → AreReplied (before ++ last ∷ []) → AreReplied before × (is_given_up last ≡ false)
replied_before [] last all = (tt, all.0)
replied_before (g ∷ gs) last all = let rest = replied_before gs last all.1 in ((all.0, rest.0), rest.1)

-- what holds if a request was not given up holds, as it was not
pub behind_reply : (given : Reply) (P : Type 0) → is_given_up given ≡ false → IfReplied given P → P
behind_reply given P replied behind = subst (λ b. MatchBool b (Unit {0}) P) replied behind

module _ {T L : Type 0} (H : T → Type 0) (O : T → Bool) (M : T → L → Type 0) (holds : L → Content → Type 0) (old new : Kept T)
    (shows : LeavesContent O M holds new.tables new.seen.content) where
  step_by : (b : Bool) (given : Reply) (t : Transition) (left : L) → MatchBool b (Unit {0}) (IsTrue (O new.tables))
      → (IsTrue (O new.tables) → MatchBool b (new.seen ≡ old.seen) ((given ≡ t.reply) × (new.seen ≡ record old.seen { content = tables_of (midnight_of old.seen) t.state })))
      → M new.tables left → holds left old.seen.content ⊎ holds left (tables_of (midnight_of old.seen) t.state)
      → MatchBool b (holds left old.seen.content ⊎ holds left (tables_of (midnight_of old.seen) t.state)) (holds left (tables_of (midnight_of old.seen) t.state))
  step_by true given t left stood makes may either = either
  step_by false given t left stood makes may either = subst (λ (o : OfficeView). holds left o.content) (makes stood).1 (shows stood left may)

  -- a request on tables that were open
  pub crash_step : LeavesContent O M holds old.tables old.seen.content → (moment : ℤ) (request : Request) (given : Reply)
      → AddsOnly H O M holds old.tables new.tables (IfReplied given) (MadeInEachState old.seen (λ midnight s. step midnight s moment request))
      → (IsTrue (O new.tables) → HandleStep old.seen new.seen moment request given) → CrashStep H O M holds old new moment request given
  crash_step shown moment request given adds does honest stood s stands left may =
      let a = (adds honest).1 stood in
      step_by (is_given_up given) given (step (midnight_of old.seen) s moment request) left a.0 (λ standing. does standing s stands) may
      (elim (a.1 left may) [
        | inl before ↦ inl (shown stood left before)
        | inr made ↦ inr (subst (holds left) (made_after old.seen (λ midnight s. step midnight s moment request) made.0 made.2 s stands) made.1)
      ])

  -- a list of requests on tables that were open
  pub crash_after_all : (requests : List Timed) (given : List Reply) → (H new.tables → IsTrue (O old.tables) → AreReplied given → IsTrue (O new.tables))
      → (IsTrue (O new.tables) → RunAllStep old.seen new.seen requests given) → CrashAfterAll H O M holds old new requests given
  crash_after_all requests given standing runs all honest stood s stands left may =
      let at = standing honest stood all in
      let ran = runs at s stands in
      subst (holds left) (ap (λ (o : OfficeView). o.content) ran.tables
      ∙ ap (λ ts. tables_of (midnight_of old.seen) (state_after (midnight_of old.seen) s ts)) (served_all requests given all ran.count))
      (shows at left may)
