-- What comes of the steps of the office, given what is read from its tables and judged.
use Rattle.std.proofs.Common.{◌≡◌, List, refl, sym, ap, subst, ◌∙◌, Bool, true, false, cond, Option, Some, None, Result, Ok, Err}
use Rattle.std.specs.Prelude.{ℤ, MatchBool, OnOk, length, nat_lt, IsTrue}
use Rattle.std.specs.Result.{IsErr, IsErrAnd}
use Rattle.std.specs.FinMap.{find}
use Rattle.hh_tables.proofs.TableLaws.{false_is_not_true}
use Rattle.hh_time.specs.Days.{Midnights}
use Rattle.hh_names.specs.declared.fault.Fault.{Fault}
use Rattle.hh_names.specs.declared.fault.Refusal.{Refusal}
use Rattle.hh_names.specs.declared.fault.Refusal.TheVariants as refusal
use Rattle.hh_names.specs.declared.fault.Refusal.TheVariants.{FileTooLarge, Forbidden}
use Rattle.hh_names.specs.Faults.{faults, memory_fault, ByRefusal, IsOutcomeOrNoMemory}
use Rattle.hh_rows.specs.declared.rows.Row.{Row}
use Rattle.hh_rules.specs.FileRows.{FileRowsView, JudgesFile, coming_at, file_outcome, first_fault, judged_file, register_of}
use Rattle.hh_rules.specs.RegisterView.{RegisterView, ServesFor, timetable_in, timetable_of}
use Rattle.hh_requests.specs.declared.reply.Reply.{Reply}
use Rattle.hh_requests.specs.declared.reply.Reply.TheVariants as reply
use Rattle.hh_requests.specs.declared.request.Request.{Request}
use Rattle.hh_requests.specs.declared.request.Upload.{Upload}
use Rattle.hh_texts.specs.Files.{file_rows}
use Rattle.hh_texts.proofs.FileLaws.{file_reads}
use Rattle.hh_names.specs.Words.{is_file_name}
use Rattle.hh_rows.specs.RowKinds.{most_bytes}
use Rattle.hh_states.specs.Changes.{IsLoadFrom, LoadEffect, LoadChangeView, effect_of_load}
use Rattle.hh_states.specs.Content.{tables_of}
use Rattle.hh_states.specs.Reads.{HoldsFiles, file_in, whole_register}
use Rattle.hh_states.specs.States.{KeptFileView, State, file_key_cmp}
use Rattle.hh_states.specs.Steps.{after_load, timetable_at}
use Rattle.hh_office.specs.steps.Loads.{Accepts, Answers, WritesLoad, accepted, judged_upload, writes_of}
use Rattle.hh_office.specs.Machine.{act, key_of, load_new, may, step, load, load_beside, load_read_as, loaded_reply}
use Rattle.hh_office.specs.Transitions.{Transition, refused, refused_for, unchanged}
use Rattle.hh_office.specs.Promises.{MakesTransition, Represents, UnlessFailed, gives_up, is_given_up}
use Rattle.hh_office.specs.steps.Promises.{reply_of, RepliesAs}
use Rattle.hh_office.specs.Views.{OfficeView, midnight_of}

pub by_either : (b : Bool) (P Q : Type 0) → P → Q → MatchBool b P Q
by_either true P Q p q = p
by_either false P Q p q = q

by_failure : (b : Bool) (Q R A : Type 0) → A → (Q → R) → MatchBool b (Unit {0}) Q → MatchBool b A R
by_failure true Q R A a f h = a
by_failure false Q R A a f h = f h

-- if an office that represents a state refuses as the machine does, it makes the machine's transition; it may have failed instead
pub comes_refused : (office : OfficeView) (s : State) (fault : Fault) (transition : Transition) → Represents office s
    → UnlessFailed fault (transition ≡ refused s fault) → MakesTransition office office (reply.Refused fault) transition
comes_refused office s fault transition stands =
    by_failure (gives_up fault) (transition ≡ refused s fault) _ (office ≡ office) refl
    (λ same. (
      sym (ap (λ (o : Transition). o.reply) same),
      ap (λ c. record office { content = c }) (stands.1 ∙ ap (λ (o : Transition). tables_of (midnight_of office) o.state) (sym same)),
    ))

-- what a refusal says unless memory ran out, it says unless it gives up
unless_failed : (fault : Fault) (r : Refusal) (Q : Type 0) → ByRefusal r (fault ≡ memory_fault) Q → UnlessFailed fault Q
unless_failed fault refusal.Memory Q is = subst (λ f. UnlessFailed f Q) (sym is) tt
unless_failed fault r Q is = by_either (gives_up fault) (Unit {0}) Q tt is

-- an answer that is given unless memory ran out, is given unless something failed
pub answers : (result expected : Result FileRowsView Fault) → IsOutcomeOrNoMemory faults (λ judged. judged) result expected → Answers result expected
answers (Ok judged) expected gives = gives
answers (Err fault) expected gives = unless_failed fault fault.refusal (expected ≡ Err fault) gives

-- the error of an answer, if it is one
abbrev unwrap_err : {X : Type 0} → Fault → Result X Fault → Fault
unwrap_err e (Ok x) = e
unwrap_err e (Err fault) = fault

abbrev is_fine : {X : Type 0} → Result X Fault → Bool
is_fine (Ok x) = true
is_fine (Err fault) = false

err_is_not_ok : {X : Type 0} {e : Fault} {x : X} → Err e ≡ Ok x → ⊥
err_is_not_ok is = false_is_not_true (ap is_fine is)

-- the first fault, if there is one, and otherwise the rows
abbrev judged_by : Option Fault → FileRowsView → Result FileRowsView Fault
judged_by o view = elim o [ Some fault ↦ Err fault | None ↦ Ok view ]

abbrev IsFault : Option Fault → Result FileRowsView Fault → Type 0
IsFault o (Ok view) = o ≡ None
IsFault o (Err fault) = o ≡ Some fault

fault_by : (o : Option Fault) (view : FileRowsView) → IsFault o (judged_by o view)
fault_by None view = refl
fault_by (Some fault) view = refl

abbrev IsView : FileRowsView → Result FileRowsView Fault → Type 0
IsView view (Ok other) = view ≡ other
IsView view (Err fault) = Unit {0}

view_by : (o : Option Fault) (view : FileRowsView) → IsView view (judged_by o view)
view_by None view = refl
view_by (Some fault) view = tt

-- A register suffices for the rows of a file that comes to an office. The office represents a state.
module _ (office : OfficeView) (s : State) (moment : ℤ) (rows : List Row) (register : RegisterView) (stands : Represents office s)
    (serves : ServesFor rows (whole_register office.content) register) where
  -- the register judges by the timetable of the state
  same_timetable : timetable_of office.zone register ≡ timetable_at (midnight_of office) s
  same_timetable = ap (timetable_in office.zone) (serves.lead_minutes ∙ ap (λ c. c.settings.lead_minutes) stands.1)

  -- the whole register is that of the state
  same_register : whole_register office.content ≡ register_of (timetable_of office.zone register) s.history
  same_register = ap whole_register stands.1 ∙ ap (λ t. register_of t s.history) (sym same_timetable)

  -- the register judges the rows as the state does
  pub judges_at : (answer : Result FileRowsView Fault) → JudgesFile office.zone register moment rows answer
      → IsOutcomeOrNoMemory faults (λ judged. judged) answer (judged_file (timetable_at (midnight_of office) s) s.history (coming_at moment rows))
  judges_at answer judges =
      subst (λ t. IsOutcomeOrNoMemory faults (λ judged. judged) answer (judged_file t s.history (coming_at moment rows))) same_timetable
      (judges s.history (subst (λ whole. ServesFor rows whole register) same_register serves))

  -- a file that reads as these rows is judged as in the state
  pub judges_upload : (upload : Upload) → file_rows upload.kind upload.body ≡ Ok rows → (answer : Result FileRowsView Fault) → JudgesFile office.zone register moment rows answer
      → Answers answer (judged_upload (midnight_of office) s moment upload)
  judges_upload upload reads answer judges =
      subst (λ (found : Result (List Row) Fault). Answers answer (elim found [ Err fault ↦ Err fault | Ok rs ↦ judged_file (timetable_at (midnight_of office) s) s.history (coming_at moment rs) ]))
      (sym reads) (answers answer _ (judges_at answer judges))

-- A new file comes to an office that represents a state.
module _ (office : OfficeView) (s : State) (moment : ℤ) (upload : Upload) (stands : Represents office s) where
  -- in the state: the first fault of rows, the result of judging them, and the transition of the machine
  abbrev fault_in : List Row → Option Fault
  fault_in rows = first_fault (timetable_at (midnight_of office) s) s.history 1 (coming_at moment rows)

  abbrev view_in : List Row → FileRowsView
  view_in rows = file_outcome (timetable_at (midnight_of office) s) s.history (coming_at moment rows)

  abbrev transition_by : List Row → Option Fault → Transition
  transition_by rows o = elim o [
    | Some fault ↦ refused s fault
    | None ↦ accepted office s (load_read_as moment upload rows) (writes_of upload (view_in rows))
  ]

  abbrev transition_of : Result (List Row) Fault → Transition
  transition_of found = elim found [ Err fault ↦ refused s fault | Ok rows ↦ transition_by rows (fault_in rows) ]

  abbrev judged_of : Result (List Row) Fault → Result FileRowsView Fault
  judged_of found = elim found [ Err fault ↦ Err fault | Ok rows ↦ judged_by (fault_in rows) (view_in rows) ]

  by_fault : (rows : List Row) (o : Option Fault) (fault : Fault) → judged_by o (view_in rows) ≡ Err fault → transition_by rows o ≡ refused s fault
  by_fault rows o fault is = ap (transition_by rows) (subst (IsFault o) is (fault_by o (view_in rows)))

  by_judged : (found : Result (List Row) Fault) (fault : Fault) → judged_of found ≡ Err fault → transition_of found ≡ refused s fault
  by_judged (Err e) fault is = ap (refused s) (ap (unwrap_err e) is)
  by_judged (Ok rows) fault is = by_fault rows (fault_in rows) fault is

  -- a file that is refused
  pub load_refused : (fault : Fault) → UnlessFailed fault (judged_upload (midnight_of office) s moment upload ≡ Err fault)
      → MakesTransition office office (reply.Refused fault) (load_new (midnight_of office) s moment upload)
  load_refused fault judges = comes_refused office s fault (load_new (midnight_of office) s moment upload) stands
      (by_failure (gives_up fault) _ _ (Unit {0}) tt (by_judged (file_rows upload.kind upload.body) fault) judges)

  module _ (new : OfficeView) (judged : FileRowsView) (given : Reply) (holds : HoldsFiles) (free : file_in office.content upload.kind upload.name ≡ None)
      (named : IsTrue (is_file_name upload.name)) (accepts : Accepts office new (writes_of upload judged) given) where
    new_key : find file_key_cmp (key_of upload) s.files ≡ None
    new_key = sym (holds (midnight_of office) s (key_of upload)) ∙ sym (ap (λ c. file_in c upload.kind upload.name) stands.1) ∙ free

    accepted_by : (found : Result (List Row) Fault) → file_rows upload.kind upload.body ≡ found → judged_of found ≡ Ok judged
        → MakesTransition office new given (transition_of found)
    accepted_by (Err e) reads is = absurd (err_is_not_ok is)
    accepted_by (Ok rows) reads is =
        let none : fault_in rows ≡ None = subst (IsFault (fault_in rows)) is (fault_by (fault_in rows) (view_in rows)) in
        let view : judged ≡ view_in rows = sym (subst (IsView (view_in rows)) is (view_by (fault_in rows) (view_in rows))) in
        subst (λ o. MakesTransition office new given (transition_by rows o)) (sym none)
        (subst (λ v. MakesTransition office new given (accepted office s (load_read_as moment upload rows) (writes_of upload v))) view
        (accepts s (load_read_as moment upload rows) stands
        (record { new = new_key; named = named; file = file_reads upload.kind upload.body rows reads; accepted = none }) (ap (writes_of upload) view)))

    -- a file that is accepted
    pub load_accepted : judged_upload (midnight_of office) s moment upload ≡ Ok judged → MakesTransition office new given (load_new (midnight_of office) s moment upload)
    load_accepted = accepted_by (file_rows upload.kind upload.body) refl

-- an error that is passed on is the reply that refuses for that reason
pub passed_reply : (result : Result Reply Fault) (fault : Fault) → IsErr result × IsErrAnd result (λ f. f ≡ fault) → reply.Refused fault ≡ reply_of result
passed_reply (Ok given) fault passed = absurd (false_is_not_true passed.0)
passed_reply (Err f) fault passed = ap reply.Refused (sym passed.1)

-- an office that is as before makes the transition that it made
pub comes_same : (office new : OfficeView) (given : Reply) (transition : Transition) → new ≡ office → MakesTransition office office given transition → MakesTransition office new given transition
comes_same office new given transition same = subst (λ o. MakesTransition office o given transition) (sym same)

-- what the store wrote for a change is what the machine writes for each load to which this belongs
pub commit_writes : {T E : Type 0} (result : Result T E) (old new : OfficeView) (writes : LoadChangeView) → LoadEffect → new.zone ≡ old.zone
    → ((midnight : Midnights) → IsLoadFrom midnight old.content writes → OnOk result (new.content ≡ effect_of_load writes old.content)) → OnOk result (WritesLoad old new writes)
commit_writes (Err e) old new writes effect zone written = tt
commit_writes (Ok x) old new writes effect zone written = λ s load stands can is.
    let midnight = midnight_of old in
    let content : new.content ≡ tables_of midnight (after_load midnight s load) =
    written midnight (s, load, stands, can, is) ∙ (λ i. effect_of_load (is i) (stands.1 i)) ∙ sym (effect midnight s load stands.0 can) in
    λ i. record { zone = zone i; content = content i }

-- what was written and its reply make the machine's transition
pub accepts : (old new : OfficeView) (writes : LoadChangeView) (given : Reply) → given ≡ loaded_reply writes.file → WritesLoad old new writes → Accepts old new writes given
accepts old new writes given reply written s load stands can is =
    subst (λ r. MakesTransition old new r (accepted old s load writes)) (sym reply) (refl, written s load stands can is)

-- a reply that leaves an office which represents a state as it is
pub comes_unchanged : (office : OfficeView) (s : State) (given : Reply) → Represents office s → MakesTransition office office given (unchanged s given)
comes_unchanged office s given stands = by_either (is_given_up given) _ _ refl (refl, ap (λ c. record office { content = c }) stands.1)

-- a reply that is given unless the request was given up, by whether it was
replied_by : (b : Bool) (office : OfficeView) (s : State) (given expected : Reply) → Represents office s → MatchBool b (Unit {0}) (given ≡ expected)
    → MatchBool b (office ≡ office) ((given ≡ expected) × (office ≡ record office { content = tables_of (midnight_of office) s }))
replied_by true office s given expected stands is = refl
replied_by false office s given expected stands is = (is, ap (λ c. record office { content = c }) stands.1)

-- an office that represents a state gives the expected reply, unless the request was given up
pub comes_replied : (office : OfficeView) (s : State) (result : Result Reply Fault) (expected : Reply) → Represents office s → RepliesAs result expected
    → MakesTransition office office (reply_of result) (unchanged s expected)
comes_replied office s result expected stands = replied_by (is_given_up (reply_of result)) office s (reply_of result) expected stands

-- A file that is not too large comes to an office that represents a state.
module _ (office : OfficeView) (s : State) (moment : ℤ) (upload : Upload) (stands : Represents office s) (holds : HoldsFiles)
    (found : Option KeptFileView) (is : found ≡ file_in office.content upload.kind upload.name) (small : nat_lt most_bytes (length upload.body) ≡ false) where
  -- it depends on what is kept under its kind and name
  by_kept : load (midnight_of office) s moment upload ≡ load_beside (midnight_of office) s found moment upload
  by_kept =
      ap (λ b. cond b (refused_for s FileTooLarge) (load_beside (midnight_of office) s (find file_key_cmp (key_of upload) s.files) moment upload)) small
      ∙ ap (λ o. load_beside (midnight_of office) s o moment upload)
      (sym (is ∙ ap (λ c. file_in c upload.kind upload.name) stands.1 ∙ holds (midnight_of office) s (key_of upload)))

  pub comes_by_kept : (new : OfficeView) (given : Reply) → MakesTransition office new given (load_beside (midnight_of office) s found moment upload)
      → MakesTransition office new given (load (midnight_of office) s moment upload)
  comes_by_kept new given = subst (MakesTransition office new given) (sym by_kept)

-- a request that the key allows is acted on
pub comes_allowed : (office new : OfficeView) (given : Reply) (s : State) (moment : ℤ) (request : Request) → may (midnight_of office) s request.key request.action ≡ true
    → MakesTransition office new given (act (midnight_of office) s moment request.action) → MakesTransition office new given (step (midnight_of office) s moment request)
comes_allowed office new given s moment request allowed =
    subst (λ b. MakesTransition office new given (cond b (act (midnight_of office) s moment request.action) (refused_for s Forbidden))) (sym allowed)
