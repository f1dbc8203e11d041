-- The office goes on from each state of version 1.
use Rattle.std.proofs.Common.{◌≡◌, ℕ, ◌+◌, [], ◌∷◌, ◌++◌, Bool, true, false, cond, refl, sym, ap, subst, ◌∙◌, Option, Some, None, append_assoc}
use Rattle.std.specs.Prelude.{ℤ, List, Result, nat_lt, length, Ok, Err}
use Rattle.std.specs.FinMap.{find}
use Rattle.std.proofs.lemmas.List.{append-nil}
use Rattle.hh_time.specs.Days.{Midnights}
use Rattle.hh_names.specs.declared.fault.Fault.{Fault}
use Rattle.hh_names.specs.declared.fault.Refusal.{Refusal}
use Rattle.hh_names.specs.declared.fault.Refusal.TheVariants.{FileTooLarge, Forbidden}
use Rattle.hh_names.specs.Faults.{row_fault}
use Rattle.hh_rows.specs.RowKinds.{most_bytes}
use Rattle.hh_rows.specs.declared.rows.Row.{Row}
use Rattle.hh_rules.specs.FileRows.{coming_at, first_fault, refusal_after}
use Rattle.hh_rules.specs.History.{History}
use Rattle.hh_rules.specs.Lateness.{Timetable, Accepted}
use Rattle.hh_rules.specs.Refusals.{is_some_that}
use Rattle.hh_requests.specs.declared.request.Action.{Action}
use Rattle.hh_requests.specs.declared.request.Action.TheVariants as ask
use Rattle.hh_requests.specs.declared.request.Request.{Request}
use Rattle.hh_requests.specs.declared.request.Upload.{Upload}
use Rattle.hh_texts.specs.Files.{file_rows}
use Rattle.hh_states.specs.States.{KeptFileView, State, file_key_cmp}
use Rattle.hh_states.specs.Steps as now
use Rattle.hh_states.specs.Steps.{IsReached, Load, after_load, kept_file, rows_coming, timetable_at}
use Rattle.hh_office.specs.Machine as machine
use Rattle.hh_office.specs.Machine.{act, key_of, load_beside, load_new, load_read_as, loaded, loaded_reply, may, step}
use Rattle.hh_office.specs.Transitions.{Transition, refused, refused_for}
use Rattle.hh_successions.specs.RegistrationHistory.{IsAcceptedBy, no_rows, one_more, refusal_by}
use Rattle.hh_successions.specs.RowRules.{RowRule}
use Rattle.hh_old_versions.specs.OldVersions.{is_lead_refusal, rule_of_version_one}
use Rattle.hh_old_versions.specs.OldVersionStates.{IsReachedBy, at_first, by_load, by_run, first_fault_by}
use Rattle.hh_old_versions.specs.OldVersionMachine.{VersionOneGoesOn, act_by, is_lead_reply, load_beside_by, load_by, load_new_by, loaded_by, step_by}
use Rattle.hh_old_versions.proofs.VersionLaws.{same_refusals}

-- the fault of the first row that is refused: this row's, or a later one's
abbrev told : ℕ → Option Refusal → Option Fault → Option Fault
told n why later = elim why [ Some r ↦ Some (row_fault r n) | None ↦ later ]

-- rows of which the rule refuses none are accepted one after the other
rows_accepted : (rule : RowRule) (timetable : Timetable) (rows history : History) (n : ℕ) → first_fault_by rule timetable history n rows ≡ None
    → IsAcceptedBy rule timetable history → IsAcceptedBy rule timetable (history ++ rows)
rows_accepted rule timetable [] history n none before = subst (IsAcceptedBy rule timetable) (sym (append-nil history)) before
rows_accepted rule timetable (a ∷ rows) history n none before =
    elim (refusal_by rule timetable history a) as (λ o. refusal_by rule timetable history a ≡ o
    → told n o (first_fault_by rule timetable (history ++ a ∷ []) (n + 1) rows) ≡ None → IsAcceptedBy rule timetable (history ++ a ∷ rows)) [
      | Some why ↦ λ is refused. cc
      | None ↦ λ is later. subst (IsAcceptedBy rule timetable) (append_assoc history (a ∷ []) rows)
          (rows_accepted rule timetable rows (history ++ a ∷ []) (n + 1) later (one_more history a before is))
    ] refl none

-- so the history of each reached state is accepted
reached_accepted : (rule : RowRule) (midnight : Midnights) (s : State) → IsReachedBy rule midnight s → IsAcceptedBy rule (timetable_at midnight s) s.history
reached_accepted rule midnight s (at_first settings are) = no_rows
reached_accepted rule midnight s (by_load t load reached can) =
    rows_accepted rule (timetable_at midnight t) (rows_coming load) t.history 1 can.accepted (reached_accepted rule midnight t reached)
reached_accepted rule midnight s (by_run t moment key reached can) = reached_accepted rule midnight t reached

-- the fault is one of 39 and 40
abbrev is_lead_fault : Option Fault → Bool
is_lead_fault o = is_some_that (λ f. is_lead_refusal f.refusal) o

-- the rows of a file meet the same fault, unless that is 39 or 40 in version 1
same_fault : (timetable : Timetable) (rows history : History) (n : ℕ) → IsAcceptedBy rule_of_version_one timetable history
    → is_lead_fault (first_fault_by rule_of_version_one timetable history n rows) ≡ false
    → first_fault timetable history n rows ≡ first_fault_by rule_of_version_one timetable history n rows
same_fault timetable [] history n before other = refl
same_fault timetable (a ∷ rows) history n before other =
    elim (refusal_by rule_of_version_one timetable history a) as (λ o. refusal_by rule_of_version_one timetable history a ≡ o
    → is_lead_fault (told n o (first_fault_by rule_of_version_one timetable (history ++ a ∷ []) (n + 1) rows)) ≡ false
    → told n (refusal_after timetable history a) (first_fault timetable (history ++ a ∷ []) (n + 1) rows) ≡ told n o (first_fault_by rule_of_version_one timetable (history ++ a ∷ []) (n + 1) rows)) [
      | Some why ↦ λ is other. ap (λ o. told n o (first_fault timetable (history ++ a ∷ []) (n + 1) rows))
          (same_refusals timetable history a before (ap (is_some_that is_lead_refusal) is ∙ other) ∙ is)
      | None ↦ λ is other. ap (λ o. told n o (first_fault timetable (history ++ a ∷ []) (n + 1) rows))
          (same_refusals timetable history a before (ap (is_some_that is_lead_refusal) is) ∙ is)
          ∙ same_fault timetable rows (history ++ a ∷ []) (n + 1) (one_more history a before is) other
    ] refl other

still_reached : (midnight : Midnights) (s : State) → IsReachedBy rule_of_version_one midnight s → IsReached midnight s
still_reached midnight s (at_first settings are) = now.at_first settings are
still_reached midnight s (by_load t load reached can) =
    now.by_load t load (still_reached midnight t reached) (record {
      new = can.new;
      named = can.named;
      file = can.file;
      accepted = same_fault (timetable_at midnight t) (rows_coming load) t.history 1 (reached_accepted rule_of_version_one midnight t reached) (ap is_lead_fault can.accepted) ∙ can.accepted;
    })
still_reached midnight s (by_run t moment key reached can) = now.by_run t moment key (still_reached midnight t reached) can

-- ---- what becomes of a request

module _ (midnight : Midnights) (s : State) (reached : IsReachedBy rule_of_version_one midnight s) where
  -- what becomes of a load that meets this fault, or none
  abbrev ends : Load → Option Fault → Transition
  ends load o = elim o [
    | Some fault ↦ refused s fault
    | None ↦ record { reply = loaded_reply (kept_file (timetable_at midnight s) load); state = after_load midnight s load }
  ]

  -- a load is refused with 39 or 40 if that is its fault
  told_by_reply : (load : Load) (o : Option Fault) → is_lead_reply (ends load o).reply ≡ is_lead_fault o
  told_by_reply load (Some fault) = refl
  told_by_reply load None = refl

  same_loaded : (load : Load) → is_lead_reply (loaded_by rule_of_version_one midnight s load).reply ≡ false
      → loaded midnight s load ≡ loaded_by rule_of_version_one midnight s load
  same_loaded load other =
      ap (ends load) (same_fault (timetable_at midnight s) (coming_at load.moment load.rows) s.history 1 (reached_accepted rule_of_version_one midnight s reached)
      (sym (told_by_reply load (first_fault_by rule_of_version_one (timetable_at midnight s) s.history 1 (coming_at load.moment load.rows))) ∙ other))

  -- what becomes of a file that reads as these rows, or has this fault
  abbrev reads : (Load → Transition) → ℤ → Upload → Result (List Row) Fault → Transition
  reads becomes moment upload o = elim o [
    | Err fault ↦ refused s fault
    | Ok rows ↦ becomes (load_read_as moment upload rows)
  ]

  same_read : (moment : ℤ) (upload : Upload) (o : Result (List Row) Fault) → is_lead_reply (reads (loaded_by rule_of_version_one midnight s) moment upload o).reply ≡ false
      → reads (loaded midnight s) moment upload o ≡ reads (loaded_by rule_of_version_one midnight s) moment upload o
  same_read moment upload (Err fault) other = refl
  same_read moment upload (Ok rows) other = same_loaded (load_read_as moment upload rows) other

  same_new : (moment : ℤ) (upload : Upload) → is_lead_reply (load_new_by rule_of_version_one midnight s moment upload).reply ≡ false
      → load_new midnight s moment upload ≡ load_new_by rule_of_version_one midnight s moment upload
  same_new moment upload other = same_read moment upload (file_rows upload.kind upload.body) other

  same_beside : (kept : Option KeptFileView) (moment : ℤ) (upload : Upload) → is_lead_reply (load_beside_by rule_of_version_one midnight s kept moment upload).reply ≡ false
      → load_beside midnight s kept moment upload ≡ load_beside_by rule_of_version_one midnight s kept moment upload
  same_beside (Some file) moment upload other = refl
  same_beside None moment upload other = same_new moment upload other

  same_load : (moment : ℤ) (upload : Upload) → is_lead_reply (load_by rule_of_version_one midnight s moment upload).reply ≡ false
      → machine.load midnight s moment upload ≡ load_by rule_of_version_one midnight s moment upload
  same_load moment upload =
      elim (nat_lt most_bytes (length upload.body)) as (λ b.
      is_lead_reply (cond b (refused_for s FileTooLarge) (load_beside_by rule_of_version_one midnight s (find file_key_cmp (key_of upload) s.files) moment upload)).reply ≡ false
      → cond b (refused_for s FileTooLarge) (load_beside midnight s (find file_key_cmp (key_of upload) s.files) moment upload)
      ≡ cond b (refused_for s FileTooLarge) (load_beside_by rule_of_version_one midnight s (find file_key_cmp (key_of upload) s.files) moment upload)) [
        | true ↦ λ other. refl
        | false ↦ λ other. same_beside (find file_key_cmp (key_of upload) s.files) moment upload other
      ]

  same_act : (moment : ℤ) (action : Action) → is_lead_reply (act_by rule_of_version_one midnight s moment action).reply ≡ false
      → act midnight s moment action ≡ act_by rule_of_version_one midnight s moment action
  same_act moment (ask.Load upload) other = same_load moment upload other
  same_act moment (ask.Run key) other = refl
  same_act moment (ask.Account account date) other = refl
  same_act moment (ask.Balance account) other = refl
  same_act moment (ask.Contracts account date) other = refl
  same_act moment (ask.Runs date) other = refl

  same_step : (moment : ℤ) (request : Request) → is_lead_reply (step_by rule_of_version_one midnight s moment request).reply ≡ false
      → step midnight s moment request ≡ step_by rule_of_version_one midnight s moment request
  same_step moment request =
      elim (may midnight s request.key request.action) as (λ b.
      is_lead_reply (cond b (act_by rule_of_version_one midnight s moment request.action) (refused_for s Forbidden)).reply ≡ false
      → cond b (act midnight s moment request.action) (refused_for s Forbidden)
      ≡ cond b (act_by rule_of_version_one midnight s moment request.action) (refused_for s Forbidden)) [
        | true ↦ λ other. same_act moment request.action other
        | false ↦ λ other. refl
      ]

pub version_one_goes_on : VersionOneGoesOn
version_one_goes_on midnight s reached = record {
  reached = still_reached midnight s reached;
  answer = λ moment request other. ap (λ (t : Transition). t.reply) (same_step midnight s reached moment request other);
  next = λ moment request other. ap (λ (t : Transition). t.state) (same_step midnight s reached moment request other);
}
