-- How often a store has refused over the parts of a request, and which parts refuse for another reason.
use Rattle.std.proofs.Common.{◌≡◌, ℕ, ◌+◌, ◌≤◌, ◌<◌, List, [], ◌∷◌, ◌++◌, length, refl, sym, ap, subst, Bool, true, false, cond, arith, Option, Some, None, Result, Ok, Err}
use Rattle.std.specs.Prelude.{All, IfErr, IsErr, IsErrAnd, IsTrue, MatchBool, is_some, ◌==◌, nat_lt, unwrap_or}
use Rattle.std.specs.List.{AllByRecursion}
use Rattle.hh_tables.proofs.TableLaws.{false_is_not_true}
use Rattle.hh_names.specs.declared.fault.Fault.{Fault}
use Rattle.hh_names.specs.declared.fault.Refusal.{Refusal}
use Rattle.hh_names.specs.declared.fault.Refusal.TheVariants as refusal
use Rattle.hh_names.specs.declared.fault.Refusal.TheVariants.{FileChanged, BadRecord, FileTooLarge, TooManyRows}
use Rattle.hh_names.specs.Faults.{faults, first_met, plain_fault, row_fault, ByRefusal, IsOutcomeOrNoMemory, Refuses}
use Rattle.hh_rows.specs.RowKinds.{most_bytes, most_rows}
use Rattle.hh_rows.specs.declared.file_kind.FileKind.{FileKind}
use Rattle.hh_rows.specs.declared.rows.Row.{Row}
use Rattle.hh_rows.specs.declared.rows.Row.TheVariants as row
use Rattle.hh_rules.specs.FileRows.{FileRowsView, file_outcome, first_fault, judged_file, refusal_after}
use Rattle.hh_rules.specs.History.{History, registered_in}
use Rattle.hh_rules.specs.Lateness.{Accepted, Timetable, timing_of}
use Rattle.hh_rules.specs.declared.timing.Timing.{Timing}
use Rattle.hh_rules.specs.Refusals.{Standing, refusals_of, whole_standing}
use Rattle.hh_texts.specs.Files.{file_rows, kind_forms}
use Rattle.hh_texts.specs.Records.{records_of}
use Rattle.hh_texts.specs.Rows.{FileForm, at_row, form_under, row_with, rows_by, rows_from, rows_of, rows_under}
use Rattle.hh_rows.specs.declared.settlement_period.SettlementPeriod.{SettlementPeriod}
use Rattle.hh_states.specs.Content.{Content}
use Rattle.hh_store.specs.DayReads.{ArePeriodsOf}
use Rattle.hh_store.specs.declared.day_data.PeriodState.{PeriodState}
use Rattle.hh_store.specs.Reached.{AreReached}
use Rattle.hh_day.specs.RunLimits.{MayBeSettled, TermsReady}
use Rattle.hh_store.specs.StoreFaults.{CountsOneMore, CountsRefusal, store_fault}
use Rattle.hh_store.specs.declared.store_fault.StoreFault.{StoreFault}
use Rattle.hh_store.specs.declared.store_fault.StoreFault.TheVariants.{Memory, Store}
use Rattle.std.specs.Str.{bytes_eq}
use Rattle.hh_requests.specs.declared.reply.Reply.{Reply}
use Rattle.hh_requests.specs.declared.reply.Reply.TheVariants as reply
use Rattle.hh_runs.specs.NextRun.{is_done, new_unless, next_run, order_refusals}
use Rattle.hh_runs.specs.declared.next_run.NextRun.TheVariants.{Kept}
use Rattle.hh_runs.specs.declared.run_kind.RunKind.{RunKind}
use Rattle.hh_states.specs.States.{KeptFileView}
use Rattle.hh_office.specs.Machine.{loaded_reply, repeat_reply}
use Rattle.hh_office.specs.Promises.{UnlessFailed}
use Rattle.hh_office.specs.steps.Promises.{reply_of}
use Rattle.hh_office.specs.Views.{OfficeView, midnight_of}
use Rattle.hh_office.specs.Refusals.{CountsStoreFault, CountsReplies, CountsReply, IsElsewhere, IsNotOfStore, RepresentsSome, is_of_store}
use Rattle.hh_office.specs.steps.Refusals.{CountsAnswer}
use Rattle.hh_devices.specs.Devices.{most_failures}

-- ---- faults that are passed on

-- the reply to a refusal that is passed on
pub refused_alike : (result : Result Reply Fault) (fault : Fault) (old new : ℕ) → IsErr result × IsErrAnd result (λ f. f ≡ fault)
    → CountsStoreFault fault old new → CountsReply (reply_of result) old new
refused_alike (Ok x) fault old new passed counts = absurd (false_is_not_true passed.0)
refused_alike (Err f) fault old new passed counts = subst (λ f. CountsStoreFault f old new) (sym passed.1) counts

-- the same for a part of a request
pub refuses_alike : {X : Type 0} (result : Result X Fault) (fault : Fault) (old new : ℕ) → IsErr result × IsErrAnd result (λ f. f ≡ fault)
    → CountsStoreFault fault old new → CountsAnswer result old new
refuses_alike (Ok x) fault old new passed counts = absurd (false_is_not_true passed.0)
refuses_alike (Err f) fault old new passed counts = subst (λ f. CountsStoreFault f old new) (sym passed.1) counts

-- a fault of the store, as a refusal
pub store_counts : (Y : Type 0) (e : StoreFault) (old new : ℕ) → CountsRefusal {A = Y} (Err e) old new → CountsStoreFault (store_fault e) old new
store_counts Y Memory old new counts = counts
store_counts Y Store old new counts = counts

-- an office that represents a state has the tables of a state that the machine reaches
pub reached_by : (office : OfficeView) → RepresentsSome office → AreReached office.content
reached_by office (s, stands) = (midnight_of office, s, stands)

-- ---- refusals for another reason

some_same : {X : Type 0} (x y : X) → Some x ≡ Some y → x ≡ y
some_same x y is = ap (λ o. unwrap_or o x) is

-- the store counts no refusal that is for another reason
pub elsewhere_counts : (fault : Fault) (n : ℕ) → IsElsewhere fault → CountsStoreFault fault n n
elsewhere_counts fault n is = subst (λ b. MatchBool b (CountsOneMore n n) (n ≡ n)) (sym is) refl

module _ {X : Type 0} where
  with_elsewhere : (number : ℕ) (row : Result X ℕ) (rows : Result (List X) Fault) → IfErr rows IsElsewhere → IfErr (row_with (at_row number row) rows) IsElsewhere
  with_elsewhere number (Ok row) (Ok rows) is = tt
  with_elsewhere number (Ok row) (Err fault) is = is
  with_elsewhere number (Err column) rows is = refl

  from_elsewhere : (columns : ℕ) (row_of : List (List ℕ) → Result X ℕ) (number : ℕ) (records : List (List (List ℕ)))
      → IfErr (rows_from columns row_of number records) IsElsewhere
  unfolding rows_from
  from_elsewhere columns row_of number [] = tt
  from_elsewhere columns row_of number (fields ∷ records) =
      elim (nat_lt most_rows number) as (λ b. IfErr (cond b (Err (plain_fault TooManyRows))
      (cond (length fields == columns) (row_with (at_row number (row_of fields)) (rows_from columns row_of (number + 1) records)) (Err (row_fault BadRecord number)))) IsElsewhere) [
        | true ↦ refl
        | false ↦ elim (length fields == columns) as (λ b.
            IfErr (cond b (row_with (at_row number (row_of fields)) (rows_from columns row_of (number + 1) records)) (Err (row_fault BadRecord number))) IsElsewhere) [
              | true ↦ with_elsewhere number (row_of fields) (rows_from columns row_of (number + 1) records) (from_elsewhere columns row_of (number + 1) records)
              | false ↦ refl
            ]
      ]

  by_elsewhere : (form : Option (FileForm X)) (records : List (List (List ℕ))) → IfErr (rows_by form records) IsElsewhere
  by_elsewhere None records = refl
  by_elsewhere (Some form) records = from_elsewhere (length form.header) form.row 1 records

  under_elsewhere : (forms : List (FileForm X)) (records : List (List (List ℕ))) → IfErr (rows_under forms records) IsElsewhere
  unfolding rows_under
  under_elsewhere forms [] = refl
  under_elsewhere forms (first ∷ records) = by_elsewhere (form_under first forms) records

  of_elsewhere : (forms : List (FileForm X)) (bytes : List ℕ) → IfErr (rows_of forms bytes) IsElsewhere
  unfolding rows_of
  of_elsewhere forms bytes =
      elim (nat_lt most_bytes (length bytes)) as (λ b. IfErr (cond b (Err (plain_fault FileTooLarge)) (rows_under forms (records_of bytes))) IsElsewhere) [
        | true ↦ refl
        | false ↦ under_elsewhere forms (records_of bytes)
      ]

-- a file that is off its form is not refused for the store
pub file_elsewhere : (kind : FileKind) (bytes : List ℕ) → IfErr (file_rows kind bytes) IsElsewhere
file_elsewhere kind bytes = of_elsewhere (kind_forms kind) bytes

-- if all refusals are for other reasons, so is the first that applies
met_elsewhere : (rs : List (Refusal × Bool)) (why : Refusal) → AllByRecursion (λ r. is_of_store r.0 ≡ false) rs → first_met rs ≡ Some why
    → is_of_store why ≡ false
met_elsewhere [] why all is = absurd (false_is_not_true (ap is_some is))
met_elsewhere (r ∷ rs) why all is = met_by r.1 (met_elsewhere rs why all.1) is
  where
    met_by : (b : Bool) → (first_met rs ≡ Some why → is_of_store why ≡ false) → cond b (Some r.0) (first_met rs) ≡ Some why → is_of_store why ≡ false
    met_by true later is = subst (λ w. is_of_store w ≡ false) (some_same r.0 why is) all.0
    met_by false later is = later is

-- a row of a file is refused only by the rules of the market
row_elsewhere : (standing : Standing) (timing : Timing) (r : Row) → AllByRecursion (λ r. is_of_store r.0 ≡ false) (refusals_of standing timing r)
row_elsewhere standing timing (row.Party r) = (refl, (refl, tt))
row_elsewhere standing timing (row.Unit r) = (refl, (refl, (refl, (refl, (refl, (refl, tt))))))
row_elsewhere standing timing (row.Meter r) = (refl, (refl, (refl, tt)))
row_elsewhere standing timing (row.Price r) = (refl, tt)
row_elsewhere standing timing (row.Contract r) = (refl, (refl, (refl, (refl, (refl, tt)))))
row_elsewhere standing timing (row.Reallocation r) = (refl, (refl, (refl, (refl, (refl, (refl, tt))))))

-- the same for a file
pub first_elsewhere : (timetable : Timetable) (history : History) (n : ℕ) (rows : List Accepted) (fault : Fault)
    → first_fault timetable history n rows ≡ Some fault → IsElsewhere fault
first_elsewhere timetable history n [] fault is = absurd (false_is_not_true (ap is_some is))
first_elsewhere timetable history n (a ∷ rows) fault is =
    first_by (refusal_after timetable history a) refl (first_elsewhere timetable (history ++ a ∷ []) (n + 1) rows fault) is
  where
    first_by : (found : Option Refusal) → refusal_after timetable history a ≡ found
        → (first_fault timetable (history ++ a ∷ []) (n + 1) rows ≡ Some fault → IsElsewhere fault)
        → elim found as (λ _. Option Fault) [ Some why ↦ Some (row_fault why n) | None ↦ first_fault timetable (history ++ a ∷ []) (n + 1) rows ] ≡ Some fault
        → IsElsewhere fault
    first_by (Some why) met later is =
        subst IsElsewhere (some_same (row_fault why n) fault is)
        (met_elsewhere (refusals_of (whole_standing (registered_in timetable history)) (timing_of timetable a) a.row) why
        (row_elsewhere (whole_standing (registered_in timetable history)) (timing_of timetable a) a.row) met)
    first_by None met later is = later is

elsewhere_by : (r : Refusal) (P Q : Type 0) → (Q → is_of_store r ≡ false) → ByRefusal r P Q → is_of_store r ≡ false
elsewhere_by refusal.Memory P Q other memory = refl
elsewhere_by r P Q other is = other is

-- if the fault of the outcome is for another reason, so is the fault of the answer
pub given_elsewhere : {Y : Type 0} (fault : Fault) (outcome : Result Y Fault) → IfErr outcome IsElsewhere → Refuses faults fault outcome → IsElsewhere fault
given_elsewhere fault outcome others refused =
    elsewhere_by fault.refusal _ _ (λ is. subst (λ o. IfErr o IsElsewhere) is others) refused

-- in the tables of a reached state, each Settlement Period can be settled from its terms
pub reached_ready : TermsReady → (content : Content) → AreReached content → (periods : List SettlementPeriod) (states : List PeriodState)
    → ArePeriodsOf content.registered periods states → All MayBeSettled states
reached_ready law content (midnight, s, stands) periods states are =
    law midnight s periods states stands.0 (subst (λ (c : Content). ArePeriodsOf c.registered periods states) stands.1 are)

-- and what is kept beside them agrees with them
pub reached_in_step : (content : Content) → AreReached content → IsTrue content.is_in_step
reached_in_step content (midnight, s, stands) = ap (λ (c : Content). c.is_in_step) stands.1

-- a call that fails only for memory gives a refusal for another reason
pub memory_elsewhere : (e : StoreFault) → e ≡ Memory → IsElsewhere (store_fault e)
memory_elsewhere e is = ap (λ (e : StoreFault). is_of_store (store_fault e).refusal) is

-- the store counts no refusal of a call that fails only for memory
pub memory_counted : {X : Type 0} (result : Result X Fault) (e : StoreFault) (old new : ℕ) → IsErr result × IsErrAnd result (λ f. f ≡ store_fault e)
    → e ≡ Memory → new ≡ old → CountsAnswer result old new
memory_counted result e old new passed alone same =
    refuses_alike result (store_fault e) old new passed
    (subst (λ n. CountsStoreFault (store_fault e) old n) (sym same) (elsewhere_counts (store_fault e) old (memory_elsewhere e alone)))

-- a fault of the store gives a request up, whatever held otherwise
pub store_unless : (e : StoreFault) (holds : Type 0) → UnlessFailed (store_fault e) holds
store_unless Memory holds = tt
store_unless Store holds = tt

-- a refusal for another reason counts none, wherever the count was last known
pub elsewhere_counted : (fault : Fault) (old new : ℕ) → IsElsewhere fault → new ≡ old → CountsStoreFault fault old new
elsewhere_counted fault old new elsewhere same = subst (λ n. CountsStoreFault fault old n) (sym same) (elsewhere_counts fault old elsewhere)

-- an answer that refuses only for another reason counts none
pub answer_counted : {X : Type 0} (result : Result X Fault) (old new : ℕ) → IfErr result IsElsewhere → new ≡ old → CountsAnswer result old new
answer_counted (Ok x) old new elsewhere same = same
answer_counted (Err fault) old new elsewhere same = elsewhere_counted fault old new elsewhere same

-- if an outcome is refused only for another reason, so is the answer
pub gives_elsewhere : {X Y : Type 0} (view : X → Y) (result : Result X Fault) (outcome : Result Y Fault) → IfErr outcome IsElsewhere
    → IsOutcomeOrNoMemory faults view result outcome → IfErr result IsElsewhere
gives_elsewhere view (Ok x) outcome others gives = tt
gives_elsewhere view (Err fault) outcome others gives = given_elsewhere fault outcome others gives

-- the rows of a file are refused only for another reason
pub judged_elsewhere : (timetable : Timetable) (history : History) (rows : List Accepted) → IfErr (judged_file timetable history rows) IsElsewhere
judged_elsewhere timetable history rows = judged_by (first_fault timetable history 1 rows) (first_elsewhere timetable history 1 rows)
  where
    judged_by : (found : Option Fault) → ((fault : Fault) → found ≡ Some fault → IsElsewhere fault)
        → IfErr (elim found as (λ _. Result FileRowsView Fault) [ Some fault ↦ Err fault | None ↦ Ok (file_outcome timetable history rows) ]) IsElsewhere
    judged_by None others = tt
    judged_by (Some fault) others = others fault refl

-- so is a run, by the order of runs
pub next_elsewhere : (done : List RunKind) (wanted : RunKind) → IfErr (next_run done wanted) IsElsewhere
next_elsewhere done wanted =
    elim (is_done done wanted) as (λ b. IfErr (cond b (Ok Kept) (new_unless (first_met (order_refusals done wanted)))) IsElsewhere) [
      | true ↦ tt
      | false ↦ ordered_by (first_met (order_refusals done wanted)) (λ why. met_elsewhere (order_refusals done wanted) why (refl, (refl, tt)))
    ]
  where
    ordered_by : (found : Option Refusal) → ((why : Refusal) → found ≡ Some why → is_of_store why ≡ false) → IfErr (new_unless found) IsElsewhere
    ordered_by None others = tt
    ordered_by (Some why) others = others why refl

-- a file that is kept is told or refused, and the store counts no refusal
pub repeat_counts : (file : KeptFileView) (body : List ℕ) (n : ℕ) → CountsReply (repeat_reply file body) n n
repeat_counts file body n =
    elim (bytes_eq file.body body) as (λ b. CountsReply (cond b (loaded_reply file) (reply.Refused (plain_fault FileChanged))) n n) [ true ↦ refl | false ↦ refl ]

-- ---- lists of replies

all_more : {X : Type 0} (P : X → Type 0) (xs : List X) (x : X) → AllByRecursion P xs → P x → AllByRecursion P (xs ++ x ∷ [])
all_more P [] x all is = (is, tt)
all_more P (y ∷ xs) x all is = (all.0, all_more P xs x all.1 is)

-- a reply does not lower the count; and if the count did not rise, the reply is not the refusal of a store
counts_up : (b : Bool) (old new : ℕ) → MatchBool b (CountsOneMore old new) (new ≡ old)
    → (old ≤ new) × (new ≡ old → old < most_failures → b ≡ false)
counts_up true old new counts = (counts.0, λ same below. absurd (omega (arith, counts.1 below)))
counts_up false old new same = (omega arith, λ _ _. refl)

reply_up : (given : Reply) (old new : ℕ) → CountsReply given old new → (old ≤ new) × (new ≡ old → old < most_failures → IsNotOfStore given)
reply_up (reply.Refused fault) old new counts = counts_up (is_of_store fault.refusal) old new counts
reply_up (reply.Loaded x) old new same = (omega arith, λ _ _. tt)
reply_up (reply.Ran x y) old new same = (omega arith, λ _ _. tt)
reply_up (reply.Account x) old new same = (omega arith, λ _ _. tt)
reply_up (reply.Balance x y) old new same = (omega arith, λ _ _. tt)
reply_up (reply.Contracts x) old new same = (omega arith, λ _ _. tt)
reply_up (reply.Runs x) old new same = (omega arith, λ _ _. tt)

-- one more reply
pub counts_more : (given : List Reply) (r : Reply) (first old new : ℕ) → CountsReplies given first old → CountsReply r old new
    → CountsReplies (given ++ r ∷ []) first new
counts_more given r first old new before counts =
    let up = before.up in
    let more = (reply_up r old new counts).0 in
    record {
      up = omega arith;
      stays = λ same below.
          let still : old ≡ first = omega arith in
          let now : new ≡ old = omega arith in
          let low : old < most_failures = omega arith in
          all_more IsNotOfStore given r (before.stays still below) ((reply_up r old new counts).1 now low);
    }
