-- What the office replies to enquiries about accounts and runs.
use Rattle.std.proofs.Common.{◌≡◌, ℕ, List, [], ◌∷◌, map, length, refl, sym, ap, subst, ◌∙◌, ◌-◌, Bool, true, false, cond, Option, Some, None, Result, arith}
use Rattle.std.specs.Prelude.{◌==◌, IfSome, filter, option_map, slice_get}
use Rattle.std.specs.List.{AllByRecursion}
use Rattle.std.proofs.lemmas.Bool.{eqb-true}
use Rattle.std.proofs.lemmas.Option.{none-some}
use Rattle.hh_names.specs.declared.account.Account.{Account}
use Rattle.hh_names.specs.declared.fault.Fault.{Fault}
use Rattle.hh_names.specs.declared.fault.Refusal.TheVariants.{NoRun}
use Rattle.hh_names.specs.Faults.{plain_fault}
use Rattle.hh_runs.specs.declared.run_kind.RunKind.{RunKind}
use Rattle.hh_runs.specs.declared.summary.Summary.{Summary}
use Rattle.hh_runs.specs.declared.run_key.RunKey.{RunKey}
use Rattle.hh_requests.specs.declared.reply.Reply.{Reply}
use Rattle.hh_requests.specs.declared.reply.Reply.TheVariants as reply
use Rattle.hh_states.specs.Content.{Content, tables_of}
use Rattle.hh_states.specs.Reads.{results_in, runs_in}
use Rattle.hh_states.specs.RunReads.{HoldsResults, HoldsRuns, rows_in_run}
use Rattle.hh_states.specs.Runs.{Run, last_of, latest_run, runs_of_date}
use Rattle.hh_states.specs.States.{State}
use Rattle.hh_states.specs.Steps.{kinds_on}
use Rattle.hh_office.specs.Enquiries.{account_reply, reply_by_rows, reply_by_run, rows_of_account}
use Rattle.hh_office.specs.Promises.{MakesTransition, Represents}
use Rattle.hh_office.specs.steps.Promises.{RepliesAs, reply_of}
use Rattle.hh_office.specs.steps.Reads.{latest_key}
use Rattle.hh_office.specs.Transitions.{unchanged}
use Rattle.hh_office.specs.Views.{OfficeView, midnight_of}
use Rattle.hh_office.proofs.StepLaws.{comes_unchanged, comes_replied}

-- the last item of a list is at its last place
last_at : {X : Type 0} (x : X) (xs : List X) → last_of (x ∷ xs) ≡ slice_get (x ∷ xs) (length xs)
last_at x [] = refl
last_at x (y ∷ xs) = last_at y xs

last_there : {X : Type 0} (xs : List X) → last_of xs ≡ slice_get xs (length xs - 1)
last_there [] = refl
last_there (x ∷ xs) =
    let less : length xs ≡ length (x ∷ xs) - 1 = omega arith in
    last_at x xs ∙ ap (slice_get (x ∷ xs)) less

-- the key of the latest of the runs of a date
pub latest_there : (date : ℕ) (runs : List (RunKind × Summary))
    → option_map (λ (r : RunKind × Summary). record { date = date; kind = r.0 }) (slice_get runs (length runs - 1)) ≡ latest_key date runs
latest_there date runs = ap (option_map (λ r. record { date = date; kind = r.0 })) (sym (last_there runs))

-- if a function is applied to each item, the last result is that of the last item
pub last-map : {X Y : Type 0} (f : X → Y) (xs : List X) → last_of (map f xs) ≡ option_map f (last_of xs)
last-map f [] = refl
last-map f (x ∷ []) = refl
last-map f (x ∷ y ∷ xs) = last-map f (y ∷ xs)

pub option_map-twice : {X Y Z : Type 0} (f : Y → Z) (g : X → Y) (o : Option X) → option_map f (option_map g o) ≡ option_map (λ x. f (g x)) o
option_map-twice f g None = refl
option_map-twice f g (Some x) = refl

-- what holds for the items that pass a test holds for the filtered list, and its items pass the test
passing : {X : Type 0} (P : X → Type 0) (test : X → Bool) (xs : List X) → AllByRecursion P xs → AllByRecursion (λ x. P x × (test x ≡ true)) (filter test xs)
passing P test [] all = tt
passing P test (x ∷ xs) all =
    elim (test x) as (λ b. test x ≡ b → AllByRecursion (λ x. P x × (test x ≡ true)) (cond b (x ∷ filter test xs) (filter test xs))) [
      | true ↦ λ is. ((all.0, is), passing P test xs all.1)
      | false ↦ λ is. passing P test xs all.1
    ] refl

-- what holds for each item holds for the last
last_holds : {X : Type 0} (P : X → Type 0) (xs : List X) → AllByRecursion P xs → IfSome (last_of xs) P
last_holds P [] all = tt
last_holds P (x ∷ []) all = all.0
last_holds P (x ∷ y ∷ xs) all = last_holds P (y ∷ xs) all.1

-- the latest run of a date is of that date, and what holds for each run holds for it
pub latest_holds : (P : Run → Type 0) (date : ℕ) (runs : List Run) → AllByRecursion P runs → IfSome (latest_run date runs) (λ r. P r × ((r.key.date == date) ≡ true))
latest_holds P date runs all =
    last_holds (λ r. P r × ((r.key.date == date) ≡ true)) (runs_of_date date runs) (passing P (λ r. r.key.date == date) runs all)

-- the trivial fact holds for each item
pub all_plain : {X : Type 0} (xs : List X) → AllByRecursion (λ x. Unit {0}) xs
all_plain [] = tt
all_plain (x ∷ xs) = (tt, all_plain xs)

-- the key of a run of a date is the date with the run's kind
pub key_by : (date : ℕ) (o : Option Run) → IfSome o (λ r. Unit {0} × ((r.key.date == date) ≡ true))
    → option_map (λ r. record { date = date; kind = r.key.kind }) o ≡ option_map (λ r. r.key) o
key_by date None is = refl
key_by date (Some r) is = ap (λ d. Some (record { date = d; kind = r.key.kind })) (sym (eqb-true r.key.date date is.1))

module _ (office : OfficeView) (s : State) (stands : Represents office s) (runs : HoldsRuns) where
  -- the latest of the runs of a date in the tables is the machine's latest run
  pub latest_is : (date : ℕ) → latest_key date (runs_in office.content date) ≡ option_map (λ r. r.key) (latest_run date s.runs)
  latest_is date =
      let kind_of : RunKind × Summary → RunKind = λ r. r.0 in
      let keyed : RunKind → RunKey = λ k. record { date = date; kind = k } in
      let kinds : map kind_of (runs_in office.content date) ≡ kinds_on s date =
      ap (λ (c : Content). map kind_of (runs_in c date)) stands.1 ∙ runs (midnight_of office) s date stands.0 in
      sym (option_map-twice keyed kind_of (last_of (runs_in office.content date)))
      ∙ ap (option_map keyed) (sym (last-map kind_of (runs_in office.content date)) ∙ ap last_of kinds ∙ last-map (λ r. r.key.kind) (runs_of_date date s.runs))
      ∙ option_map-twice keyed (λ r. r.key.kind) (latest_run date s.runs)
      ∙ key_by date (latest_run date s.runs) (latest_holds (λ r. Unit {0}) date s.runs (all_plain s.runs))

  -- a date without a run
  none_by : (a : Account) (o : Option Run) → option_map (λ r. r.key) o ≡ None → reply_by_run (midnight_of office) s a o ≡ reply.Refused (plain_fault NoRun)
  none_by a None is = refl
  none_by a (Some r) is = absurd (none-some r.key (sym is))

  pub account_none : (a : Account) (date : ℕ) → None ≡ latest_key date (runs_in office.content date)
      → MakesTransition office office (reply.Refused (plain_fault NoRun)) (unchanged s (account_reply (midnight_of office) s a date))
  account_none a date none =
      subst (λ r. MakesTransition office office (reply.Refused (plain_fault NoRun)) (unchanged s r))
      (sym (none_by a (latest_run date s.runs) (sym (latest_is date) ∙ sym none)))
      (comes_unchanged office s (reply.Refused (plain_fault NoRun)) stands)

  -- the rows of the latest run
  rows_by : (a : Account) (date : ℕ) (key : RunKey) (o : Option Run) → option_map (λ r. r.key) o ≡ Some key
      → IfSome o (λ r. (results_in (tables_of (midnight_of office) s) r.key ≡ rows_in_run (midnight_of office) s r) × ((r.key.date == date) ≡ true))
      → reply_by_rows a key (rows_of_account a (results_in office.content key)) ≡ reply_by_run (midnight_of office) s a o
  rows_by a date key None is held = absurd (none-some key is)
  rows_by a date key (Some r) is held =
      let same : key ≡ r.key = cc is in
      (λ i. reply_by_rows a (same i) (rows_of_account a (results_in (stands.1 i) (same i))))
      ∙ ap (λ rows. reply_by_rows a r.key (rows_of_account a rows)) held.0

  pub account_found : HoldsResults → (a : Account) (date : ℕ) (key : RunKey) (result : Result Reply Fault)
      → Some key ≡ latest_key date (runs_in office.content date)
      → RepliesAs result (reply_by_rows a key (rows_of_account a (results_in office.content key)))
      → MakesTransition office office (reply_of result) (unchanged s (account_reply (midnight_of office) s a date))
  account_found results a date key result found replies =
      let latest : Option Run = latest_run date s.runs in
      let rows = rows_by a date key latest (sym (latest_is date) ∙ sym found) (latest_holds _ date s.runs (results (midnight_of office) s stands.0)) in
      comes_replied office s result (account_reply (midnight_of office) s a date) stands (subst (RepliesAs result) rows replies)
