-- What comes of the steps of the office when a run is ordered.
use Rattle.std.proofs.Common.{◌≡◌, ℕ, List, [], ◌∷◌, get_or, map, refl, sym, ap, subst, ◌∙◌, Bool, true, false, cond, Option, Some, None, Result, Ok, Err, Ordering, Less, Equal, Greater}
use Rattle.std.specs.Prelude.{ℤ, IsTrue, MatchBool, OnOk, option_map, IfErr, is_some, ◌||◌, ◌==◌, filter_map}
use Rattle.std.specs.Option.{option_or}
use Rattle.hh_time.specs.Days.{Midnights, is_over, period_count}
use Rattle.hh_names.specs.declared.fault.Fault.{Fault}
use Rattle.hh_names.specs.declared.fault.Refusal.TheVariants.{DayNotOver, MissingPrice, TooLarge}
use Rattle.hh_names.specs.Faults.{plain_fault, first_met}
use Rattle.hh_rows.specs.declared.settlement_period.SettlementPeriod.{SettlementPeriod}
use Rattle.hh_rules.specs.History.{Registered}
use Rattle.hh_calc.specs.Terms.{Settled}
use Rattle.hh_store.specs.declared.day_data.PeriodState.{PeriodState}
use Rattle.hh_states.specs.Changes.{IsRunFrom, RunEffect, RunChangeView, effect_of_run, run_change}
use Rattle.hh_states.specs.Content.{Content, tables_of}
use Rattle.hh_states.specs.DaySettlement.{missing_meter, missing_price, periods_on, settled_day, too_large}
use Rattle.hh_states.specs.PeriodSettlement.{terms_at}
use Rattle.hh_states.specs.Readiness.{ArePeriodsConsistent, AreTermsConsistent, PeriodsReady}
use Rattle.hh_states.specs.States.{State}
use Rattle.hh_states.specs.Steps.{after_run, first_there, missing_meter_fault, period_fault, registered_at, CanRun, kept_summary, kinds_on, new_summary, run_fault, settle_fault}
use Rattle.hh_day.specs.NewRuns.{day_in, IsSettledDay, SettlesDay, IsWrittenFor, WritesTheRun, former_rows}
use Rattle.hh_day.specs.RunLimits.{FitsRun, RunsFit}
use Rattle.hh_office.specs.Promises.{Represents, UnlessFailed, gives_up, MakesTransition}
use Rattle.hh_office.specs.steps.Promises.{reply_of}
use Rattle.hh_office.specs.steps.Settling.{Lacks, WritesRun, lack_fault, LacksNothing, IsOverDay, TellsOrder, order_fault, IsNext, IsRunMade, RefusesIn, SettlesIn, rows_before}
use Rattle.hh_office.specs.Views.{OfficeView, midnight_of}
use Rattle.std.proofs.lemmas.Option.{none-some}
use Rattle.std.specs.Result.{IsErr, IsErrAnd}
use Rattle.hh_tables.proofs.TableLaws.{false_is_not_true}
use Rattle.hh_day.specs.declared.settle.SettledDay.{SettledDay}
use Rattle.hh_day.specs.declared.settle.SettledDay.TheVariants as outcome
use Rattle.std.specs.Prelude as words
use Rattle.hh_time.specs.declared.day.Day.{Day}
use Rattle.hh_office.proofs.StepLaws.{by_either, comes_refused, comes_unchanged}
use Rattle.std.specs.FinMap.{find}
use Rattle.std.specs.Ordering.{eq_by_cmp, nat_cmp, is_eq, ordering_then}
use Rattle.hh_runs.specs.declared.run_kind.RunKind.{RunKind}
use Rattle.hh_runs.specs.RunKinds.{run_kind_cmp, run_kind_number}
use Rattle.hh_runs.specs.NextRun.{is_done, new_unless, next_run, order_refusals}
use Rattle.std.specs.Cmp.{unsigned_ties, Equal-is, eq_by_cmp_equiv, nat_cmp_total}
use Rattle.hh_names.specs.declared.fault.Refusal.{Refusal}
use Rattle.hh_runs.specs.declared.next_run.NextRun.{NextRun}
use Rattle.hh_runs.specs.declared.next_run.NextRun.TheVariants.{Kept, New}
use Rattle.hh_runs.specs.declared.summary.Summary.{Summary}
use Rattle.std.proofs.lemmas.Bool.{eqb-true}
use Rattle.hh_tables.specs.Tables.{Table}
use Rattle.hh_runs.specs.declared.run_key.RunKey.{RunKey}
use Rattle.hh_requests.specs.declared.reply.Reply.{Reply}
use Rattle.hh_requests.specs.declared.reply.Reply.TheVariants as reply
use Rattle.hh_states.specs.Reads.{results_in, runs_in, summary_on}
use Rattle.hh_states.specs.RunReads.{HoldsRuns, HoldsSummaries}
use Rattle.hh_states.specs.Runs.{Run, latest_run, run_key_cmp}
use Rattle.hh_store.specs.StoreFaults.{store_fault}
use Rattle.hh_store.specs.declared.store_fault.StoreFault.{StoreFault}
use Rattle.hh_store.specs.declared.store_fault.StoreFault.TheVariants as store
use Rattle.hh_office.specs.steps.Reads.{latest_key}
use Rattle.hh_office.specs.Runs.{made_or_refused, run, run_beside}
use Rattle.hh_office.specs.Transitions.{Transition, refused}
use Rattle.hh_office.proofs.EnquiryLaws.{latest_is}
use Rattle.std.specs.List.{cons_option}

-- what the store wrote for a run is what the machine writes for each run to which this belongs
pub commit_writes_run : {T E : Type 0} (result : Result T E) (old new : OfficeView) (writes : RunChangeView) → RunEffect → new.zone ≡ old.zone
    → ((midnight : Midnights) → IsRunFrom midnight old.content writes → OnOk result (new.content ≡ effect_of_run writes old.content)) → OnOk result (WritesRun old new writes)
commit_writes_run (Err e) old new writes effect zone written = tt
commit_writes_run (Ok x) old new writes effect zone written = λ s moment key stands can is.
    let midnight = midnight_of old in
    let content : new.content ≡ tables_of midnight (after_run s key) =
    written midnight (s, moment, key, stands, can, is) ∙ (λ i. effect_of_run (is i) (stands.1 i)) ∙ sym (effect midnight s moment key can) in
    λ i. record { zone = zone i; content = content i }

-- the first of several, if one of the first two exists
or_some : {X : Type 0} (a b rest : Option X) (x : X) → option_or a b ≡ Some x → option_or a (option_or b rest) ≡ Some x
or_some None b rest x is = ap (λ o. option_or o rest) is
or_some (Some y) b rest x is = is

-- the first of several, if neither of the first two exists
or_none : {X : Type 0} (a b rest : Option X) → option_or a b ≡ None → option_or a (option_or b rest) ≡ rest
or_none None b rest is = ap (λ o. option_or o rest) is
or_none (Some y) b rest is = absurd (none-some y (sym is))

-- what follows unless the request was given up
unless_by : (b : Bool) (P Q : Type 0) → (P → Q) → MatchBool b (Unit {0}) P → MatchBool b (Unit {0}) Q
unless_by true P Q f is = tt
unless_by false P Q f is = f is

-- if the first comparison is not equal, it decides
not_equal_then : (o p : Ordering) → is_eq o ≡ false → is_eq (ordering_then o p) ≡ false
not_equal_then Less p is = refl
not_equal_then Equal p is = absurd (false_is_not_true (sym is))
not_equal_then Greater p is = refl

module _ (office : OfficeView) (s : State) (stands : Represents office s) (moment : ℤ) (date count : ℕ)
    (counted : period_count (midnight_of office) date ≡ count) (over : is_over (midnight_of office) date moment ≡ true) where
  -- the office's tables contain what is registered and in force in the state
  same_tables : office.content.registered ≡ registered_at (midnight_of office) s
  same_tables = ap (λ (c : Content). c.registered) stands.1

  abbrev of_tables : Registered → Option Fault
  of_tables tables =
      let periods : List SettlementPeriod = periods_on date count in
      option_or (option_map (period_fault MissingPrice) (missing_price tables periods))
      (option_or (option_map missing_meter_fault (missing_meter tables periods)) (option_or (option_map (period_fault TooLarge) (too_large tables periods)) None))

  abbrev lacks_price : Option Fault
  lacks_price = option_map (period_fault MissingPrice) (missing_price office.content.registered (periods_on date count))

  abbrev lacks_reading : Option Fault
  lacks_reading = option_map missing_meter_fault (missing_meter office.content.registered (periods_on date count))

  abbrev exceeds : Option Fault
  exceeds = option_or (option_map (period_fault TooLarge) (too_large office.content.registered (periods_on date count))) None

  -- if the day is over, only its periods can lack something
  by_periods : settle_fault (midnight_of office) s moment date ≡ of_tables office.content.registered
  by_periods =
      ap (λ b. first_there (cond b None (Some (plain_fault DayNotOver))
      ∷ option_map (period_fault MissingPrice) (missing_price (registered_at (midnight_of office) s) (periods_on date (period_count (midnight_of office) date)))
      ∷ option_map missing_meter_fault (missing_meter (registered_at (midnight_of office) s) (periods_on date (period_count (midnight_of office) date)))
      ∷ option_map (period_fault TooLarge) (too_large (registered_at (midnight_of office) s) (periods_on date (period_count (midnight_of office) date))) ∷ [])) over
      ∙ ap (λ n. option_or (option_map (period_fault MissingPrice) (missing_price (registered_at (midnight_of office) s) (periods_on date n)))
      (option_or (option_map missing_meter_fault (missing_meter (registered_at (midnight_of office) s) (periods_on date n)))
      (option_or (option_map (period_fault TooLarge) (too_large (registered_at (midnight_of office) s) (periods_on date n))) None))) counted
      ∙ ap of_tables (sym same_tables)

  -- something is missing
  settle_lacks : (fault : Fault) → Lacks office.content.registered (periods_on date count) fault
      → UnlessFailed fault (settle_fault (midnight_of office) s moment date ≡ Some fault)
  settle_lacks fault = unless_by (gives_up fault) _ _ (λ is. by_periods ∙ or_some lacks_price lacks_reading exceeds fault is)

  -- a period exceeds a limit
  settle_exceeds : (at : SettlementPeriod) → lack_fault office.content.registered (periods_on date count) ≡ None
      → too_large office.content.registered (periods_on date count) ≡ Some at
      → settle_fault (midnight_of office) s moment date ≡ Some (period_fault TooLarge at)
  settle_exceeds at full large =
      by_periods ∙ or_none lacks_price lacks_reading exceeds full ∙ ap (λ o. option_or (option_map (period_fault TooLarge) o) None) large

  -- nothing speaks against settling
  settle_fits : (day : List (SettlementPeriod × Settled)) → lack_fault office.content.registered (periods_on date count) ≡ None
      → (too_large office.content.registered (periods_on date count) ≡ None) × (day ≡ settled_day office.content.registered (periods_on date count))
      → (settle_fault (midnight_of office) s moment date ≡ None) × (day ≡ day_in (midnight_of office) s date)
  settle_fits day full (small, is) = (
    by_periods ∙ or_none lacks_price lacks_reading exceeds full ∙ ap (λ o. option_or (option_map (period_fault TooLarge) o) None) small,
    is ∙ (λ i. settled_day (same_tables i) (periods_on date (sym counted i))),
  )

  -- the terms of each period fit together
  terms_fit : PeriodsReady → ArePeriodsConsistent office.content.registered (periods_on date count)
  terms_fit ready k at inside =
      subst (λ tables. AreTermsConsistent (terms_at tables (get_or (periods_on date count) k at))) (sym same_tables)
      (ready (midnight_of office) s (get_or (periods_on date count) k at) stands.0)

-- an error that is passed on is the one that came
pub passed_err : {X : Type 0} (result : Result X Fault) (fault : Fault) (P : Fault → Type 0) → IsErr result × IsErrAnd result (λ f. f ≡ fault) → P fault → IfErr result P
passed_err (Ok x) fault P passed holds = absurd (false_is_not_true passed.0)
passed_err (Err f) fault P passed holds = subst P (sym passed.1) holds

-- what becomes of the Settlement Periods of a date, given the outcome of settling them
abbrev pub SettledAs : OfficeView → State → ℤ → ℕ → SettledDay → Type 0
SettledAs office s moment date (outcome.TooLarge at) = settle_fault (midnight_of office) s moment date ≡ Some (period_fault TooLarge at)
SettledAs office s moment date (outcome.Settled day) =
    (settle_fault (midnight_of office) s moment date ≡ None) × (day.items ≡ day_in (midnight_of office) s date)

-- what is kept beside tables that represent a state agrees with them
pub in_step : (office : OfficeView) (s : State) → Represents office s → IsTrue office.content.is_in_step
in_step office s stands = ap (λ (c : Content). c.is_in_step) stands.1

-- The day of a date is over, and its periods are settled from `states`.
module _ (office : OfficeView) (s : State) (stands : Represents office s) (moment : ℤ) (date : ℕ) (day : Day)
    (over : IsOverDay (midnight_of office) moment date day) where
  abbrev settled_as : SettledDay → Type 0
  settled_as = SettledAs office s moment date

  by_outcome : (outcome : SettledDay) → lack_fault office.content.registered (periods_on date day.count) ≡ None
      → IsSettledDay office.content.registered (periods_on date day.count) outcome → settled_as outcome
  by_outcome (outcome.TooLarge at) full is = settle_exceeds office s stands moment date day.count over.1 over.2 at full is
  by_outcome (outcome.Settled periods) full is = settle_fits office s stands moment date day.count over.1 over.2 periods.items full is

  pub settles : PeriodsReady → (states : List PeriodState) → LacksNothing office.content.registered (periods_on day.date day.count) states
      → (outcome : SettledDay) → SettlesDay (periods_on day.date day.count) states outcome → settled_as outcome
  settles ready states of_day outcome does =
      let of_date : LacksNothing office.content.registered (periods_on date day.count) states =
      subst (λ d. LacksNothing office.content.registered (periods_on d day.count) states) over.0 of_day in
      let does_date : SettlesDay (periods_on date day.count) states outcome = subst (λ d. SettlesDay (periods_on d day.count) states outcome) over.0 does in
      by_outcome outcome of_date.0 (does_date office.content.registered of_date.1
      (terms_fit office s stands moment date day.count over.1 over.2 ready))

  pub lacks : (fault : Fault) → Lacks office.content.registered (periods_on day.date day.count) fault
      → UnlessFailed fault (settle_fault (midnight_of office) s moment date ≡ Some fault)
  lacks fault is =
      settle_lacks office s stands moment date day.count over.1 over.2 fault
      (subst (λ d. Lacks office.content.registered (periods_on d day.count) fault) over.0 is)

-- a period exceeds a limit, so the day is refused
pub exceeds_refused : (office : OfficeView) (s : State) (moment : ℤ) (date : ℕ) (at : SettlementPeriod) (fault : Fault) → fault ≡ period_fault TooLarge at
    → SettledAs office s moment date (outcome.TooLarge at) → UnlessFailed fault (settle_fault (midnight_of office) s moment date ≡ Some fault)
exceeds_refused office s moment date at fault is exceeds = by_either (gives_up fault) (Unit {0}) _ tt (exceeds ∙ ap Some (sym is))

-- ---- whether the run exists

-- the first entry whose key passes the test is the one found under the key
pub first_found : {K V : Type 0} (R : K → K → Ordering) (q : K) (es : List (K × V))
    → option_map (λ (e : K × V). e.1) (words.find (λ (e : K × V). eq_by_cmp R q e.0) es) ≡ find R q es
first_found R q [] = refl
first_found R q (e ∷ es) =
    elim (eq_by_cmp R q e.0) as (λ b. option_map (λ (x : _ × _). x.1) (cond b (Some e) (words.find (λ x. eq_by_cmp R q x.0) es)) ≡ cond b (Some e.1) (find R q es))
    [ true ↦ refl | false ↦ first_found R q es ]

-- two tests that imply each other are the same
by_both : (a b : Bool) → (a ≡ true → b ≡ true) → (b ≡ true → a ≡ true) → a ≡ b
by_both true b f g = sym (f refl)
by_both false true f g = absurd (false_is_not_true (g refl))
by_both false false f g = refl

-- numbers that are the same tie
ties : (m n : ℕ) → (m == n) ≡ true → (n == m) ≡ true
ties m n is = subst (λ k. (k == m) ≡ true) (eqb-true m n is) (unsigned_ties m m ∙ (eq_by_cmp_equiv nat_cmp_total).refl m)

-- numbers are the same, in either order
same_number : (m n : ℕ) → (m == n) ≡ eq_by_cmp nat_cmp n m
same_number m n = by_both (m == n) (n == m) (ties m n) (ties n m) ∙ unsigned_ties n m

-- a kind is among the kinds of runs exactly if a run is found under it
done_is_found : {V : Type 0} (kind : RunKind) (runs : List (RunKind × V)) → is_done (map (λ (r : RunKind × V). r.0) runs) kind ≡ is_some (find run_kind_cmp kind runs)
done_is_found kind [] = refl
done_is_found kind (r ∷ runs) =
    ap (λ b. b || is_done (map (λ (x : RunKind × _). x.0) runs) kind) (same_number (run_kind_number r.0) (run_kind_number kind))
    ∙ elim (eq_by_cmp run_kind_cmp kind r.0) as (λ b. (b || is_done (map (λ (x : RunKind × _). x.0) runs) kind) ≡ is_some (cond b (Some r.1) (find run_kind_cmp kind runs)))
    [ true ↦ refl | false ↦ done_is_found kind runs ]

-- A run of a kind is asked for, on a date that has `runs`.
module _ (runs : List (RunKind × Summary)) (kind : RunKind) where
  abbrev kinds : List RunKind
  kinds = map (λ r. r.0) runs

  -- what the order of runs says depends on whether the run exists
  abbrev pub tells_next : Result NextRun Fault → Type 0
  tells_next (Ok Kept) = is_some (find run_kind_cmp kind runs) ≡ true
  tells_next (Ok New) = (find run_kind_cmp kind runs ≡ None) × (order_fault runs kind ≡ None)
  tells_next (Err fault) = (find run_kind_cmp kind runs ≡ None) × (order_fault runs kind ≡ Some fault)

  none_by_test : (o : Option Summary) → is_some o ≡ false → o ≡ None
  none_by_test None is = refl
  none_by_test (Some x) is = absurd (false_is_not_true (sym is))

  by_order : (refusal : Option Refusal) → first_met (order_refusals kinds kind) ≡ refusal → is_some (find run_kind_cmp kind runs) ≡ false → tells_next (new_unless refusal)
  by_order None is none = (none_by_test (find run_kind_cmp kind runs) none, ap (option_map plain_fault) is)
  by_order (Some why) is none = (none_by_test (find run_kind_cmp kind runs) none, ap (option_map plain_fault) is)

  pub next_told : tells_next (next_run kinds kind)
  next_told =
      elim (is_done kinds kind) as (λ b. is_done kinds kind ≡ b → tells_next (cond b (Ok Kept) (new_unless (first_met (order_refusals kinds kind))))) [
        | true ↦ λ is. sym (done_is_found kind runs) ∙ is
        | false ↦ λ is. by_order (first_met (order_refusals kinds kind)) refl (sym (done_is_found kind runs) ∙ is)
      ] refl

  -- the run exists
  pub order_kept : (found : Option Summary) → found ≡ find run_kind_cmp kind runs → is_some (find run_kind_cmp kind runs) ≡ true → TellsOrder runs kind (Ok found)
  order_kept found is there = (is, λ none. absurd (false_is_not_true (ap is_some (sym none ∙ is) ∙ there)))

  -- it does not exist, and may be made
  pub order_new : (find run_kind_cmp kind runs ≡ None) × (order_fault runs kind ≡ None) → TellsOrder runs kind (Ok None)
  order_new (none, free) = (sym none, λ _. free)

  -- it does not exist, and is refused
  pub order_refused : (fault : Fault) → (find run_kind_cmp kind runs ≡ None) × (order_fault runs kind ≡ Some fault) → TellsOrder runs kind (Err fault)
  order_refused fault is = by_either (gives_up fault) (Unit {0}) _ tt is

-- ---- a new run

-- a run of a date is found by its kind among the runs of the date
on_its_date : (key : RunKey) (entries : Table RunKey Summary) → find run_key_cmp key entries ≡ find run_kind_cmp key.kind (filter_map (summary_on key.date) entries)
on_its_date key [] = refl
on_its_date key (e ∷ entries) =
    let rest : Option Summary = find run_key_cmp key entries in
    elim (e.0.date == key.date) as (λ b. (e.0.date == key.date) ≡ b
    → find run_key_cmp key (e ∷ entries) ≡ find run_kind_cmp key.kind (cons_option (cond b (Some (e.0.kind, e.1)) None) (filter_map (summary_on key.date) entries))) [
      | true ↦ λ is.
          ap (λ o. cond (is_eq (ordering_then o (run_kind_cmp key.kind e.0.kind))) (Some e.1) rest) ((Equal-is (nat_cmp key.date e.0.date)).0 (sym (same_number e.0.date key.date) ∙ is))
          ∙ ap (cond (is_eq (run_kind_cmp key.kind e.0.kind)) (Some e.1)) (on_its_date key entries)
      | false ↦ λ is.
          ap (λ b. cond b (Some e.1) rest) (not_equal_then (nat_cmp key.date e.0.date) (run_kind_cmp key.kind e.0.kind) (sym (same_number e.0.date key.date) ∙ is))
          ∙ on_its_date key entries
    ] refl

-- the same for what is kept of it
pub kept_of : (key : RunKey) (entries : Table RunKey Summary)
    → option_map (λ (r : RunKind × Summary). r.1) (words.find (λ (r : RunKind × Summary). eq_by_cmp run_kind_cmp key.kind r.0) (filter_map (summary_on key.date) entries)) ≡ find run_key_cmp key entries
kept_of key entries = first_found run_kind_cmp key.kind (filter_map (summary_on key.date) entries) ∙ sym (on_its_date key entries)

module _ (office : OfficeView) (s : State) (stands : Represents office s) (summaries : HoldsSummaries) (runs : HoldsRuns) (key : RunKey) where
  -- what is kept of a run is what is under its kind among the runs of its date
  kept_by_kind : find run_kind_cmp key.kind (runs_in office.content key.date) ≡ kept_summary (midnight_of office) s key
  kept_by_kind =
      sym (on_its_date key office.content.runs) ∙ ap (λ (c : Content). find run_key_cmp key c.runs) stands.1 ∙ summaries (midnight_of office) s key

  -- the order of runs is given by the kinds of the date's runs
  order_as_kinds : order_fault (runs_in office.content key.date) key.kind ≡ option_map plain_fault (first_met (order_refusals (kinds_on s key.date) key.kind))
  order_as_kinds =
      ap (λ ks. option_map plain_fault (first_met (order_refusals ks key.kind)))
      (ap (λ (c : Content). map (λ (r : RunKind × Summary). r.0) (runs_in c key.date)) stands.1 ∙ runs (midnight_of office) s key.date stands.0)

  -- a run that exists
  pub run_kept : (moment : ℤ) (summary : Summary) → Some summary ≡ find run_kind_cmp key.kind (runs_in office.content key.date)
      → MakesTransition office office (reply.Ran key summary) (run (midnight_of office) s moment key)
  run_kept moment summary found =
      subst (λ o. MakesTransition office office (reply.Ran key summary) (run_beside (midnight_of office) s o moment key)) (found ∙ kept_by_kind)
      (comes_unchanged office s (reply.Ran key summary) stands)

  -- a run that does not exist
  by_new : (moment : ℤ) → find run_kind_cmp key.kind (runs_in office.content key.date) ≡ None → run (midnight_of office) s moment key ≡ made_or_refused (midnight_of office) s moment key
  by_new moment none = ap (λ o. run_beside (midnight_of office) s o moment key) (sym kept_by_kind ∙ none)

  -- what becomes of a new run, given why it is refused, if it is
  abbrev made_or : Option Fault → Transition
  made_or o = elim o [ Some fault ↦ refused s fault | None ↦ record { reply = reply.Ran key (new_summary (midnight_of office) s key); state = after_run s key } ]

  -- a run that is refused by the order of runs
  pub run_out_of_order : (moment : ℤ) (fault : Fault)
      → UnlessFailed fault ((find run_kind_cmp key.kind (runs_in office.content key.date) ≡ None) × (order_fault (runs_in office.content key.date) key.kind ≡ Some fault))
      → MakesTransition office office (reply.Refused fault) (run (midnight_of office) s moment key)
  run_out_of_order moment fault told =
      comes_refused office s fault (run (midnight_of office) s moment key) stands
      (unless_by (gives_up fault) _ _ (λ is. by_new moment is.0
      ∙ ap made_or (ap (λ o. option_or o (settle_fault (midnight_of office) s moment key.date)) (sym order_as_kinds ∙ is.1))) told)

  -- the rows of the former run, given that run
  rows_before_are : (o : Option Run) → rows_before office.content (option_map (λ r. r.key) o)
      ≡ elim o [ None ↦ [] | Some r ↦ results_in (tables_of (midnight_of office) s) r.key ]
  rows_before_are None = refl
  rows_before_are (Some r) = ap (λ (c : Content). results_in c r.key) stands.1

  module _ (moment : ℤ) (next : IsNext office.content key) where
    -- only its periods may speak against it
    by_settling : run_fault (midnight_of office) s moment key ≡ settle_fault (midnight_of office) s moment key.date
    by_settling = ap (λ o. option_or o (settle_fault (midnight_of office) s moment key.date)) (sym order_as_kinds ∙ next.1)

    -- its date is not settled
    pub run_unsettled : (fault : Fault) → RefusesIn office moment key.date fault
        → MakesTransition office office (reply.Refused fault) (run (midnight_of office) s moment key)
    run_unsettled fault refuses =
        comes_refused office s fault (run (midnight_of office) s moment key) stands
        (unless_by (gives_up fault) _ _ (λ is. by_new moment next.0 ∙ ap made_or (by_settling ∙ is)) (refuses s stands))

    -- what is written for it fits the types that keep it
    pub run_fits : RunsFit → (day : List (SettlementPeriod × Settled)) (former : Option RunKey) → SettlesIn office moment key.date day
        → former ≡ latest_key key.date (runs_in office.content key.date) → FitsRun key day (rows_before office.content former)
    run_fits law day former settles is_former =
        let midnight : Midnights = midnight_of office in
        let settled = settles s stands in
        let can : CanRun midnight s moment key = (sym kept_by_kind ∙ next.0, by_settling ∙ settled.0) in
        let rows : rows_before office.content former ≡ former_rows midnight s key.date =
        ap (rows_before office.content) (is_former ∙ latest_is office s stands runs key.date) ∙ rows_before_are (latest_run key.date s.runs) in
        subst (λ d. FitsRun key d (rows_before office.content former)) (sym settled.1)
        (subst (FitsRun key (day_in midnight s key.date)) (sym rows) (law midnight s moment key stands.0 can))

    -- it is made
    pub run_made : WritesTheRun → (new : OfficeView) (day : List (SettlementPeriod × Settled)) (former : Option RunKey) (given : Reply)
        → SettlesIn office moment key.date day → former ≡ latest_key key.date (runs_in office.content key.date) → IsRunMade office new key day former given
        → MakesTransition office new given (run (midnight_of office) s moment key)
    run_made law new day former given settles is_former makes =
        let midnight : Midnights = midnight_of office in
        let settled = settles s stands in
        let can : CanRun midnight s moment key = (sym kept_by_kind ∙ next.0, by_settling ∙ settled.0) in
        let rows : rows_before office.content former ≡ former_rows midnight s key.date =
        ap (rows_before office.content) (is_former ∙ latest_is office s stands runs key.date) ∙ rows_before_are (latest_run key.date s.runs) in
        let written : IsWrittenFor key (day_in midnight s key.date) (former_rows midnight s key.date) makes.writes =
        subst (λ d. IsWrittenFor key d (former_rows midnight s key.date) makes.writes) settled.1 (subst (λ r. IsWrittenFor key day r makes.writes) rows makes.written) in
        let is : makes.writes ≡ run_change midnight s key = law midnight s moment key makes.writes stands.0 can written in
        let given_is : given ≡ reply.Ran key (new_summary midnight s key) = makes.replied ∙ ap (λ (w : RunChangeView). reply.Ran w.key w.summary) is in
        subst (MakesTransition office new given) (sym (by_new moment next.0 ∙ ap made_or can.1))
        (subst (λ r. MakesTransition office new r (made_or None)) (sym given_is) (refl, makes.kept s moment key stands can is))

-- the refusal of a store gives up
store_gives_up : (e : StoreFault) → gives_up (store_fault e) ≡ true
store_gives_up store.Memory = refl
store_gives_up store.Store = refl

-- if the store failed, the request is given up and nothing changed
pub comes_given_up : (office new : OfficeView) (result : Result Reply Fault) (e : StoreFault) (transition : Transition)
    → IsErr result × IsErrAnd result (λ f. f ≡ store_fault e) → new ≡ office → MakesTransition office new (reply_of result) transition
comes_given_up office new (Ok given) e transition passed same = absurd (false_is_not_true passed.0)
comes_given_up office new (Err f) e transition passed same =
    subst (λ b. MatchBool b (new ≡ office) ((reply.Refused f ≡ transition.reply) × (new ≡ record office { content = tables_of (midnight_of office) transition.state })))
    (sym (ap gives_up passed.1 ∙ store_gives_up e)) same
