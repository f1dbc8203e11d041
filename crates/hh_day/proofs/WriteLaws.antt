-- What is written for a new run is what the machine writes for it.
use Rattle.std.proofs.Common.{◌≡◌, ℕ, zero, suc, ◌+◌, ◌<◌, List, [], ◌∷◌, ◌++◌, length, map, refl, sym, ap, ◌∙◌, Bool, true, false, cond, Option, Some, None, arith}
use Rattle.std.specs.Prelude.{ℤ, pos, ◌-ℤ◌, ◌*◌, ◌==◌, ◌&&◌, filter, int_le, is_some, unwrap_or}
use Rattle.std.specs.List.{AllByRecursion}
use Rattle.std.specs.Option.{option_or}
use Rattle.std.specs.Ordering.{int_eq}
use Rattle.std.proofs.Math.Seq.{take-length}
use Rattle.std.proofs.lemmas.List.{length-append, length-map}
use Rattle.hh_num.specs.Totals.{total}
use Rattle.hh_num.proofs.TotalLaws.{total-map, total-same}
use Rattle.hh_time.specs.Days.{Midnights, count_of, is_accepted, is_over, period_count}
use Rattle.hh_names.specs.declared.account.Account.{Account}
use Rattle.hh_rows.specs.declared.settlement_period.SettlementPeriod.{SettlementPeriod}
use Rattle.hh_rules.specs.History.{Registered, registered_in}
use Rattle.hh_rules.specs.Lateness.{Timetable}
use Rattle.hh_calc.specs.declared.result.AccountRow.{AccountRow}
use Rattle.hh_calc.specs.Settled.{moved_by_row}
use Rattle.hh_calc.specs.Terms.{PeriodDataView, Settled}
use Rattle.hh_calc.proofs.SpreadLaws.{total-flat_map}
use Rattle.hh_runs.specs.DayNets.{DayNets, day_net_of, differences}
use Rattle.hh_runs.specs.declared.run_key.RunKey.{RunKey}
use Rattle.hh_states.specs.Content.{credit_entries, posting_entries, result_entries, tables_of}
use Rattle.hh_states.specs.DaySettlement.{day_net, from_one_to, period_net, periods_on, settled_at, settled_day}
use Rattle.hh_states.specs.PeriodSettlement.{accounts_on, settled, terms_at}
use Rattle.hh_states.specs.Reads.{results_in}
use Rattle.hh_states.specs.RunReads.{DayNetsFromResults, paid_in, rows_by_period}
use Rattle.hh_states.specs.Runs.{Run, accounts_of, last_of, latest_run, nets_of, postings_after, runs_of_date, seen_by, settled_by}
use Rattle.hh_states.specs.States.{State}
use Rattle.hh_states.specs.Steps.{CanRun, IsReached, new_run, new_summary, registered_at, timetable_at}
use Rattle.hh_states.specs.Sums.{DayNetsAreSums}
use Rattle.hh_day.specs.NewRuns.{WritesTheRun, account_count, day_in, former_rows, summary_of}
use Rattle.hh_day.proofs.AccountLaws.{accounts_settled}
use Rattle.hh_day.proofs.DifferenceLaws.{same_differences}

-- if None and each element of a list have a property, so has the last of the list
pub of_the_last : {X : Type 0} (P : Option X → Type 0) → P None → (xs : List X) → AllByRecursion (λ x. P (Some x)) xs → P (last_of xs)
of_the_last P none [] all = none
of_the_last P none (x ∷ []) all = all.0
of_the_last P none (x ∷ y ∷ xs) all = of_the_last P none (y ∷ xs) all.1

-- if all elements have a property, so have those that pass a test
pub of_those_that_pass : {X : Type 0} (P : X → Type 0) (test : X → Bool) (xs : List X) → AllByRecursion P xs → AllByRecursion P (filter test xs)
of_those_that_pass P test [] all = tt
of_those_that_pass P test (x ∷ xs) all =
    elim (test x) as (λ b. AllByRecursion P (cond b (x ∷ filter test xs) (filter test xs))) [
      | true ↦ (all.0, of_those_that_pass P test xs all.1)
      | false ↦ of_those_that_pass P test xs all.1
    ]

-- what an account pays by the rows of settled periods is what it pays in the periods
paid_in_periods : (a : Account) (day : List (SettlementPeriod × Settled)) → paid_in a (rows_by_period day) ≡ day_net day a
paid_in_periods a day =
    let amount : ℕ × AccountRow → ℤ = λ e. moved_by_row a e.1 in
    total-flat_map amount (λ (q : SettlementPeriod × Settled). map (λ (row : AccountRow). (q.0.period, row)) q.1.accounts) day
    ∙ total-same (λ (q : SettlementPeriod × Settled). total amount (map (λ (row : AccountRow). (q.0.period, row)) q.1.accounts)) (λ q. period_net a q.1) day
    (λ q. total-map amount (λ (row : AccountRow). (q.0.period, row)) q.1.accounts)

-- how many numbers there are from 1 to n
numbers_counted : (n : ℕ) → length (from_one_to n) ≡ n
numbers_counted zero = refl
numbers_counted (suc n) =
    let before : length (from_one_to n) ≡ n = numbers_counted n in
    let one_more : length (from_one_to n ++ suc n ∷ []) ≡ length (from_one_to n) + 1 = length-append (from_one_to n) (suc n ∷ []) in
    omega arith

-- how many periods are settled
periods_counted : (tables : Registered) (date n : ℕ) → length (settled_day tables (periods_on date n)) ≡ n
periods_counted tables date n =
    length-map (periods_on date n) (settled_at tables)
    ∙ length-map (from_one_to n) (λ p. record { date = date; period = p })
    ∙ numbers_counted n

-- a settled period has a row for each account
accounts_counted : (p : PeriodDataView) → length (settled p).accounts ≡ length p.accounts
accounts_counted p = sym (length-map (settled p).accounts (λ (r : AccountRow). r.account)) ∙ ap length (accounts_settled p)

-- the accounts of a date are counted by its first period, if it has one
first_counts : (tables : Registered) (date : ℕ) (numbers : List ℕ) → 0 < length numbers
    → account_count (settled_day tables (map (λ p. record { date = date; period = p }) numbers)) ≡ length (accounts_on tables date)
first_counts tables date [] some = absurd (omega arith)
first_counts tables date (n ∷ numbers) some = accounts_counted (terms_at tables (record { date = date; period = n }))

-- if neither of two options has a value, the second has none
none_later : {X : Type 0} (o later : Option X) → option_or o later ≡ None → later ≡ None
none_later None later none = none
none_later (Some x) later none = cc

-- if a failed test would have given a value and there is none, the test passed
test_passed : {X : Type 0} (passed : Bool) (x : X) (later : Option X) → option_or (cond passed None (Some x)) later ≡ None → passed ≡ true
test_passed true x later none = refl
test_passed false x later none = cc

-- if two tests pass, the first does
tested_first : (a b : Bool) → (a && b) ≡ true → a ≡ true
tested_first true b both = refl
tested_first false b both = cc

-- the number of periods of a date, by whether the date is accepted and how long it is
abbrev counted : Bool → Bool → Bool → Bool → Option ℕ
counted accepted short common long = cond accepted (cond short (Some 46) (cond common (Some 48) (cond long (Some 50) None))) None

-- a date that has a number of periods has more than 0
some_periods : (accepted short common long : Bool) → is_some (counted accepted short common long) ≡ true → 0 < unwrap_or (counted accepted short common long) 0
some_periods false short common long there = cc
some_periods true true common long there = omega arith
some_periods true false true long there = omega arith
some_periods true false false true there = omega arith
some_periods true false false false there = cc

module _ (midnight : Midnights) where
  -- a date that is over has periods
  has_periods : (date : ℕ) (moment : ℤ) → is_over midnight date moment ≡ true → 0 < period_count midnight date
  has_periods date moment over =
      some_periods (is_accepted date) (int_eq (midnight (date + 1) -ℤ midnight date) (pos (1800 * 46))) (int_eq (midnight (date + 1) -ℤ midnight date) (pos (1800 * 48)))
      (int_eq (midnight (date + 1) -ℤ midnight date) (pos (1800 * 50)))
      (tested_first (is_some (count_of midnight date)) (int_le (midnight (date + 1)) moment) over)

  module _ (s : State) (key : RunKey) where
    -- the timetable: local midnights, and when notifications close
    abbrev timetable : Timetable
    timetable = timetable_at midnight s

    -- the new run
    abbrev run : Run
    run = new_run s key

    -- the latest run of the date before it
    abbrev former : Option Run
    former = latest_run key.date s.runs

    -- a run that is not refused is of a date that is over
    run_date_is_over : (moment : ℤ) → CanRun midnight s moment key → is_over midnight key.date moment ≡ true
    run_date_is_over moment can = test_passed (is_over midnight key.date moment) _ _ (none_later _ _ can.1)

    -- a new run sees all that is registered and in force
    sees_all : registered_at midnight s ≡ seen_by timetable s.history run
    sees_all = ap (registered_in timetable) (sym (take-length s.history))

    -- so it settles the periods of its date by that
    pub settles_the_day : day_in midnight s key.date ≡ settled_by timetable s.history run
    settles_the_day = ap (λ tables. settled_day tables (periods_on key.date (period_count midnight key.date))) sees_all

    -- what an account paid in the latest run of the date is its day net in that run
    former_nets : DayNetsFromResults → IsReached midnight s → (a : Account) → paid_in a (former_rows midnight s key.date) ≡ day_net_of (nets_of timetable s.history former) a
    former_nets from_results reached a =
        let Is : Option Run → Type 0 = λ o. paid_in a (elim o [ None ↦ [] | Some r ↦ results_in (tables_of midnight s) r.key ]) ≡ day_net_of (nets_of timetable s.history o) a in
        of_the_last Is refl (runs_of_date key.date s.runs)
        (of_those_that_pass (λ r. Is (Some r)) (λ r. r.key.date == key.date) s.runs (from_results midnight s a reached))

    -- what it pays in the new run is its day net there
    new_nets : DayNetsAreSums → (a : Account) → paid_in a (rows_by_period (day_in midnight s key.date)) ≡ day_net_of (nets_of timetable s.history (Some run)) a
    new_nets are_sums a =
        paid_in_periods a (day_in midnight s key.date)
        ∙ ap (λ day. day_net day a) settles_the_day
        ∙ sym (are_sums timetable s.history run a)

    -- the same is posted as by the machine
    same_postings : DayNetsFromResults → DayNetsAreSums → IsReached midnight s → (old new : DayNets)
        → ((a : Account) → day_net_of old a ≡ paid_in a (former_rows midnight s key.date))
        → ((a : Account) → day_net_of new a ≡ paid_in a (rows_by_period (day_in midnight s key.date)))
        → differences old new ≡ postings_after timetable s.history former run
    same_postings from_results are_sums reached old new before now =
        same_differences old new (nets_of timetable s.history former) (nets_of timetable s.history (Some run))
        (λ a. before a ∙ former_nets from_results reached a) (λ a. now a ∙ new_nets are_sums a)

    -- the same number of accounts is counted
    same_accounts : 0 < period_count midnight key.date → account_count (day_in midnight s key.date) ≡ length (accounts_of timetable s.history run)
    same_accounts some =
        let numbered : length (from_one_to (period_count midnight key.date)) ≡ period_count midnight key.date = numbers_counted (period_count midnight key.date) in
        first_counts (registered_at midnight s) key.date (from_one_to (period_count midnight key.date)) (omega arith)
        ∙ ap (λ tables. length (accounts_on tables key.date)) sees_all

    -- so the summary is the machine's
    same_summary : 0 < period_count midnight key.date → (posts : DayNets) → posts ≡ postings_after timetable s.history former run
        → summary_of (day_in midnight s key.date) posts ≡ new_summary midnight s key
    same_summary some posts same = λ i. record {
      periods = periods_counted (registered_at midnight s) key.date (period_count midnight key.date) i;
      accounts = same_accounts some i;
      residual = total (λ q. q.1.residual) (settles_the_day i);
      postings = length (same i);
    }

-- what is written for a new run is what the machine writes for it
pub writes_the_run : DayNetsFromResults → DayNetsAreSums → WritesTheRun
writes_the_run from_results are_sums midnight s moment key writes reached can written =
    let posts : DayNets = differences written.old written.new in
    let same : posts ≡ postings_after (timetable_at midnight s) s.history (latest_run key.date s.runs) (new_run s key) =
    same_postings midnight s key from_results are_sums reached written.old written.new written.paid_before written.paid_now in
    let some : 0 < period_count midnight key.date = has_periods midnight key.date moment (run_date_is_over midnight s key moment can) in
    written.written
    ∙ (λ i. record {
      key = key;
      summary = same_summary midnight s key some posts same i;
      results = result_entries key (settles_the_day midnight s key i);
      credits = credit_entries key (settles_the_day midnight s key i);
      postings = posting_entries key (same i);
    })
