-- The most that accounts pay in a Settlement Period, in a run and over all dates, if no period passes a limit.
use Rattle.std.proofs.Common.{◌≡◌, ℕ, zero, suc, ◌+◌, ◌*◌, ◌≤◌, ◌<◌, List, [], ◌∷◌, ◌++◌, length, map, refl, sym, ap, subst, ◌∙◌, Bool, true, false, cond, not, Option, Some, None, add-one, arith}
use Rattle.std.specs.Prelude.{ℤ, pos, ◌+ℤ◌, ◌≢◌, ◌==◌, Contains, is_some, sum_by, take, unsigned_abs, unwrap_or}
use Rattle.std.specs.List.{AllByRecursion, list_all}
use Rattle.std.specs.Option.{option_or}
use Rattle.std.specs.Cmp.{eq_by_cmp_equiv}
use Rattle.std.proofs.lemmas.Bool.{and_parts, eqb-false, eqb-true, leb-true}
use Rattle.std.proofs.lemmas.Int.{ints}
use Rattle.std.proofs.lemmas.List.{length-append, length-map}
use Rattle.std.proofs.lemmas.List.Elements.{recursion_from_All}
use Rattle.std.proofs.lemmas.List.Sums.{sum_by-append, sum_by-cons}
use Rattle.std.proofs.Math.Nat.{add-mul, mul-le-mul}
use Rattle.hh_num.specs.Ranges.{IsBetween}
use Rattle.hh_num.specs.Totals.{total}
use Rattle.hh_tables.proofs.RowLaws.{equal}
use Rattle.hh_tables.proofs.TableLaws.{false_is_not_true}
use Rattle.hh_time.specs.Days.{Midnights, first_date, is_accepted, is_over, last_date, period_count}
use Rattle.hh_names.specs.declared.account.Account.{Account}
use Rattle.hh_names.specs.declared.fault.Fault.{Fault}
use Rattle.hh_names.specs.Accounts.{is_same_account}
use Rattle.hh_names.proofs.AccountLaws.{account_total, exact_accounts}
use Rattle.hh_rows.specs.declared.settlement_period.SettlementPeriod.{SettlementPeriod}
use Rattle.hh_rules.specs.History.{History, Registered, registered_in}
use Rattle.hh_rules.specs.Lateness.{Timetable}
use Rattle.hh_share.proofs.SumLaws.{shares_within}
use Rattle.hh_calc.specs.declared.result.AccountRow.{AccountRow}
use Rattle.hh_calc.specs.declared.result.Figures.{Figures}
use Rattle.hh_calc.specs.Formulas.{figures, if_same_account, residual, residual_shares, weights}
use Rattle.hh_calc.specs.Limits.{greatest_cash, is_account_within, is_within_limits}
use Rattle.hh_calc.specs.Terms.{PeriodDataView}
use Rattle.hh_runs.specs.DayNets.{day_cash, day_net_of}
use Rattle.hh_runs.specs.declared.run_key.RunKey.{RunKey}
use Rattle.hh_states.specs.Amounts.{BalancesWithin, DayNetsWithin, PaidWithin, TurnoversWithin, balances, greatest_turnover, most_periods, turnover_in}
use Rattle.hh_states.specs.Content.{tables_of}
use Rattle.hh_states.specs.DaySettlement.{from_one_to, periods_on, settled_day, too_large}
use Rattle.hh_states.specs.PeriodSettlement.{account_rows, settled, terms_at}
use Rattle.hh_states.specs.Reads.{results_in}
use Rattle.hh_states.specs.RunReads.{paid_in, rows_by_period}
use Rattle.hh_states.specs.Runs.{Run, latest_run, nets_of, periods_of, seen_by, settled_by}
use Rattle.hh_states.specs.States.{State}
use Rattle.hh_states.specs.Steps.{IsReached, at_first, by_load, by_run, new_run, run_fault, timetable_at}
use Rattle.hh_states.specs.Sums.{latest_runs, moved_by_runs}
use Rattle.hh_state_laws.proofs.ApartLaws.{NoneAlike, all-append, all-weaken}
use Rattle.hh_state_laws.proofs.CompleteLaws.{IsComplete, none_passes, runs_complete}
use Rattle.hh_state_laws.proofs.PostingLaws.{latest_run-cons}
use Rattle.hh_state_laws.proofs.ReadyLaws.{Differ, all_both, no_more}
use Rattle.hh_state_laws.proofs.ResultLaws.{day_nets_from_results, holds_results}
use Rattle.hh_state_laws.proofs.RunRowLaws.{accounts_distinct, rows_distinct}

-- n + 1 times an amount
one_more : (n most : ℕ) → suc n * most ≡ most + n * most
one_more n most =
    let split : suc n * most ≡ n * most + 1 * most = ap (λ k. k * most) (sym (add-one n)) ∙ add-mul n 1 most in
    omega arith

module _ {X : Type 0} (f : X → ℤ) where
  -- the size of a sum is at most the sum of the sizes
  pub total_by_sizes : (xs : List X) → unsigned_abs (total f xs) ≤ sum_by (λ x. unsigned_abs (f x)) xs
  total_by_sizes [] = omega arith
  total_by_sizes (x ∷ xs) =
      let first : sum_by (λ y. unsigned_abs (f y)) (x ∷ xs) ≡ unsigned_abs (f x) + sum_by (λ y. unsigned_abs (f y)) xs = sum_by-cons (λ y. unsigned_abs (f y)) x xs in
      let rest : unsigned_abs (total f xs) ≤ sum_by (λ y. unsigned_abs (f y)) xs = total_by_sizes xs in
      omega (arith, ints)

  -- and at most the number of elements times the greatest size
  pub total_by_most : (most : ℕ) (xs : List X) → AllByRecursion (λ x. unsigned_abs (f x) ≤ most) xs → unsigned_abs (total f xs) ≤ length xs * most
  total_by_most most [] small = omega arith
  total_by_most most (x ∷ xs) small =
      let one : unsigned_abs (f x) ≤ most = small.0 in
      let rest : unsigned_abs (total f xs) ≤ length xs * most = total_by_most most xs small.1 in
      let all : suc (length xs) * most ≡ most + length xs * most = one_more (length xs) most in
      omega (arith, ints)

-- a sum over mapped elements
pub sum_by-made : {X Y : Type 0} (f : Y → ℕ) (g : X → Y) (xs : List X) → sum_by f (map g xs) ≡ sum_by (λ x. f (g x)) xs
sum_by-made f g [] = refl
sum_by-made f g (x ∷ xs) = sum_by-cons f (g x) (map g xs) ∙ ap (λ n. f (g x) + n) (sum_by-made f g xs) ∙ sym (sum_by-cons (λ y. f (g y)) x xs)

-- the size of what an account pays by a row
abbrev moved : Account → AccountRow → ℕ
moved a r = unsigned_abs (if_same_account a r.account (r.charge +ℤ r.share))

-- rows of other accounts move nothing for an account
none_moved : (a : Account) (rows : List AccountRow) → AllByRecursion (λ r. is_same_account r.account a ≡ false) rows → sum_by (moved a) rows ≡ 0
none_moved a [] others = refl
none_moved a (r ∷ rows) others =
    sum_by-cons (moved a) r rows ∙ (λ i. unsigned_abs (cond (others.0 i) (r.charge +ℤ r.share) (pos 0)) + none_moved a rows others.1 i)

-- an account that has at most one row pays no more than one row moves
one_moved : (a : Account) (most : ℕ) (rows : List AccountRow) → NoneAlike (λ r s. is_same_account r.account s.account) rows
    → AllByRecursion (λ r. unsigned_abs (r.charge +ℤ r.share) ≤ most) rows → sum_by (moved a) rows ≤ most
one_moved a most [] distinct small = omega arith
one_moved a most (r ∷ rows) distinct small =
    subst (λ n. n ≤ most) (sym (sum_by-cons (moved a) r rows))
    (elim (is_same_account r.account a) as (λ b. is_same_account r.account a ≡ b → unsigned_abs (cond b (r.charge +ℤ r.share) (pos 0)) + sum_by (moved a) rows ≤ most) [
      | true ↦ λ is.
          let same : r.account ≡ a = exact_accounts r.account a (equal _ is) in
          let others : sum_by (moved a) rows ≡ 0 =
          none_moved a rows
          (all-weaken (λ s. is_same_account r.account s.account ≡ false) (λ s. is_same_account s.account a ≡ false)
          (λ s apart. ap (is_same_account s.account) (sym same) ∙ (eq_by_cmp_equiv account_total).symm s.account r.account ∙ apart) rows distinct.0) in
          let one : unsigned_abs (r.charge +ℤ r.share) ≤ most = small.0 in
          omega arith
      | false ↦ λ is.
          let rest : sum_by (moved a) rows ≤ most = one_moved a most rows distinct.1 small.1 in
          omega arith
    ] refl)

-- rows of small charges and small shares
rows_small : (figures_at : Account → Figures) (most : ℕ) (accounts : List Account) (shares : List ℤ) → AllByRecursion (λ a. unsigned_abs (figures_at a).charge ≤ most) accounts
    → AllByRecursion (λ x. unsigned_abs x ≤ most) shares → AllByRecursion (λ r. unsigned_abs (r.charge +ℤ r.share) ≤ 2 * most) (account_rows (map figures_at accounts) shares)
rows_small figures_at most [] shares charges small = tt
rows_small figures_at most (a ∷ accounts) [] charges small = tt
rows_small figures_at most (a ∷ accounts) (x ∷ shares) charges small = (
  both (figures_at a).charge x charges.0 small.0,
  rows_small figures_at most accounts shares charges.1 small.1,
)
  where
    both : (y z : ℤ) → unsigned_abs y ≤ most → unsigned_abs z ≤ most → unsigned_abs (y +ℤ z) ≤ 2 * most
    both y z one other = omega (arith, ints)

-- no charge passes the limit if no figure of an account does
charges_small : (p : PeriodDataView) (accounts : List Account) → list_all (is_account_within p) accounts ≡ true → AllByRecursion (λ a. unsigned_abs (figures p a).charge ≤ greatest_cash) accounts
charges_small p [] within = tt
charges_small p (a ∷ accounts) within =
    let parts = and_parts (is_account_within p a) (list_all (is_account_within p) accounts) within in
    (leb-true _ _ (and_parts _ _ (and_parts _ _ parts.0).0).1, charges_small p accounts parts.1)

-- a period that passes no limit
module _ (p : PeriodDataView) (within : is_within_limits p ≡ true) where
  -- has a small residual
  pub residual_small : unsigned_abs (residual p) ≤ greatest_cash
  residual_small = leb-true _ _ (and_parts _ _ within).1

  -- and small shares of the residual
  shares_small : AllByRecursion (λ x. unsigned_abs x ≤ greatest_cash) (residual_shares p)
  shares_small =
      all-weaken (λ x. unsigned_abs x ≤ unsigned_abs (residual p)) (λ x. unsigned_abs x ≤ greatest_cash)
      (λ x small. let most : unsigned_abs (residual p) ≤ greatest_cash = residual_small in omega arith) (residual_shares p)
      (recursion_from_All (λ x. unsigned_abs x ≤ unsigned_abs (residual p)) (residual_shares p) (shares_within (residual p) (weights p)))

  -- so each account pays at most twice the limit in size, if no account occurs twice
  period_turnover : NoneAlike is_same_account p.accounts → (a : Account) → sum_by (moved a) (settled p).accounts ≤ 2 * greatest_cash
  period_turnover distinct a =
      one_moved a (2 * greatest_cash) (settled p).accounts (rows_distinct (figures p) (λ b. refl) p.accounts (residual_shares p) distinct)
      (rows_small (figures p) greatest_cash p.accounts (residual_shares p) (charges_small p p.accounts (and_parts _ _ within).0) shares_small)

module _ (timetable : Timetable) (history : History) where
  -- what is registered and in force
  abbrev tables : Registered
  tables = registered_in timetable history

  -- an account's turnover in periods that pass no limit
  day_turnover : (a : Account) (periods : List SettlementPeriod) → AllByRecursion (λ at. is_within_limits (terms_at tables at) ≡ true) periods
      → turnover_in a (rows_by_period (settled_day tables periods)) ≤ length periods * (2 * greatest_cash)
  day_turnover a [] within = omega arith
  day_turnover a (at ∷ periods) within =
      let rows : List AccountRow = (settled (terms_at tables at)).accounts in
      let later : List (ℕ × AccountRow) = rows_by_period (settled_day tables periods) in
      let both : turnover_in a (map (λ row. (at.period, row)) rows ++ later) ≡ turnover_in a (map (λ row. (at.period, row)) rows) + turnover_in a later =
      sum_by-append (λ (e : ℕ × AccountRow). moved a e.1) (map (λ row. (at.period, row)) rows) later in
      let made : turnover_in a (map (λ row. (at.period, row)) rows) ≡ sum_by (moved a) rows = sum_by-made (λ (e : ℕ × AccountRow). moved a e.1) (λ row. (at.period, row)) rows in
      let one : sum_by (moved a) rows ≤ 2 * greatest_cash = period_turnover (terms_at tables at) within.0 (accounts_distinct timetable history at.date) a in
      let rest : turnover_in a later ≤ length periods * (2 * greatest_cash) = day_turnover a periods within.1 in
      let all : suc (length periods) * (2 * greatest_cash) ≡ 2 * greatest_cash + length periods * (2 * greatest_cash) = one_more (length periods) (2 * greatest_cash) in
      summed (turnover_in a (map (λ row. (at.period, row)) rows ++ later)) (turnover_in a (map (λ row. (at.period, row)) rows)) (turnover_in a later) (sum_by (moved a) rows) (2 * greatest_cash) (length periods) both made one rest all
    where
      summed : (whole made later rows most n : ℕ) → whole ≡ made + later → made ≡ rows → rows ≤ most → later ≤ n * most → suc n * most ≡ most + n * most → whole ≤ suc n * most
      summed whole made later rows most n both is one rest all = omega arith

  -- and the sum of the residuals of such periods
  pub day_residual : (periods : List SettlementPeriod) → AllByRecursion (λ at. is_within_limits (terms_at tables at) ≡ true) periods
      → AllByRecursion (λ q. unsigned_abs q.1.residual ≤ greatest_cash) (settled_day tables periods)
  day_residual [] within = tt
  day_residual (at ∷ periods) within = (residual_small (terms_at tables at) within.0, day_residual periods within.1)

-- how many numbers there are from 1 to n
numbers_counted : (n : ℕ) → length (from_one_to n) ≡ n
numbers_counted zero = refl
numbers_counted (suc n) =
    let before : length (from_one_to n) ≡ n = numbers_counted n in
    let one_more : length (from_one_to n ++ suc n ∷ []) ≡ length (from_one_to n) + 1 = length-append (from_one_to n) (suc n ∷ []) in
    omega arith

-- how many periods there are
pub periods_counted : (date n : ℕ) → length (periods_on date n) ≡ n
periods_counted date n = length-map (from_one_to n) (λ p. record { date = date; period = p }) ∙ numbers_counted n

-- the number of periods of a date, by whether the date is accepted and how long it is
abbrev counted : Bool → Bool → Bool → Bool → Option ℕ
counted accepted short common long = cond accepted (cond short (Some 46) (cond common (Some 48) (cond long (Some 50) None))) None

few_counted : (accepted short common long : Bool) → unwrap_or (counted accepted short common long) 0 ≤ 50
few_counted false short common long = omega arith
few_counted true true common long = omega arith
few_counted true false true long = omega arith
few_counted true false false true = omega arith
few_counted true false false false = omega arith

-- a date has at most 50 periods
pub few_periods : (midnight : Midnights) (date : ℕ) → period_count midnight date ≤ most_periods
few_periods midnight date = few_counted (is_accepted date) _ _ _

-- a test holds if its opposite fails
passes : (b : Bool) → not b ≡ false → b ≡ true
passes true fails = refl
passes false fails = absurd (false_is_not_true (sym fails))

-- if no period passes a limit, each is within the limits
pub all_within : (tables : Registered) (periods : List SettlementPeriod) → too_large tables periods ≡ None → AllByRecursion (λ at. is_within_limits (terms_at tables at) ≡ true) periods
all_within tables periods none =
    all-weaken (λ at. not (is_within_limits (terms_at tables at)) ≡ false) (λ at. is_within_limits (terms_at tables at) ≡ true)
    (λ at. passes (is_within_limits (terms_at tables at))) periods (none_passes (λ at. not (is_within_limits (terms_at tables at))) periods none)

-- in each reached state the turnover of each account in each run is at most the greatest
pub turnovers_within : TurnoversWithin
turnovers_within midnight s a reached =
    let timetable : Timetable = timetable_at midnight s in
    all-weaken (λ r. IsComplete (seen_by timetable s.history r) (periods_of midnight r)) (λ r. turnover_in a (rows_by_period (settled_by timetable s.history r)) ≤ greatest_turnover)
    (λ r complete.
    let most = day_turnover timetable (take_rows r s.history) a (periods_of midnight r) (all_within (seen_by timetable s.history r) (periods_of midnight r) complete.limits) in
    of_periods _ (length (periods_of midnight r)) (2 * greatest_cash) most
    (subst (λ n. n ≤ most_periods) (sym (periods_counted r.key.date (period_count midnight r.key.date))) (few_periods midnight r.key.date)))
    s.runs (runs_complete midnight s reached)
  where
    take_rows : Run → History → History
    take_rows r history = take r.row_count history

    of_periods : (turnover n most : ℕ) → turnover ≤ n * most → n ≤ most_periods → turnover ≤ most_periods * most
    of_periods turnover n most all few =
        let more : n * most ≤ most_periods * most = mul-le-mul few (let same : most ≤ most = omega arith in same) in
        omega arith

-- an amount of at most the greatest turnover in size is in the range of day nets
pub is_day_net : (z : ℤ) (turnover : ℕ) → unsigned_abs z ≤ turnover → turnover ≤ greatest_turnover → IsBetween day_cash.least day_cash.most z
is_day_net z turnover small few = (omega (arith, ints), omega (arith, ints))

-- what accounts pay by the rows of runs is within that range
pub paid_within : PaidWithin
paid_within midnight s a reached =
    let timetable : Timetable = timetable_at midnight s in
    all-weaken
    (λ r. (turnover_in a (rows_by_period (settled_by timetable s.history r)) ≤ greatest_turnover) × (results_in (tables_of midnight s) r.key ≡ rows_by_period (settled_by timetable s.history r)))
    (λ r. IsBetween day_cash.least day_cash.most (paid_in a (results_in (tables_of midnight s) r.key)))
    (λ r h.
    let rows : List (ℕ × AccountRow) = rows_by_period (settled_by timetable s.history r) in
    subst (λ es. IsBetween day_cash.least day_cash.most (paid_in a es)) (sym h.1)
    (is_day_net (paid_in a rows) (turnover_in a rows) (total_by_sizes (λ (e : ℕ × AccountRow). if_same_account a e.1.account (e.1.charge +ℤ e.1.share)) rows) h.0))
    s.runs
    (all_both (λ r. turnover_in a (rows_by_period (settled_by timetable s.history r)) ≤ greatest_turnover)
    (λ r. results_in (tables_of midnight s) r.key ≡ rows_by_period (settled_by timetable s.history r)) s.runs
    (turnovers_within midnight s a reached) (holds_results midnight s reached))

-- so day nets are within the range of day nets
pub day_nets_within : DayNetsWithin
day_nets_within midnight s a reached =
    let timetable : Timetable = timetable_at midnight s in
    all-weaken
    (λ r. IsBetween day_cash.least day_cash.most (paid_in a (results_in (tables_of midnight s) r.key)) × (paid_in a (results_in (tables_of midnight s) r.key) ≡ day_net_of (nets_of timetable s.history (Some r)) a))
    (λ r. IsBetween day_cash.least day_cash.most (day_net_of (nets_of timetable s.history (Some r)) a))
    (λ r h. subst (IsBetween day_cash.least day_cash.most) h.1 h.0) s.runs
    (all_both (λ r. IsBetween day_cash.least day_cash.most (paid_in a (results_in (tables_of midnight s) r.key)))
    (λ r. paid_in a (results_in (tables_of midnight s) r.key) ≡ day_net_of (nets_of timetable s.history (Some r)) a) s.runs
    (paid_within midnight s a reached) (day_nets_from_results midnight s a reached))

-- the latest runs of all dates
module _ (P : Run → Type 0) where
  -- have a property if each run has it
  latest_have : (runs : List Run) → AllByRecursion P runs → AllByRecursion P (latest_runs runs)
  latest_have [] h = tt
  latest_have (run ∷ later) h = elim (is_some (latest_run run.key.date later)) as (λ b. AllByRecursion P (cond b (latest_runs later) (run ∷ latest_runs later))) [
    | true ↦ latest_have later h.1
    | false ↦ (h.0, latest_have later h.1)
  ]

-- if a date has no latest run, it has no run
none_of_date : (date : ℕ) (runs : List Run) → is_some (latest_run date runs) ≡ false → AllByRecursion (λ r. date ≢ r.key.date) runs
none_of_date date [] none = tt
none_of_date date (r ∷ runs) none =
    elim (r.key.date == date) as (λ b. (r.key.date == date) ≡ b → is_some (cond b (option_or (latest_run date runs) (Some r)) (latest_run date runs)) ≡ false → AllByRecursion (λ x. date ≢ x.key.date) (r ∷ runs)) [
      | true ↦ λ is there. absurd (false_is_not_true (sym there ∙ some_there (latest_run date runs) r))
      | false ↦ λ apart left. (λ same. eqb-false r.key.date date apart (sym same), none_of_date date runs left)
    ] refl (sym (ap is_some (latest_run-cons date r runs)) ∙ none)
  where
    some_there : (o : Option Run) (x : Run) → is_some (option_or o (Some x)) ≡ true
    some_there None x = refl
    some_there (Some y) x = refl

-- they are of different dates
latest_differ : (runs : List Run) → Differ (λ x y. x.key.date ≢ y.key.date) (latest_runs runs)
latest_differ [] = tt
latest_differ (run ∷ later) =
    elim (is_some (latest_run run.key.date later)) as (λ b. is_some (latest_run run.key.date later) ≡ b → Differ (λ x y. x.key.date ≢ y.key.date) (cond b (latest_runs later) (run ∷ latest_runs later))) [
      | true ↦ λ is. latest_differ later
      | false ↦ λ none. (latest_have (λ r. run.key.date ≢ r.key.date) later (none_of_date run.key.date later none), latest_differ later)
    ] refl

-- the dates from a first one on, so many of them
abbrev dates_from : ℕ → ℕ → List ℕ
dates_from first zero = []
dates_from first (suc n) = (first + n) ∷ dates_from first n

dates_counted : (first n : ℕ) → length (dates_from first n) ≡ n
dates_counted first zero = refl
dates_counted first (suc n) = ap suc (dates_counted first n)

-- a date in the range is one of these dates
date_among : (first n date : ℕ) → first ≤ date → date < first + n → Contains (dates_from first n) date
date_among first zero date from_first before = absurd (omega arith)
date_among first (suc n) date from_first before =
    elim (date == (first + n)) as (λ b. (date == (first + n)) ≡ b → Contains (dates_from first (suc n)) date) [
      | true ↦ λ is. (0, omega arith, sym (eqb-true date (first + n) is))
      | false ↦ λ apart.
          let other : date ≢ first + n = eqb-false date (first + n) apart in
          let rest = date_among first n date from_first (omega arith) in
          (suc rest.0, omega arith, rest.2)
    ] refl

-- there are at most as many runs of different dates as dates that they can have
few_dates : (first n : ℕ) (runs : List Run) → Differ (λ x y. x.key.date ≢ y.key.date) runs → AllByRecursion (λ r. (first ≤ r.key.date) × (r.key.date < first + n)) runs → length runs ≤ n
few_dates first n runs apart among =
    subst (λ k. length runs ≤ k) (dates_counted first n)
    (no_more (λ (r : Run). r.key.date) runs (dates_from first n) apart
    (all-weaken (λ r. (first ≤ r.key.date) × (r.key.date < first + n)) (λ r. Contains (dates_from first n) r.key.date)
    (λ r h. date_among first n r.key.date h.0 h.1) runs among))

-- how many dates are accepted
abbrev accepted_dates : ℕ
accepted_dates = 36_159

-- a date that is over is an accepted one
over_accepted : (midnight : Midnights) (date : ℕ) (moment : ℤ) → is_over midnight date moment ≡ true → is_accepted date ≡ true
over_accepted midnight date moment over = counted_accepted (is_accepted date) _ _ _ (and_parts _ _ over).0
  where
    counted_accepted : (accepted short common long : Bool) → is_some (counted accepted short common long) ≡ true → accepted ≡ true
    counted_accepted true short common long there = refl
    counted_accepted false short common long there = cc

-- a run that is not refused is of an accepted date
run_date_accepted : (midnight : Midnights) (s : State) (moment : ℤ) (key : RunKey) → run_fault midnight s moment key ≡ None → is_accepted key.date ≡ true
run_date_accepted midnight s moment key none = over_accepted midnight key.date moment (passed (is_over midnight key.date moment) _ _ _ none)
  where
    passed : (b : Bool) (fault : Fault) (before later : Option Fault) → option_or before (option_or (cond b None (Some fault)) later) ≡ None → b ≡ true
    passed true fault before later is = refl
    passed false fault None later is = cc
    passed false fault (Some why) later is = cc

-- in each reached state each run is of an accepted date
dates_accepted : (midnight : Midnights) (s : State) → IsReached midnight s → AllByRecursion (λ r. is_accepted r.key.date ≡ true) s.runs
dates_accepted midnight s (at_first settings fine) = tt
dates_accepted midnight s (by_load t load reached can) = dates_accepted midnight t reached
dates_accepted midnight s (by_run t moment key reached can) =
    all-append (λ r. is_accepted r.key.date ≡ true) t.runs (new_run t key ∷ []) (dates_accepted midnight t reached) (run_date_accepted midnight t moment key can.1, tt)

-- an accepted date is one of the 36,159
accepted_among : (date : ℕ) → is_accepted date ≡ true → (first_date ≤ date) × (date < first_date + accepted_dates)
accepted_among date is =
    let parts = and_parts _ _ is in
    let from_first : first_date ≤ date = leb-true _ _ parts.0 in
    let to_last : date ≤ last_date = leb-true _ _ parts.1 in
    (from_first, omega arith)

-- in each reached state there are at most as many latest runs as accepted dates
few_latest : (midnight : Midnights) (s : State) → IsReached midnight s → length (latest_runs s.runs) ≤ accepted_dates
few_latest midnight s reached =
    few_dates first_date accepted_dates (latest_runs s.runs) (latest_differ s.runs)
    (latest_have (λ r. (first_date ≤ r.key.date) × (r.key.date < first_date + accepted_dates)) s.runs
    (all-weaken (λ r. is_accepted r.key.date ≡ true) (λ r. (first_date ≤ r.key.date) × (r.key.date < first_date + accepted_dates)) (λ r. accepted_among r.key.date) s.runs
    (dates_accepted midnight s reached)))

-- a sum of at most so many day nets is in the range of balances
is_balance : (z : ℤ) (n : ℕ) → unsigned_abs z ≤ n * 100_000_000_000_000 → n ≤ accepted_dates → IsBetween balances.least balances.most z
is_balance z n small few =
    let most : unsigned_abs z ≤ 3_700_000_000_000_000_000 = omega arith in
    (omega (arith, ints), omega (arith, ints))

day_net_small : (z : ℤ) → IsBetween day_cash.least day_cash.most z → unsigned_abs z ≤ 100_000_000_000_000
day_net_small z within = let low = within.0 in let high = within.1 in omega (arith, ints)

-- in each reached state, what is moved over all dates is in the range of balances
pub balances_within : BalancesWithin
balances_within midnight s a reached =
    let timetable : Timetable = timetable_at midnight s in
    let net : Run → ℤ = λ r. day_net_of (nets_of timetable s.history (Some r)) a in
    is_balance (moved_by_runs timetable s a) (length (latest_runs s.runs))
    (total_by_most net 100_000_000_000_000 (latest_runs s.runs)
    (latest_have (λ r. unsigned_abs (net r) ≤ 100_000_000_000_000) s.runs
    (all-weaken (λ r. IsBetween day_cash.least day_cash.most (net r)) (λ r. unsigned_abs (net r) ≤ 100_000_000_000_000) (λ r. day_net_small (net r)) s.runs
    (day_nets_within midnight s a reached))))
    (few_latest midnight s reached)
