-- The accounts that have rows in a settled period and in a run.
use Rattle.std.proofs.Common.{◌≡◌, ℕ, List, [], ◌∷◌, ◌++◌, length, map, refl, sym, ap, ◌∙◌, arith}
use Rattle.std.specs.Prelude.{ℤ}
use Rattle.std.specs.List.{AllByRecursion, flat_map}
use Rattle.std.proofs.lemmas.List.{length-map, map-append}
use Rattle.hh_time.specs.Days.{Midnights}
use Rattle.hh_names.specs.declared.account.Account.{Account}
use Rattle.hh_rows.specs.declared.settlement_period.SettlementPeriod.{SettlementPeriod}
use Rattle.hh_rules.specs.History.{Registered}
use Rattle.hh_share.proofs.SumLaws.{length-shares}
use Rattle.hh_calc.specs.declared.result.AccountRow.{AccountRow}
use Rattle.hh_calc.specs.declared.result.Figures.{Figures}
use Rattle.hh_calc.specs.Formulas.{all_figures, figures, period_sums, residual, residual_shares, weights}
use Rattle.hh_calc.specs.Terms.{PeriodDataView}
use Rattle.hh_states.specs.Content.{tables_of}
use Rattle.hh_states.specs.DaySettlement.{settled_day}
use Rattle.hh_states.specs.PeriodSettlement.{account_rows, accounts_on, settled, terms_at}
use Rattle.hh_states.specs.Reads.{results_in}
use Rattle.hh_states.specs.RunReads.{HoldsResults, rows_by_period}
use Rattle.hh_states.specs.Runs.{Run, seen_by, settled_by}
use Rattle.hh_states.specs.States.{State}
use Rattle.hh_states.specs.Steps.{IsReached, timetable_at}
use Rattle.hh_day.specs.Headline.{SettlesEachAccount, account_in}

-- rows are of the accounts of their figures, if there are as many shares
accounts_of_rows : (fs : List Figures) (shares : List ℤ) → length fs ≡ length shares
    → map (λ (r : AccountRow). r.account) (account_rows fs shares) ≡ map (λ (f : Figures). f.account) fs
accounts_of_rows [] shares same = refl
accounts_of_rows (f ∷ fs) [] same = absurd (omega arith)
accounts_of_rows (f ∷ fs) (x ∷ shares) same = ap (λ t. f.account ∷ t) (accounts_of_rows fs shares (omega arith))

-- figures are of the accounts for which they are computed
accounts_of_figures : (p : PeriodDataView) (accounts : List Account) → map (λ (f : Figures). f.account) (map (figures p) accounts) ≡ accounts
accounts_of_figures p [] = refl
accounts_of_figures p (a ∷ accounts) = ap (λ t. a ∷ t) (accounts_of_figures p accounts)

-- a settled period has a row for each account, in their order
pub accounts_settled : (p : PeriodDataView) → map (λ (r : AccountRow). r.account) (settled p).accounts ≡ p.accounts
accounts_settled p =
    accounts_of_rows (all_figures p) (residual_shares p)
    (length-map p.accounts (figures p) ∙ sym (length-shares (residual p) (weights p) ∙ length-map p.accounts (λ a. (period_sums p a).weight)))
    ∙ accounts_of_figures p p.accounts

-- the rows of a period's accounts, each with the number of its period
with_number : (n : ℕ) (rows : List AccountRow)
    → map account_in (map (λ row. (n, row)) rows) ≡ map (λ a. (n, a)) (map (λ (r : AccountRow). r.account) rows)
with_number n [] = refl
with_number n (row ∷ rows) = ap (λ t. (n, row.account) ∷ t) (with_number n rows)

module _ (tables : Registered) (date : ℕ) where
  -- a Settlement Period of the date
  abbrev numbered : ℕ → SettlementPeriod
  numbered p = record { date = date; period = p }

  -- the settled periods of a date have a row for each of its accounts
  rows_of_periods : (numbers : List ℕ)
      → map account_in (rows_by_period (settled_day tables (map numbered numbers)))
      ≡ flat_map (λ (at : SettlementPeriod). map (λ a. (at.period, a)) (accounts_on tables date)) (map numbered numbers)
  rows_of_periods [] = refl
  rows_of_periods (n ∷ numbers) =
      let rows : List AccountRow = (settled (terms_at tables (numbered n))).accounts in
      let later : List (ℕ × AccountRow) = rows_by_period (settled_day tables (map numbered numbers)) in
      map-append account_in (map (λ row. (n, row)) rows) later
      ∙ (λ i. (with_number n rows ∙ ap (map (λ a. (n, a))) (accounts_settled (terms_at tables (numbered n)))) i ++ rows_of_periods numbers i)

module _ (midnight : Midnights) (s : State) where
  -- what is required of the rows of each run's settled periods
  settles_each : (runs : List Run)
      → AllByRecursion (λ (r : Run). results_in (tables_of midnight s) r.key ≡ rows_by_period (settled_by (timetable_at midnight s) s.history r)) runs
      → AllByRecursion (SettlesEachAccount midnight s (tables_of midnight s)) runs
  settles_each [] held = tt
  settles_each (r ∷ runs) held = (
    ap (map account_in) held.0
        ∙ rows_of_periods (seen_by (timetable_at midnight s) s.history r) r.key.date _,
    settles_each runs held.1,
  )

  -- the tables of a reached state have a row for each account in each period of each run
  pub each_account_settled : HoldsResults → IsReached midnight s → AllByRecursion (SettlesEachAccount midnight s (tables_of midnight s)) s.runs
  each_account_settled holds reached = settles_each s.runs (holds midnight s reached)
