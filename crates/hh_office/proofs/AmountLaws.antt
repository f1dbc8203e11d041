-- What accounts have and pay fits the types of replies, in the tables of a state that the machine reaches.
use Rattle.std.proofs.Common.{◌≡◌, ℕ, List, [], ◌∷◌, sym, ap, subst, ◌∙◌, true, Option, Some, None}
use Rattle.std.specs.Prelude.{ℤ, ◌+ℤ◌, ◌==◌, IfSome, is_some, option_map, unwrap_or}
use Rattle.std.specs.List.{AllByRecursion}
use Rattle.hh_num.specs.Ranges.{IsBetween}
use Rattle.hh_num.specs.Totals.{total}
use Rattle.hh_num.proofs.TotalLaws.{total-filter}
use Rattle.hh_time.specs.Days.{Midnights}
use Rattle.hh_names.specs.declared.account.Account.{Account}
use Rattle.hh_names.specs.Accounts.{is_same_account}
use Rattle.hh_calc.specs.declared.result.AccountRow.{AccountRow}
use Rattle.hh_runs.specs.DayNets.{day_cash}
use Rattle.hh_states.specs.Amounts.{PaidWithin}
use Rattle.hh_runs.specs.declared.run_key.RunKey.{RunKey}
use Rattle.hh_tables.proofs.TableLaws.{false_is_not_true}
use Rattle.hh_states.specs.Content.{Content, tables_of}
use Rattle.hh_states.specs.Reads.{results_in, runs_in}
use Rattle.hh_states.specs.RunReads.{HoldsRuns, paid_in}
use Rattle.hh_states.specs.Runs.{Run, latest_run}
use Rattle.hh_states.specs.States.{State}
use Rattle.hh_states.specs.Steps.{IsReached}
use Rattle.hh_office.specs.Enquiries.{net_of_rows, rows_of_account}
use Rattle.hh_office.specs.Promises.{Represents}
use Rattle.hh_office.specs.steps.Reads.{latest_key}
use Rattle.hh_office.specs.Views.{OfficeView, midnight_of}
use Rattle.hh_office.proofs.EnquiryLaws.{latest_holds, latest_is}

-- what an account's own rows come to is what the account pays by all rows
pub own_rows : (a : Account) (rows : List (ℕ × AccountRow)) → net_of_rows (rows_of_account a rows) ≡ paid_in a rows
own_rows a rows = total-filter (λ (e : ℕ × AccountRow). e.1.charge +ℤ e.1.share) (λ e. is_same_account e.1.account a) rows

module _ (midnight : Midnights) (s : State) (reached : IsReached midnight s) where
  -- what it pays by the rows of the latest run of a date is a day net
  pub latest_net_fits : PaidWithin → (a : Account) (date : ℕ)
      → IfSome (latest_run date s.runs) (λ r. IsBetween day_cash.least day_cash.most (net_of_rows (rows_of_account a (results_in (tables_of midnight s) r.key))) × ((r.key.date == date) ≡ true))
  latest_net_fits paid a date =
      latest_holds (λ r. IsBetween day_cash.least day_cash.most (net_of_rows (rows_of_account a (results_in (tables_of midnight s) r.key)))) date s.runs (each s.runs (paid midnight s a reached))
    where
      each : (runs : List Run) → AllByRecursion (λ r. IsBetween day_cash.least day_cash.most (paid_in a (results_in (tables_of midnight s) r.key))) runs
          → AllByRecursion (λ r. IsBetween day_cash.least day_cash.most (net_of_rows (rows_of_account a (results_in (tables_of midnight s) r.key)))) runs
      each [] within = tt
      each (r ∷ runs) within = (subst (IsBetween day_cash.least day_cash.most) (sym (own_rows a (results_in (tables_of midnight s) r.key))) within.0, each runs within.1)

-- the same in the tables of an office that represents a state
pub net_fits : (office : OfficeView) (s : State) → Represents office s → HoldsRuns → PaidWithin → (a : Account) (date : ℕ) (key : RunKey)
    → Some key ≡ latest_key date (runs_in office.content date)
    → IsBetween day_cash.least day_cash.most (net_of_rows (rows_of_account a (results_in office.content key)))
net_fits office s stands runs paid a date key found =
    fits_by (latest_run date s.runs) (sym (latest_is office s stands runs date) ∙ sym found) (latest_net_fits (midnight_of office) s stands.0 paid a date)
  where
    fits : Content → RunKey → Type 0
    fits content k = IsBetween day_cash.least day_cash.most (net_of_rows (rows_of_account a (results_in content k)))

    fits_by : (o : Option Run) → option_map (λ r. r.key) o ≡ Some key
        → IfSome o (λ r. fits (tables_of (midnight_of office) s) r.key × ((r.key.date == date) ≡ true)) → fits office.content key
    fits_by None is held = absurd (false_is_not_true (ap is_some is))
    fits_by (Some r) is held =
        subst (fits office.content) (ap (λ o. unwrap_or o key) is) (subst (λ c. fits c r.key) (sym stands.1) held.0)
