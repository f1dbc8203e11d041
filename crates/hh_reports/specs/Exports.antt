-- The exports for other programs: the results of a run and the balances of accounts, as comma-separated values.
use Rattle.std.specs.Prelude.{ℕ, ℤ, List, [], ◌∷◌, ◌++◌, map, codes, decimal}
use Rattle.std.specs.List.{flat_map}
use Rattle.hh_time.specs.DateText.{date_text}
use Rattle.hh_names.specs.declared.account.Account.{Account}
use Rattle.hh_calc.specs.declared.result.AccountRow.{AccountRow}
use Rattle.hh_runs.specs.RunKinds.{run_kind_code}
use Rattle.hh_reports.specs.declared.run.ReportedRun.{ReportedRun}
use Rattle.hh_reports.specs.Fields.{cash_of, comma_line, energies_of, energy_text, pence_text}
use Rattle.hh_names.specs.Accounts.{account_text}
use Rattle.hh_names.specs.PartyAccounts.{both_accounts}

-- the date, the kind, the account, the period, the account's energies and its cash
unfoldable pub result_line : ReportedRun → ℕ × AccountRow → List ℕ
result_line run e = comma_line (
    date_text run.date ∷ run_kind_code run.kind ∷ account_text e.1.account ∷ decimal e.0
    ∷ map energy_text (energies_of e.1) ++ map pence_text (cash_of e.1))

-- the results of a run with these rows: a line for each
unfoldable pub results_text : ReportedRun → List (ℕ × AccountRow) → List ℕ
results_text run rows =
    codes "date,kind,account,period,credited,balancing,contracts,imbalance,charge,share\n" ++ flat_map (result_line run) rows

-- an account and its balance
unfoldable pub balance_line : Account → ℤ → List ℕ
balance_line a pence = comma_line (account_text a ∷ pence_text pence ∷ [])

-- the lines of both accounts of a party
abbrev pub party_lines : (Account → ℤ) → List ℕ → List ℕ
party_lines balance party = flat_map (λ a. balance_line a (balance a)) (both_accounts party)

-- the balances of both accounts of these parties
unfoldable pub balances_text : List (List ℕ) → (Account → ℤ) → List ℕ
balances_text parties balance = codes "account,moved_pence\n" ++ flat_map (party_lines balance) parties
