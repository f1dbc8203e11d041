-- What the calls of the tables read from their content.
use Rattle.std.specs.Prelude.{◌≡◌, ℕ, ◌==◌, ℤ, List, filter, filter_map, Bool, ◌||◌, Option, Some, None, if◌then◌else◌}
use Rattle.std.specs.FinMap.{find}
use Rattle.std.specs.List.{flat_map, list_any}
use Rattle.std.specs.Ordering.{eq_by_cmp}
use Rattle.std.specs.Str.{bytes_eq}
use Rattle.hh_rules.specs.Days.{Midnights}
use Rattle.hh_rules.specs.account.Account.{Account}
use Rattle.hh_rules.specs.values.Counterparties.{Counterparties}
use Rattle.hh_rules.specs.Accounts.{bytes_cmp, is_same_account}
use Rattle.hh_rules.specs.file_kind.FileKind.{FileKind}
use Rattle.hh_rules.specs.rows.ContractRow.{ContractRow}
use Rattle.hh_rules.specs.rows.PartyRegistration.{PartyRegistration}
use Rattle.hh_rules.specs.rows.UnitRegistration.{UnitRegistration}
use Rattle.hh_rules.specs.History.{Registered}
use Rattle.hh_rules.specs.RegisterView.{RegisterView}
use Rattle.hh_rules.specs.Refusals.{whole_standing}
use Rattle.hh_calc.specs.declared.result.AccountRow.{AccountRow}
use Rattle.hh_runs.specs.declared.run_kind.RunKind.{RunKind}
use Rattle.hh_runs.specs.declared.summary.Summary.{Summary}
use Rattle.hh_runs.specs.declared.run_key.RunKey.{RunKey}
use Rattle.hh_states.specs.declared.file_key.FileKey.{FileKey}
use Rattle.hh_states.specs.declared.run_keys.PostingKey.{PostingKey}
use Rattle.hh_states.specs.declared.run_keys.ResultKey.{ResultKey}
use Rattle.hh_states.specs.Content.{Content, tables_of}
use Rattle.hh_states.specs.DaySettlement.{periods_on}
use Rattle.hh_states.specs.PeriodSettlement.{rows_in_force}
use Rattle.hh_states.specs.Runs.{run_key_cmp}
use Rattle.hh_states.specs.States.{KeptFileView, State, file_key_cmp}

-- whether the seller or the buyer of a contract is this account
abbrev pub names_account : Account → ContractRow → Bool
names_account a r = is_same_account r.contract.counterparties.seller a || is_same_account r.contract.counterparties.buyer a

-- the contracts in force of an account on a date, by Settlement Period, then by the bytes of their references
abbrev pub contracts_of : Account → ℕ → Registered → List ContractRow
contracts_of a date tables = filter (names_account a) (flat_map (rows_in_force tables) (periods_on date 50))

-- whether a registered party has this key
abbrev pub is_key_known_in : Registered → List ℕ → Bool
is_key_known_in tables key = list_any (λ e. bytes_eq e.1.key key) tables.parties

-- a run's kind and summary, if it is of this date
abbrev pub summary_on : ℕ → RunKey × Summary → Option (RunKind × Summary)
summary_on date e = if e.0.date == date then Some (e.0.kind, e.1) else None

-- a row with its period, if it is of this run
abbrev pub result_in : RunKey → ResultKey × AccountRow → Option (ℕ × AccountRow)
result_in run e = if eq_by_cmp run_key_cmp e.0.run run then Some (e.0.period, e.1) else None

-- a posting with its run, if it is to this account
abbrev pub posting_to : Account → PostingKey × ℤ → Option (RunKey × ℤ)
posting_to account e = if is_same_account e.0.account account then Some (e.0.run, e.1) else None

module _ (content : Content) where
  -- what is registered of a party, if it is registered
  abbrev pub party_in : List ℕ → Option PartyRegistration
  party_in party = find bytes_cmp party content.registered.parties

  -- what is registered of a unit, if it is registered
  abbrev pub unit_in : List ℕ → Option UnitRegistration
  unit_in unit = find bytes_cmp unit content.registered.units

  -- the seller and the buyer of a reference, if a row has fixed them
  abbrev pub reference_in : List ℕ → Option Counterparties
  reference_in reference = find bytes_cmp reference content.registered.references

  -- whether a registered party has this key
  abbrev pub is_key_known : List ℕ → Bool
  is_key_known key = is_key_known_in content.registered key

  -- what is kept of the file of this kind and name, if one was accepted
  abbrev pub file_in : FileKind → List ℕ → Option KeptFileView
  file_in kind name = find file_key_cmp (record { kind = kind; name = name }) content.files

  -- the register of everything that is registered and in force
  abbrev pub whole_register : RegisterView
  whole_register = record {
    lead_minutes = content.settings.lead_minutes;
    standing = whole_standing content.registered;
  }

  -- the contracts in force of an account on a date
  abbrev pub contracts_in : Account → ℕ → List ContractRow
  contracts_in account date = contracts_of account date content.registered

  -- the runs of a date with their summaries, in the order of their kinds
  abbrev pub runs_in : ℕ → List (RunKind × Summary)
  runs_in date = filter_map (summary_on date) content.runs

  -- the rows of a run's accounts, by Settlement Period, then by account
  abbrev pub results_in : RunKey → List (ℕ × AccountRow)
  results_in run = filter_map (result_in run) content.results

  -- what the runs have posted to an account, by the dates of the runs, then by their kinds
  abbrev pub postings_in : Account → List (RunKey × ℤ)
  postings_in account = filter_map (posting_to account) content.postings

-- the file that the tables of a state have under a key is the one that was accepted under it
abbrev pub HoldsFiles : Type 0
HoldsFiles = (midnight : Midnights) (s : State) (key : FileKey)
    → file_in (tables_of midnight s) key.kind key.name ≡ find file_key_cmp key s.files
