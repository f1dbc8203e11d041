-- The bodies of replies: the keys of an object in the order of their bytes, energy and volumes as texts, cash as whole pence.
use Rattle.std.specs.Prelude.{ℕ, ℤ, List, [], ◌∷◌, map, Option, Some, None, option_map, codes, if◌then◌else◌}
use Rattle.serde_json.specs.Data.{Data, Members, array, member, no_members, number, object, string, unsigned}
use Rattle.serde_json.specs.Find.{of_integer}
use Rattle.serde_json.specs.View.{items_of}
use Rattle.hh_num.specs.Fixed.{fixed_text}
use Rattle.hh_num.specs.Quantities.{energies, volumes}
use Rattle.hh_time.specs.DateText.{date_text}
use Rattle.hh_names.specs.declared.account.Account.{Account}
use Rattle.hh_names.specs.declared.fault.Fault.{Fault}
use Rattle.hh_names.specs.declared.values.Counterparties.{Counterparties}
use Rattle.hh_names.specs.Accounts.{account_text, is_same_account}
use Rattle.hh_names.specs.Faults.{refusal_name, refusal_number}
use Rattle.hh_rows.specs.declared.rows.ContractRow.{ContractRow}
use Rattle.hh_runs.specs.declared.run_kind.RunKind.{RunKind}
use Rattle.hh_runs.specs.declared.summary.Summary.{Summary}
use Rattle.hh_runs.specs.RunKinds.{run_kind_code}
use Rattle.hh_runs.specs.declared.run_key.RunKey.{RunKey}
use Rattle.hh_requests.specs.declared.reply.Loaded.{Loaded}
use Rattle.hh_requests.specs.declared.reply.Reply.{Reply}
use Rattle.hh_requests.specs.declared.reply.Reply.TheVariants as reply
use Rattle.hh_requests.specs.result.AccountRow.{AccountRow}
use Rattle.hh_requests.specs.Views.{AccountView, ContractsView, RunsView}

-- a count, and a number with its sign
abbrev pub count_data : ℕ → Data
count_data n = number (unsigned n)

abbrev pub whole_data : ℤ → Data
whole_data n = number (of_integer n)

-- the texts of an account, of a date, of a kind of run, of energy in MWh with 10 decimals and of a volume in MWh with 3
abbrev pub account_data : Account → Data
account_data account = string (account_text account)

abbrev pub date_data : ℕ → Data
date_data date = string (date_text date)

abbrev pub kind_data : RunKind → Data
kind_data kind = string (run_kind_code kind)

abbrev pub energy_data : ℤ → Data
energy_data ticks = string (fixed_text energies.decimals ticks)

abbrev pub volume_data : ℤ → Data
volume_data kwh = string (fixed_text volumes.decimals kwh)

-- one value for each item of a list
abbrev pub list_data : {A : Type 0} → (A → Data) → List A → Data
list_data of_one xs = array (items_of (map of_one xs))

-- members one after the other
abbrev pub members : List (List ℕ × Data) → Members
members [] = no_members
members (m ∷ ms) = member m.0 m.1 (members ms)

-- a member, if there is a value for it
abbrev pub placed : List ℕ → Option Data → Members → Members
placed key None rest = rest
placed key (Some place) rest = member key place rest

-- a file that was accepted
abbrev pub loaded_body : Loaded → Data
loaded_body loaded = object (members ((codes "applied", count_data loaded.applied) ∷ (codes "late", count_data loaded.late) ∷ []))

-- a run
abbrev pub run_body : RunKey → Summary → Data
run_body run summary = object (members (
    (codes "accounts", count_data summary.accounts) ∷ (codes "date", date_data run.date) ∷ (codes "kind", kind_data run.kind)
    ∷ (codes "periods", count_data summary.periods) ∷ (codes "postings", count_data summary.postings)
    ∷ (codes "residual_pence", whole_data summary.residual) ∷ []))

-- what an account has and pays in a Settlement Period
abbrev pub period_body : ℕ × AccountRow → Data
period_body row = object (members (
    (codes "balancing", energy_data row.1.balancing) ∷ (codes "charge_pence", whole_data row.1.charge)
    ∷ (codes "contracts", energy_data row.1.contracts) ∷ (codes "credited", energy_data row.1.credited)
    ∷ (codes "imbalance", energy_data row.1.imbalance) ∷ (codes "period", count_data row.0)
    ∷ (codes "share_pence", whole_data row.1.share) ∷ []))

-- what an account has and pays in a run
abbrev pub account_body : AccountView → Data
account_body r = object (members (
    (codes "account", account_data r.account) ∷ (codes "date", date_data r.run.date) ∷ (codes "kind", kind_data r.run.kind)
    ∷ (codes "net_pence", whole_data r.net) ∷ (codes "periods", list_data period_body r.rows) ∷ []))

-- what runs have posted to an account
abbrev pub balance_body : Account → ℤ → Data
balance_body account moved = object (members ((codes "account", account_data account) ∷ (codes "moved_pence", whole_data moved) ∷ []))

-- the other account of a contract
abbrev pub counterparty_of : Account → Counterparties → Account
counterparty_of account c = if is_same_account c.seller account then c.buyer else c.seller

-- whether an account sells or buys
abbrev pub role_of : Account → Counterparties → List ℕ
role_of account c = if is_same_account c.seller account then codes "seller" else codes "buyer"

-- a contract as one of its accounts sees it
abbrev pub contract_body : Account → ContractRow → Data
contract_body account row = object (members (
    (codes "counterparty", account_data (counterparty_of account row.contract.counterparties))
    ∷ (codes "mwh", volume_data row.contract.volume) ∷ (codes "period", count_data row.key.at.period)
    ∷ (codes "reference", string row.key.reference) ∷ (codes "role", string (role_of account row.contract.counterparties)) ∷ []))

-- the contracts of an account in force on a date
abbrev pub contracts_body : ContractsView → Data
contracts_body r = object (members (
    (codes "account", account_data r.account) ∷ (codes "contracts", list_data (contract_body r.account) r.contracts)
    ∷ (codes "date", date_data r.date) ∷ []))

-- the runs of a date
abbrev pub runs_body : RunsView → Data
runs_body r = object (members ((codes "date", date_data r.date) ∷ (codes "runs", list_data kind_data r.kinds) ∷ []))

-- a refusal, with the places that it names
abbrev pub fault_body : Fault → Data
fault_body fault = object (
    placed (codes "column") (option_map count_data fault.column) (
    member (codes "name") (string (refusal_name fault.refusal)) (
    placed (codes "period") (option_map count_data fault.period) (
    member (codes "refused") (count_data (refusal_number fault.refusal)) (
    placed (codes "row") (option_map count_data fault.row) (
    placed (codes "unit") (option_map string fault.unit) no_members))))))

-- the body of a reply
abbrev pub reply_body : Reply → Data
reply_body (reply.Loaded loaded) = loaded_body loaded
reply_body (reply.Ran run summary) = run_body run summary
reply_body (reply.Account r) = account_body r
reply_body (reply.Balance account moved) = balance_body account moved
reply_body (reply.Contracts r) = contracts_body r
reply_body (reply.Runs r) = runs_body r
reply_body (reply.Refused fault) = fault_body fault
