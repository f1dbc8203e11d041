-- A market of two parties and a day of its files: replies, the settled day, runs and their postings, all computed.
use Rattle.std.proofs.Common.{◌≡◌, ℕ, List, [], ◌∷◌, ◌++◌, refl, Some, None, true, false, Option}
use Rattle.std.specs.Prelude.{ℤ, pos, neg_ℤ, codes, ◌+◌, ◌-◌, ◌*◌, ◌==◌, map, option_map, if◌then◌else◌}
use Rattle.hh_rules.specs.account.Account.{Account}
use Rattle.hh_rules.specs.account.Side.{Side}
use Rattle.hh_rules.specs.account.Side.TheVariants.{Production, Consumption}
use Rattle.hh_rules.specs.fault.Fault.{Fault}
use Rattle.hh_rules.specs.fault.Refusal.{Refusal}
use Rattle.hh_rules.specs.fault.Refusal.TheVariants as refusal
use Rattle.hh_rules.specs.Faults.{row_fault}
use Rattle.hh_rules.specs.DateRanges.{Range}
use Rattle.hh_rules.specs.file_kind.FileKind.{FileKind}
use Rattle.hh_rules.specs.file_kind.FileKind.TheVariants as file
use Rattle.hh_rules.specs.rows.Row.{Row}
use Rattle.hh_rules.specs.rows.Row.TheVariants as row
use Rattle.hh_rules.specs.settlement_period.SettlementPeriod.{SettlementPeriod}
use Rattle.hh_rules.specs.FileRows.{first_fault}
use Rattle.hh_calc.specs.declared.result.AccountRow.{AccountRow}
use Rattle.hh_runs.specs.declared.run_kind.RunKind.{RunKind}
use Rattle.hh_runs.specs.declared.run_kind.RunKind.TheVariants as kind
use Rattle.hh_runs.specs.declared.summary.Summary.{Summary}
use Rattle.hh_runs.specs.declared.run_key.RunKey.{RunKey}
use Rattle.hh_states.specs.Changes.{effect_of_load, load_change}
use Rattle.hh_states.specs.Content.{Content, tables_of}
use Rattle.hh_states.specs.DaySettlement.{from_one_to}
use Rattle.hh_states.specs.PeriodSettlement.{settled, terms_at}
use Rattle.hh_states.specs.Reads.{contracts_in, is_key_known}
use Rattle.hh_states.specs.Runs.{postings_after}
use Rattle.hh_states.specs.States.{KeptFileView, State, empty_state}
use Rattle.hh_states.specs.Steps.{Load, after_load, after_run, kept_file, kept_summary, new_run, new_summary, registered_at, rows_coming, run_fault, timetable_at}

-- 2024-07-01 is day 19905 and begins at 1719788400; each day here has 48 periods
abbrev midnight : ℕ → ℤ
midnight d = pos (1_719_788_400 + 86_400 * d - 86_400 * 19_905)

abbrev minus : ℕ → ℤ
minus n = neg_ℤ (pos n)

abbrev genco_p : Account
genco_p = record { party = codes "GENCO"; side = Production }

abbrev supco_c : Account
supco_c = record { party = codes "SUPCO"; side = Consumption }

-- from 2024-01-01 on
abbrev from_new_year : Range
from_new_year = record { from = 19_723; to = 47_481 }

abbrev party : List ℕ → List ℕ → Row
party id key = row.Party (record { party = id; registration = record { range = from_new_year; key = key } })

abbrev unit : List ℕ → Account → Row
unit id lead = row.Unit (record { unit = id; registration = record { lead = lead; interconnector = false; range = from_new_year } })

abbrev period : ℕ → SettlementPeriod
period p = record { date = 19_905; period = p }

-- a reading in the first period, and in the others a reading of 0
abbrev reading : List ℕ → ℤ → ℤ → ℕ → Row
reading id metered tlm p = row.Meter (record {
  key = record { unit = id; at = period p };
  reading = record {
    metered = if p == 1 then metered else pos 0;
    tlm = if p == 1 then tlm else pos 10_000_000;
    balancing = pos 0;
  };
})

-- a price in the first period, and a price of 0 in the others
abbrev price : ℤ → ℕ → Row
price first p = row.Price (record { at = period p; price = if p == 1 then first else pos 0 })

abbrev sale : List ℕ → Account → Account → ℤ → Row
sale reference seller buyer volume =
    row.Contract (record { key = record { reference = reference; at = period 1 }; contract = record { counterparties = record { seller = seller; buyer = buyer }; volume = volume } })

-- a file that comes at a moment, here without its bytes
abbrev coming : ℤ → FileKind → List ℕ → List Row → Load
coming moment kind name rows = record { moment = moment; key = record { kind = kind; name = name }; body = []; rows = rows }

abbrev loading : ℤ
loading = pos 1_719_700_000

abbrev parties : Load
parties = coming loading file.Parties (codes "f1.csv") (party (codes "GENCO") (codes "genco0001") ∷ party (codes "SUPCO") (codes "supco0001") ∷ [])

abbrev units : Load
units = coming loading file.Units (codes "f2.csv") (unit (codes "G1") genco_p ∷ unit (codes "S1") supco_c ∷ [])

abbrev contracts : Load
contracts = coming loading file.Contracts (codes "f3.csv") (sale (codes "C1") genco_p supco_c (pos 99_000) ∷ [])

abbrev meters : Load
meters = coming loading file.Meters (codes "f4.csv") (map (reading (codes "G1") (pos 100_000) (pos 9_950_000)) (from_one_to 48) ++ map (reading (codes "S1") (minus 98_000) (pos 10_050_000)) (from_one_to 48))

abbrev prices : Load
prices = coming loading file.Prices (codes "f5.csv") (map (price (pos 5_000_000)) (from_one_to 48))

abbrev empty : State
empty = empty_state (record { lead_minutes = 60; operator_key = codes "op-settle001" })

-- the states after each file
abbrev with_parties : State
with_parties = after_load midnight empty parties

abbrev with_units : State
with_units = after_load midnight with_parties units

abbrev with_contracts : State
with_contracts = after_load midnight with_units contracts

abbrev with_meters : State
with_meters = after_load midnight with_contracts meters

abbrev loaded : State
loaded = after_load midnight with_meters prices

-- the fault of a load's rows
abbrev fault_in : State → Load → Option Fault
fault_in s load = first_fault (timetable_at midnight s) s.history 1 (rows_coming load)

parties_accepted : fault_in empty parties ≡ None
parties_accepted = refl

units_accepted : fault_in with_parties units ≡ None
units_accepted = refl

contracts_accepted : fault_in with_units contracts ≡ None
contracts_accepted = refl

meters_accepted : fault_in with_contracts meters ≡ None
meters_accepted = refl

prices_accepted : fault_in with_meters prices ≡ None
prices_accepted = refl

-- what is kept of a file, with the counts of its reply
abbrev reply : State → Load → KeptFileView
reply s load = kept_file (timetable_at midnight s) load

abbrev replied : ℕ → ℕ → KeptFileView
replied applied late = record { body = []; applied = applied; late = late }

replies :
    map (λ e. e.1) loaded.files
    ≡ replied 2 0 ∷ replied 2 0 ∷ replied 1 0 ∷ replied 96 0 ∷ replied 48 0 ∷ []
replies = refl

-- the tables after a load, from what the load writes; they are those of the state after it
abbrev written : State → Load → Content
written s load = effect_of_load (load_change midnight s load) (tables_of midnight s)

contracts_written : written with_units contracts ≡ tables_of midnight with_contracts
contracts_written = refl

-- one more contract row: a second before the deadline it is in time, at the deadline it is late, and the last accepted counts
abbrev further : ℤ → List ℕ → ℤ → Load
further moment name volume = coming moment file.Contracts name (sale (codes "C1") genco_p supco_c volume ∷ [])

abbrev in_time : Load
in_time = further (pos 1_719_784_799) (codes "c2.csv") (pos 98_000)

abbrev at_deadline : Load
at_deadline = further (pos 1_719_784_800) (codes "c3.csv") (pos 97_000)

abbrev accepted_last : Load
accepted_last = further loading (codes "c4.csv") (pos 96_000)

abbrev with_in_time : State
with_in_time = after_load midnight with_contracts in_time

abbrev with_late : State
with_late = after_load midnight with_in_time at_deadline

abbrev with_last : State
with_last = after_load midnight with_late accepted_last

in_time_reply : reply with_contracts in_time ≡ replied 1 0
in_time_reply = refl

late_reply : reply with_in_time at_deadline ≡ replied 0 1
late_reply = refl

last_reply : reply with_late accepted_last ≡ replied 1 0
last_reply = refl

-- the volumes in force of an account on the day
abbrev volumes : State → Account → List ℤ
volumes s a = map (λ r. r.contract.volume) (contracts_in (tables_of midnight s) a 19_905)

in_time_volume : volumes with_in_time genco_p ≡ pos 98_000 ∷ []
in_time_volume = refl

late_volume : volumes with_late supco_c ≡ pos 98_000 ∷ []
late_volume = refl

last_volume : volumes with_last genco_p ≡ pos 96_000 ∷ []
last_volume = refl

-- the third row of a file is refused, and so the file is
same_account : fault_in with_contracts (coming loading file.Contracts (codes "c5.csv") (sale (codes "C5") genco_p supco_c (pos 1) ∷ sale (codes "C6") supco_c genco_p (pos 1) ∷ sale (codes "C7") genco_p genco_p (pos 1) ∷ [])) ≡ Some (row_fault refusal.SameAccount 3)
same_account = refl

-- a row sees the rows of its file before it
moved_in_file : fault_in with_contracts (coming loading file.Contracts (codes "c6.csv") (sale (codes "C5") genco_p supco_c (pos 1) ∷ sale (codes "C5") supco_c genco_p (pos 1) ∷ [])) ≡ Some (row_fault refusal.ReferenceMoved 2)
moved_in_file = refl

-- a party's key is known as one, and the operator's is not
key_known : is_key_known (tables_of midnight loaded) (codes "supco0001") ≡ true
key_known = refl

operator_key_unknown : is_key_known (tables_of midnight loaded) (codes "op-settle001") ≡ false
operator_key_unknown = refl

-- an account with nothing metered, contracted or charged
abbrev idle : List ℕ → Side → AccountRow
idle id side = record {
  account = record { party = id; side = side };
  credited = pos 0;
  balancing = pos 0;
  contracts = pos 0;
  imbalance = pos 0;
  charge = pos 0;
  share = pos 0;
}

-- the first period, settled
abbrev genco_row : AccountRow
genco_row = record {
  account = genco_p;
  credited = pos 995_000_000_000;
  balancing = pos 0;
  contracts = pos 990_000_000_000;
  imbalance = pos 5_000_000_000;
  charge = minus 2500;
  share = pos 2538;
}

abbrev supco_row : AccountRow
supco_row = record {
  account = supco_c;
  credited = minus 984_900_000_000;
  balancing = pos 0;
  contracts = minus 990_000_000_000;
  imbalance = pos 5_100_000_000;
  charge = minus 2550;
  share = pos 2512;
}

first_period : (settled (terms_at (registered_at midnight loaded) (period 1))).accounts
    ≡ genco_row ∷ idle (codes "GENCO") Consumption ∷ idle (codes "SUPCO") Production ∷ supco_row ∷ []
first_period = refl

-- the second period, in which the metered volumes are 0
second_period : (settled (terms_at (registered_at midnight loaded) (period 2))).residual ≡ pos 0
second_period = refl

-- the runs of the day: none before it is over, and SF first
abbrev run : RunKind → RunKey
run wanted = record { date = 19_905; kind = wanted }

abbrev refused : Option Fault → Option Refusal
refused fault = option_map (λ f. f.refusal) fault

too_early : refused (run_fault midnight loaded (pos 1_719_874_799) (run kind.SF)) ≡ Some refusal.DayNotOver
too_early = refl

not_first : refused (run_fault midnight loaded (pos 1_719_874_800) (run kind.R1)) ≡ Some refusal.NoInitialRun
not_first = refl

no_fault : run_fault midnight loaded (pos 1_719_874_800) (run kind.SF) ≡ None
no_fault = refl

abbrev summary : ℕ → ℕ → ℤ → ℕ → Summary
summary periods accounts residual postings = record { periods = periods; accounts = accounts; residual = residual; postings = postings }

first_run : new_summary midnight loaded (run kind.SF) ≡ summary 48 4 (pos 5050) 2
first_run = refl

-- what the first run posts
first_postings : postings_after (timetable_at midnight loaded) loaded.history None (new_run loaded (run kind.SF)) ≡ (genco_p, pos 38) ∷ (supco_c, minus 38) ∷ []
first_postings = refl

-- a run that exists keeps its summary, and no R2 comes after RF
abbrev run_once : State
run_once = after_run loaded (run kind.SF)

kept : kept_summary midnight run_once (run kind.SF) ≡ Some (summary 48 4 (pos 5050) 2)
kept = refl

after_last : refused (run_fault midnight (after_run run_once (run kind.RF)) (pos 1_719_961_200) (run kind.R2)) ≡ Some refusal.RunOrder
after_last = refl
