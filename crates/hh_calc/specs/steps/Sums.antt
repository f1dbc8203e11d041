-- The sums of the accounts of a period in account order, while rows are added to them.
use Rattle.std.specs.Prelude.{◌≡◌, ℕ, ◌+◌, ◌*◌, ◌^◌, ◌≤◌, unsigned_abs, ℤ, pos, ◌+ℤ◌, List, slice_index_or, slice_set, map, All, Bool, sum_by, if◌then◌else◌}
use Rattle.hh_share.specs.Totals.{total}
use Rattle.hh_names.specs.declared.account.Account.{Account}
use Rattle.hh_names.specs.declared.values.Contract.{Contract}
use Rattle.hh_names.specs.Accounts.{is_same_account}
use Rattle.hh_calc.specs.declared.result.CreditRow.{CreditRow}
use Rattle.hh_calc.specs.declared.sums.AccountSums.{AccountSums}
use Rattle.hh_calc.specs.Formulas.{balancing_of, credited_of, net_by, net_entry_of, net_of, if_same_account, unit_credits, weight_of}
use Rattle.hh_calc.specs.Terms.{UnitDataView, ContractTerms}

abbrev pub no_sums : AccountSums
no_sums = record { credited = pos 0; balancing = pos 0; contracts = pos 0; weight = 0 }

-- the sums of two accounts, added together
abbrev pub sums_plus : AccountSums → AccountSums → AccountSums
sums_plus held more = record {
  credited = held.credited +ℤ more.credited;
  balancing = held.balancing +ℤ more.balancing;
  contracts = held.contracts +ℤ more.contracts;
  weight = held.weight + more.weight;
}

-- the sums of accounts after amounts are added to those at a place
abbrev pub added_at : List AccountSums → ℕ → AccountSums → List AccountSums
added_at sums place amounts = slice_set sums place (sums_plus (slice_index_or sums place no_sums) amounts)

-- what a credit adds to its account's sums
abbrev pub credit_amounts : Bool → ℤ → AccountSums
credit_amounts weighs credited =
    record { credited = credited; balancing = pos 0; contracts = pos 0; weight = if weighs then unsigned_abs credited else 0 }

-- what a balancing volume adds to its account's sums
abbrev pub balancing_amounts : ℤ → AccountSums
balancing_amounts volume = record { credited = pos 0; balancing = volume; contracts = pos 0; weight = 0 }

-- what a contracted volume adds to its account's sums
abbrev pub contract_amounts : ℤ → AccountSums
contract_amounts volume = record { credited = pos 0; balancing = pos 0; contracts = volume; weight = 0 }

-- an account's sums after amounts are added to the sums of an account
abbrev pub with_amounts : Account → AccountSums → Account → AccountSums → AccountSums
with_amounts to amounts a held = record {
  credited = held.credited +ℤ if_same_account a to amounts.credited;
  balancing = held.balancing +ℤ if_same_account a to amounts.balancing;
  contracts = held.contracts +ℤ if_same_account a to amounts.contracts;
  weight = held.weight + (if is_same_account to a then amounts.weight else 0);
}

-- an account's sums after credits are added, by whether they weigh
abbrev pub with_credits : Bool → List CreditRow → Account → AccountSums → AccountSums
with_credits weighs credits a held = record {
  credited = held.credited +ℤ total (credited_of a) credits;
  balancing = held.balancing;
  contracts = held.contracts;
  weight = held.weight + (if weighs then sum_by (weight_of a) credits else 0);
}

-- an account's sums after a unit's credits and its balancing volume are added
abbrev pub with_unit : UnitDataView → Account → AccountSums → AccountSums
with_unit u a held = record {
  credited = held.credited +ℤ total (credited_of a) (unit_credits u);
  balancing = held.balancing +ℤ balancing_of a u;
  contracts = held.contracts;
  weight = held.weight + (if u.interconnector then 0 else sum_by (weight_of a) (unit_credits u));
}

-- an account's sums after a contract is added
abbrev pub with_contract : Contract → Account → AccountSums → AccountSums
with_contract c a held = record {
  credited = held.credited;
  balancing = held.balancing;
  contracts = held.contracts +ℤ net_of a c;
  weight = held.weight;
}

-- an account's sums after contracts are added
abbrev pub with_contracts : List Contract → Account → AccountSums → AccountSums
with_contracts contracts a held = record {
  credited = held.credited;
  balancing = held.balancing;
  contracts = held.contracts +ℤ total (net_of a) contracts;
  weight = held.weight;
}

-- an account's sums after net volumes of accounts are added
abbrev pub with_nets : List (Account × ℤ) → Account → AccountSums → AccountSums
with_nets entries a held = record {
  credited = held.credited;
  balancing = held.balancing;
  contracts = held.contracts +ℤ total (net_entry_of a) entries;
  weight = held.weight;
}

-- an account's sums after the contracts of a period are added
abbrev pub with_net_by : List Account → ContractTerms → Account → AccountSums → AccountSums
with_net_by accounts contracts a held = record {
  credited = held.credited;
  balancing = held.balancing;
  contracts = held.contracts +ℤ net_by accounts contracts a;
  weight = held.weight;
}

-- the sums of each account have changed in this way
abbrev pub AreChanged : List Account → (Account → AccountSums → AccountSums) → List AccountSums → List AccountSums → Type 0
AreChanged accounts change old new = (had : Account → AccountSums) → old ≡ map had accounts → new ≡ map (λ a. change a (had a)) accounts

-- no sum is greater in size than so much
pub record IsWithin (most : ℕ) (s : AccountSums) : Type 0 where
  pub credited : unsigned_abs s.credited ≤ most
  pub balancing : unsigned_abs s.balancing ≤ most
  pub contracts : unsigned_abs s.contracts ≤ most
  pub weight : s.weight ≤ most

-- no sum has grown in size by more than so much
abbrev pub AreGrown : ℕ → List AccountSums → List AccountSums → Type 0
AreGrown growth old new = (most : ℕ) → All (IsWithin most) old → All (IsWithin (most + growth)) new

-- the greatest credit from a unit, and the greatest net volume, in ticks
abbrev pub greatest_credit : ℕ
greatest_credit = 10 ^ 18

-- the greatest volume of a unit or a contract, in ticks
abbrev pub greatest_volume : ℕ
greatest_volume = 2 * 10 ^ 14

-- the greatest sum of an account over as many units as memory can have, in ticks
abbrev pub greatest_unit_sum : ℕ
greatest_unit_sum = 19 * 10 ^ 36

-- the greatest sum of an account over as many units and as many contracts or net volumes, in ticks
abbrev pub greatest_sum : ℕ
greatest_sum = 4 * 10 ^ 37

-- the size of a credit is at most the greatest
abbrev pub IsCreditSmall : CreditRow → Type 0
IsCreditSmall c = unsigned_abs c.credited ≤ greatest_credit
