-- What is read for a Settlement Day: the contracts of its date with their references, and the rows of its units.
use Rattle.std.specs.Prelude.{ℕ, ℤ, List, filter, map}
use Rattle.std.specs.List.{dedup, flat_map}
use Rattle.std.specs.Ordering.{is_eq, nat_cmp}
use Rattle.std.specs.Str.{bytes_eq}
use Rattle.hh_tables.specs.Tables.{Table}
use Rattle.hh_names.specs.Accounts.{bytes_cmp}
use Rattle.hh_rows.specs.DateRanges.{holds}
use Rattle.hh_rows.specs.declared.keys.ContractKey.{ContractKey}
use Rattle.hh_rows.specs.declared.rows.UnitRegistration.{UnitRegistration}
use Rattle.hh_rules.specs.History.{Registered}
use Rattle.hh_sqlrows.specs.declared.unit_date.UnitDate.{UnitDate}
use Rattle.hh_sqlparts.specs.steps.Named.{entry_under, prices_of, readings_of, reallocations_of}

-- the ids of the units that are effective on a date
abbrev pub ids_on : ℕ → Table (List ℕ) UnitRegistration → List (List ℕ)
ids_on date units = map (λ e. e.0) (filter (λ e. holds e.1.range date) units)

-- a unit on a date
abbrev pub on_date : ℕ → List ℕ → UnitDate
on_date date unit = record { unit = unit; date = date }

-- the references of contracts; if neighbours have the same reference, it is listed once
abbrev pub references_in : Table ContractKey ℤ → List (List ℕ)
references_in contracts = dedup bytes_eq (map (λ e. e.0.reference) contracts)

-- ---- the part that is read, table by table

-- the contracts of a date
abbrev pub contracts_on : ℕ → Registered → Table ContractKey ℤ
contracts_on date whole = filter (λ e. is_eq (nat_cmp e.0.at.date date)) whole.contracts

-- the part with the contracts of a date, and the sellers and buyers of their references
abbrev pub with_day_contracts : ℕ → Registered → Registered → Registered
with_day_contracts date whole part = record part {
  contracts = contracts_on date whole;
  references = flat_map (entry_under bytes_cmp whole.references) (references_in (contracts_on date whole));
}

-- the part with all parties, units and registrations of units, and the prices of a date
abbrev pub with_registered : ℕ → Registered → Registered → Registered
with_registered date whole part = record part {
  parties = whole.parties;
  units = whole.units;
  leads = whole.leads;
  prices = prices_of whole.prices date;
}

-- the part with the readings of a date and the reallocations, of the units that are effective on it
abbrev pub with_rows_of_units : ℕ → Registered → Registered → Registered
with_rows_of_units date whole part = record part {
  meters = flat_map (readings_of whole.meters) (map (on_date date) (ids_on date part.units));
  reallocations = flat_map (reallocations_of whole.reallocations) (ids_on date part.units);
}
