-- The kind of a row, the rows that a file of a kind can have, and the greatest size of a file.
use Rattle.std.specs.Prelude.{◌≡◌, ℕ, ◌≤◌, List, length, IsTrue}
use Rattle.std.specs.List.{AllByRecursion}
use Rattle.hh_names.specs.Quantities.{prices, volumes}
use Rattle.hh_names.specs.Words.{is_party_id, is_unit_id}
use Rattle.hh_rows.specs.declared.file_kind.FileKind.{FileKind}
use Rattle.hh_rows.specs.declared.file_kind.FileKind.TheVariants as kind
use Rattle.hh_rows.specs.declared.rows.ContractRow.{ContractRow}
use Rattle.hh_rows.specs.declared.rows.MeterRow.{MeterRow}
use Rattle.hh_rows.specs.declared.rows.PartyRow.{PartyRow}
use Rattle.hh_rows.specs.declared.rows.PriceRow.{PriceRow}
use Rattle.hh_rows.specs.declared.rows.ReallocationRow.{ReallocationRow}
use Rattle.hh_rows.specs.declared.rows.Row.{Row}
use Rattle.hh_rows.specs.declared.rows.Row.TheVariants as row
use Rattle.hh_rows.specs.declared.rows.UnitRow.{UnitRow}
use Rattle.hh_rows.specs.Values.{AreCounterparties, IsContractKey, IsPartyRegistration, IsPeriod, IsMeterReading, IsReallocation, IsReallocationKey, IsUnitPeriod, IsUnitRegistration, IsQuantity}

-- the most bytes of a file
abbrev pub most_bytes : ℕ
most_bytes = 1_048_576

-- the most rows of a file, without its header
abbrev pub most_rows : ℕ
most_rows = 20_000

-- the kind of file that a row belongs to
abbrev pub row_kind : Row → FileKind
row_kind (row.Party r) = kind.Parties
row_kind (row.Unit r) = kind.Units
row_kind (row.Meter r) = kind.Meters
row_kind (row.Price r) = kind.Prices
row_kind (row.Contract r) = kind.Contracts
row_kind (row.Reallocation r) = kind.Reallocations

-- each field of a row is in its grammar and within its range
pub record IsPartyRow (r : PartyRow) : Type 0 where
  pub party : IsTrue (is_party_id r.party)
  pub registration : IsPartyRegistration r.registration

pub record IsUnitRow (r : UnitRow) : Type 0 where
  pub unit : IsTrue (is_unit_id r.unit)
  pub registration : IsUnitRegistration r.registration

pub record IsMeterRow (r : MeterRow) : Type 0 where
  pub key : IsUnitPeriod r.key
  pub reading : IsMeterReading r.reading

pub record IsPriceRow (r : PriceRow) : Type 0 where
  pub at : IsPeriod r.at
  pub price : IsQuantity prices r.price

pub record IsContractRow (r : ContractRow) : Type 0 where
  pub key : IsContractKey r.key
  pub counterparties : AreCounterparties r.contract.counterparties
  pub volume : IsQuantity volumes r.contract.volume

pub record IsReallocationRow (r : ReallocationRow) : Type 0 where
  pub key : IsReallocationKey r.key
  pub reallocation : IsReallocation r.reallocation

-- the same for a row of any kind
abbrev pub IsRow : Row → Type 0
IsRow (row.Party r) = IsPartyRow r
IsRow (row.Unit r) = IsUnitRow r
IsRow (row.Meter r) = IsMeterRow r
IsRow (row.Price r) = IsPriceRow r
IsRow (row.Contract r) = IsContractRow r
IsRow (row.Reallocation r) = IsReallocationRow r

-- a row of a file of a kind
pub record IsRowOf (k : FileKind) (r : Row) : Type 0 where
  pub of_kind : row_kind r ≡ k
  pub valued : IsRow r

-- A file of a kind with these bytes can have these rows: the rows are of the kind, and neither the bytes nor the rows are more
-- than a file may have.
pub record IsFileOf (k : FileKind) (body : List ℕ) (rows : List Row) : Type 0 where
  pub small : length body ≤ most_bytes
  pub few : length rows ≤ most_rows
  pub each : AllByRecursion (IsRowOf k) rows
