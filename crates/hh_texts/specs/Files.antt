-- The six kinds of file: their headers, rows and meaning.
use Rattle.std.specs.Prelude.{ℕ, List, [], ◌∷◌, Result, Ok, codes}
use Rattle.hh_time.specs.DateText.{date_value}
use Rattle.hh_names.specs.declared.fault.Fault.{Fault}
use Rattle.hh_names.specs.Accounts.{account_value, side_value}
use Rattle.hh_num.specs.Quantities.{multiplier_value, percent_value, price_value, volume_value}
use Rattle.hh_names.specs.Fields.{period_value, yes_no_value}
use Rattle.hh_names.specs.Words.{access_key_value, party_value, reference_value, unit_value}
use Rattle.hh_rows.specs.DateRanges.{range_to_value}
use Rattle.hh_rows.specs.declared.file_kind.FileKind.{FileKind}
use Rattle.hh_rows.specs.declared.file_kind.FileKind.TheVariants as kind
use Rattle.hh_rows.specs.declared.rows.Row.{Row}
use Rattle.hh_rows.specs.declared.rows.Row.TheVariants as row
use Rattle.hh_texts.specs.Fields.{column, ◌>>=◌}
use Rattle.hh_texts.specs.Rows.{FileForm, rows_of}

-- the row that a record of parties reads as, or the first column that cannot be read
unfoldable pub party_row : List (List ℕ) → Result Row ℕ
party_row fields = do
  party ← column fields 1 party_value
  from ← column fields 2 date_value
  range ← column fields 3 (range_to_value from)
  key ← column fields 4 access_key_value
  Ok (row.Party (record { party = party; registration = record { range = range; key = key } }))

-- the row that a record of units reads as
unfoldable pub unit_row : List (List ℕ) → Result Row ℕ
unit_row fields = do
  unit ← column fields 1 unit_value
  party ← column fields 2 party_value
  side ← column fields 3 side_value
  interconnector ← column fields 4 yes_no_value
  from ← column fields 5 date_value
  range ← column fields 6 (range_to_value from)
  Ok (row.Unit (record { unit = unit; registration = record { lead = record { party = party; side = side }; interconnector = interconnector; range = range } }))

-- the row that a record of meter volumes reads as
unfoldable pub meter_row : List (List ℕ) → Result Row ℕ
meter_row fields = do
  unit ← column fields 1 unit_value
  date ← column fields 2 date_value
  period ← column fields 3 period_value
  metered ← column fields 4 volume_value
  tlm ← column fields 5 multiplier_value
  balancing ← column fields 6 volume_value
  Ok (row.Meter (record { key = record { unit = unit; at = record { date = date; period = period } }; reading = record { metered = metered; tlm = tlm; balancing = balancing } }))

-- the row that a record of prices reads as
unfoldable pub price_row : List (List ℕ) → Result Row ℕ
price_row fields = do
  date ← column fields 1 date_value
  period ← column fields 2 period_value
  price ← column fields 3 price_value
  Ok (row.Price (record { at = record { date = date; period = period }; price = price }))

-- the row that a record of contracts reads as
unfoldable pub contract_row : List (List ℕ) → Result Row ℕ
contract_row fields = do
  reference ← column fields 1 reference_value
  seller ← column fields 2 account_value
  buyer ← column fields 3 account_value
  date ← column fields 4 date_value
  period ← column fields 5 period_value
  volume ← column fields 6 volume_value
  Ok (row.Contract (record { key = record { reference = reference; at = record { date = date; period = period } }; contract = record { counterparties = record { seller = seller; buyer = buyer }; volume = volume } }))

-- the row that a record of reallocations reads as
unfoldable pub reallocation_row : List (List ℕ) → Result Row ℕ
reallocation_row fields = do
  unit ← column fields 1 unit_value
  account ← column fields 2 account_value
  date ← column fields 3 date_value
  period ← column fields 4 period_value
  percent ← column fields 5 percent_value
  fixed ← column fields 6 volume_value
  Ok (row.Reallocation (record { key = record { unit_period = record { unit = unit; at = record { date = date; period = period } }; account = account }; reallocation = record { percent = percent; fixed = fixed } }))

-- the form of a file of parties
abbrev pub party_form : FileForm Row
party_form = record { header = codes "party" ∷ codes "from" ∷ codes "to" ∷ codes "key" ∷ []; row = party_row }

-- the form of a file of units
abbrev pub unit_form : FileForm Row
unit_form = record { header = codes "unit" ∷ codes "party" ∷ codes "side" ∷ codes "interconnector" ∷ codes "from" ∷ codes "to" ∷ []; row = unit_row }

-- the form of a file of meter volumes
abbrev pub meter_form : FileForm Row
meter_form = record { header = codes "unit" ∷ codes "date" ∷ codes "period" ∷ codes "metered_mwh" ∷ codes "tlm" ∷ codes "balancing_mwh" ∷ []; row = meter_row }

-- the form of a file of prices
abbrev pub price_form : FileForm Row
price_form = record { header = codes "date" ∷ codes "period" ∷ codes "price" ∷ []; row = price_row }

-- the form of a file of contracts
abbrev pub contract_form : FileForm Row
contract_form = record { header = codes "reference" ∷ codes "seller" ∷ codes "buyer" ∷ codes "date" ∷ codes "period" ∷ codes "mwh" ∷ []; row = contract_row }

-- the form of a file of reallocations
abbrev pub reallocation_form : FileForm Row
reallocation_form = record { header = codes "unit" ∷ codes "account" ∷ codes "date" ∷ codes "period" ∷ codes "percent" ∷ codes "fixed_mwh" ∷ []; row = reallocation_row }

-- the forms that a file of a kind may have, told apart by their headers: each kind has one
abbrev pub kind_forms : FileKind → List (FileForm Row)
kind_forms kind.Parties = party_form ∷ []
kind_forms kind.Units = unit_form ∷ []
kind_forms kind.Meters = meter_form ∷ []
kind_forms kind.Prices = price_form ∷ []
kind_forms kind.Contracts = contract_form ∷ []
kind_forms kind.Reallocations = reallocation_form ∷ []

-- the rows of a file of a kind, or the first fault in it
abbrev pub file_rows : FileKind → List ℕ → Result (List Row) Fault
file_rows kind = rows_of (kind_forms kind)
