-- The two files from which one Settlement Period is settled: their headers, rows and meaning.
use Rattle.std.specs.Prelude.{ℕ, List, [], ◌∷◌, Result, Ok, codes}
use Rattle.hh_names.specs.declared.fault.Fault.{Fault}
use Rattle.hh_names.specs.Accounts.{account_value}
use Rattle.hh_num.specs.Quantities.{multiplier_value, volume_value}
use Rattle.hh_names.specs.Words.{unit_value, reference_value}
use Rattle.hh_texts.specs.declared.period_meters.PeriodMeterRow.{PeriodMeterRow}
use Rattle.hh_texts.specs.declared.period_contracts.PeriodContractRow.{PeriodContractRow}
use Rattle.hh_texts.specs.Fields.{column, ◌>>=◌}
use Rattle.hh_texts.specs.Rows.{FileForm, rows_of}

-- the columns of a file of meter volumes
abbrev pub period_meter_header : List (List ℕ)
period_meter_header = codes "unit" ∷ codes "account" ∷ codes "metered_mwh" ∷ codes "tlm" ∷ codes "balancing_mwh" ∷ []

-- the row that a record of meter volumes reads as, or the first column that cannot be read
unfoldable pub period_meter_row : List (List ℕ) → Result PeriodMeterRow ℕ
period_meter_row fields = do
  unit ← column fields 1 unit_value
  account ← column fields 2 account_value
  metered ← column fields 3 volume_value
  tlm ← column fields 4 multiplier_value
  balancing ← column fields 5 volume_value
  Ok (record { unit = unit; lead = account; reading = record { metered = metered; tlm = tlm; balancing = balancing } })

-- the form of a file of meter volumes
abbrev pub period_meter_form : FileForm PeriodMeterRow
period_meter_form = record { header = period_meter_header; row = period_meter_row }

-- the rows of a file of meter volumes, or the first fault in it
abbrev pub period_meter_rows : List ℕ → Result (List PeriodMeterRow) Fault
period_meter_rows = rows_of (period_meter_form ∷ [])

-- the columns of a file of contract volumes
abbrev pub period_contract_header : List (List ℕ)
period_contract_header = codes "reference" ∷ codes "seller" ∷ codes "buyer" ∷ codes "mwh" ∷ []

-- the row that a record of contract volumes reads as, or the first column that cannot be read
unfoldable pub period_contract_row : List (List ℕ) → Result PeriodContractRow ℕ
period_contract_row fields = do
  reference ← column fields 1 reference_value
  seller ← column fields 2 account_value
  buyer ← column fields 3 account_value
  volume ← column fields 4 volume_value
  Ok (record { reference = reference; contract = record { counterparties = record { seller = seller; buyer = buyer }; volume = volume } })

-- the form of a file of contract volumes
abbrev pub period_contract_form : FileForm PeriodContractRow
period_contract_form = record { header = period_contract_header; row = period_contract_row }

-- the rows of a file of contract volumes, or the first fault in it
abbrev pub period_contract_rows : List ℕ → Result (List PeriodContractRow) Fault
period_contract_rows = rows_of (period_contract_form ∷ [])
