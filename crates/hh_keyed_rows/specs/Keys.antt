-- The columns of the keys of tables, in the order in which the tables have them.
use Rattle.hh_rows.specs.declared.keys.ContractKey.{ContractKey}
use Rattle.hh_rows.specs.declared.keys.LeadKey.{LeadKey}
use Rattle.hh_rows.specs.declared.keys.ReallocationKey.{ReallocationKey}
use Rattle.hh_rows.specs.declared.keys.UnitPeriod.{UnitPeriod}
use Rattle.hh_store.specs.positions.PositionKey.{PositionKey}
use Rattle.hh_runs.specs.declared.run_key.RunKey.{RunKey}
use Rattle.hh_store.specs.file_key.FileKey.{FileKey}
use Rattle.hh_store.specs.run_keys.CreditKey.{CreditKey}
use Rattle.hh_store.specs.run_keys.PostingKey.{PostingKey}
use Rattle.hh_store.specs.run_keys.ResultKey.{ResultKey}
use Rattle.hh_keyed_rows.specs.declared.one_row.OneRow.{OneRow}
use Rattle.hh_keyed_rows.specs.Codecs.{Codec, both, via}
use Rattle.hh_keyed_rows.specs.Fields.{account_columns, date_column, file_kind_column, file_name_column, only_number, period_column, reference_column, run_kind_column, settlement_period_columns, unit_column}

-- 1
abbrev pub one_row_column : Codec OneRow
one_row_column = via (λ _. record {}) (λ _. tt) (only_number 1)

-- unit, date, period
abbrev pub unit_period_columns : Codec UnitPeriod
unit_period_columns = via (λ p. record { unit = p.0; at = p.1 }) (λ k. (k.unit, k.at)) (both unit_column settlement_period_columns)

-- unit, first date
abbrev pub lead_key_columns : Codec LeadKey
lead_key_columns = via (λ p. record { unit = p.0; from = p.1 }) (λ k. (k.unit, k.from)) (both unit_column date_column)

-- reference, date, period
abbrev pub contract_key_columns : Codec ContractKey
contract_key_columns =
    via (λ p. record { reference = p.0; at = p.1 }) (λ k. (k.reference, k.at)) (both reference_column settlement_period_columns)

-- unit, party, side, date, period
abbrev pub reallocation_key_columns : Codec ReallocationKey
reallocation_key_columns =
    via (λ p. record { unit_period = record { unit = p.0; at = p.1.1 }; account = p.1.0 }) (λ k. (k.unit_period.unit, (k.account, k.unit_period.at)))
    (both unit_column (both account_columns settlement_period_columns))

-- kind, name
abbrev pub file_key_columns : Codec FileKey
file_key_columns = via (λ p. record { kind = p.0; name = p.1 }) (λ k. (k.kind, k.name)) (both file_kind_column file_name_column)

-- date, kind
abbrev pub run_key_columns : Codec RunKey
run_key_columns = via (λ p. record { date = p.0; kind = p.1 }) (λ k. (k.date, k.kind)) (both date_column run_kind_column)

-- date, kind, period, party, side
abbrev pub result_key_columns : Codec ResultKey
result_key_columns =
    via (λ p. record { run = p.0; period = p.1.0; account = p.1.1 }) (λ k. (k.run, (k.period, k.account)))
    (both run_key_columns (both period_column account_columns))

-- date, kind, period, unit, party, side
abbrev pub credit_key_columns : Codec CreditKey
credit_key_columns =
    via (λ p. record { run = p.0; period = p.1.0; unit = p.1.1.0; account = p.1.1.1 }) (λ k. (k.run, (k.period, (k.unit, k.account))))
    (both run_key_columns (both period_column (both unit_column account_columns)))

-- date, kind, party, side
abbrev pub posting_key_columns : Codec PostingKey
posting_key_columns = via (λ p. record { run = p.0; account = p.1 }) (λ k. (k.run, k.account)) (both run_key_columns account_columns)

-- date, period, party, side
abbrev pub position_key_columns : Codec PositionKey
position_key_columns = via (λ p. record { at = p.0; account = p.1 }) (λ k. (k.at, k.account)) (both settlement_period_columns account_columns)
