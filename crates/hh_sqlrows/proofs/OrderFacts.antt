-- The columns by which the rows of a table are ordered have the order of its keys.
use Rattle.std.proofs.Common.{[], ◌∷◌, refl}
use Rattle.hh_keyed_rows.specs.Fields.{party_column, reference_column, settlement_period_columns, unit_column}
use Rattle.hh_keyed_rows.specs.Keys.{contract_key_columns, credit_key_columns, file_key_columns, lead_key_columns, one_row_column, position_key_columns, posting_key_columns, result_key_columns, run_key_columns, unit_period_columns}
use Rattle.hh_keyed_rows.proofs.FieldLaws.{settlement_period_codec}
use Rattle.hh_keyed_rows.proofs.KeyCodecs.{contract_key_codec, credit_key_codec, file_key_codec, lead_key_codec, one_row_codec, party_codec, position_key_codec, posting_key_codec, reference_codec, result_key_codec, run_key_codec, unit_codec, unit_period_codec}
use Rattle.hh_sqlrows.specs.OfficeTables.{contracts, credits, files, leads, marks, meters, parties, period_prices, positions, postings, reallocations, references, results, runs, settings, touched, units}
use Rattle.hh_sqlrows.proofs.ColumnLaws.{contract_key_ordered, credit_key_ordered, file_key_ordered, lead_key_ordered, one_row_ordered, position_key_ordered, posting_key_ordered, reallocation_order, reallocation_order_codec, reallocation_ordered, result_key_ordered, run_key_ordered, settlement_period_ordered, text_ordered, unit_period_ordered}
use Rattle.hh_sqltables.specs.Texts.{IsOrderBy}

pub settings_by : IsOrderBy settings (1 ∷ [])
settings_by = record { codec = one_row_column; is_codec = one_row_codec; ordered = one_row_ordered; wide = refl; stand = λ id k v. refl; most = 3; some = refl }

pub marks_by : IsOrderBy marks (1 ∷ [])
marks_by = record { codec = one_row_column; is_codec = one_row_codec; ordered = one_row_ordered; wide = refl; stand = λ id k v. refl; most = 1; some = refl }

pub parties_by : IsOrderBy parties (1 ∷ [])
parties_by = record { codec = party_column; is_codec = party_codec; ordered = text_ordered; wide = refl; stand = λ id k v. refl; most = 3; some = refl }

pub units_by : IsOrderBy units (1 ∷ [])
units_by = record { codec = unit_column; is_codec = unit_codec; ordered = text_ordered; wide = refl; stand = λ id k v. refl; most = 5; some = refl }

pub leads_by : IsOrderBy leads (1 ∷ 2 ∷ [])
leads_by = record { codec = lead_key_columns; is_codec = lead_key_codec; ordered = lead_key_ordered; wide = refl; stand = λ id k v. refl; most = 4; some = refl }

pub meters_by : IsOrderBy meters (1 ∷ 2 ∷ 3 ∷ [])
meters_by = record { codec = unit_period_columns; is_codec = unit_period_codec; ordered = unit_period_ordered; wide = refl; stand = λ id k v. refl; most = 5; some = refl }

pub prices_by : IsOrderBy period_prices (1 ∷ 2 ∷ [])
prices_by = record { codec = settlement_period_columns; is_codec = settlement_period_codec; ordered = settlement_period_ordered; wide = refl; stand = λ id k v. refl; most = 2; some = refl }

pub references_by : IsOrderBy references (1 ∷ [])
references_by = record { codec = reference_column; is_codec = reference_codec; ordered = text_ordered; wide = refl; stand = λ id k v. refl; most = 4; some = refl }

pub contracts_by : IsOrderBy contracts (1 ∷ 2 ∷ 3 ∷ [])
contracts_by = record { codec = contract_key_columns; is_codec = contract_key_codec; ordered = contract_key_ordered; wide = refl; stand = λ id k v. refl; most = 3; some = refl }

pub reallocations_by : IsOrderBy reallocations (1 ∷ 4 ∷ 5 ∷ 2 ∷ 3 ∷ [])
reallocations_by = record { codec = reallocation_order; is_codec = reallocation_order_codec; ordered = reallocation_ordered; wide = refl; stand = λ id k v. refl; most = 6; some = refl }

pub files_by : IsOrderBy files (1 ∷ 2 ∷ [])
files_by = record { codec = file_key_columns; is_codec = file_key_codec; ordered = file_key_ordered; wide = refl; stand = λ id k v. refl; most = 4; some = refl }

pub runs_by : IsOrderBy runs (1 ∷ 2 ∷ [])
runs_by = record { codec = run_key_columns; is_codec = run_key_codec; ordered = run_key_ordered; wide = refl; stand = λ id k v. refl; most = 5; some = refl }

pub results_by : IsOrderBy results (1 ∷ 2 ∷ 3 ∷ 4 ∷ 5 ∷ [])
results_by = record { codec = result_key_columns; is_codec = result_key_codec; ordered = result_key_ordered; wide = refl; stand = λ id k v. refl; most = 10; some = refl }

pub postings_by : IsOrderBy postings (1 ∷ 2 ∷ 3 ∷ 4 ∷ [])
postings_by = record { codec = posting_key_columns; is_codec = posting_key_codec; ordered = posting_key_ordered; wide = refl; stand = λ id k v. refl; most = 4; some = refl }

pub credits_by : IsOrderBy credits (1 ∷ 2 ∷ 3 ∷ 4 ∷ 5 ∷ 6 ∷ [])
credits_by = record { codec = credit_key_columns; is_codec = credit_key_codec; ordered = credit_key_ordered; wide = refl; stand = λ id k v. refl; most = 6; some = refl }

pub positions_by : IsOrderBy positions (1 ∷ 2 ∷ 3 ∷ 4 ∷ [])
positions_by = record { codec = position_key_columns; is_codec = position_key_codec; ordered = position_key_ordered; wide = refl; stand = λ id k v. refl; most = 5; some = refl }

pub touched_by : IsOrderBy touched (1 ∷ 2 ∷ [])
touched_by = record { codec = settlement_period_columns; is_codec = settlement_period_codec; ordered = settlement_period_ordered; wide = refl; stand = λ id k v. refl; most = 1; some = refl }
