-- The tables of an office, as they are in its database.
use Rattle.std.specs.Prelude.{ℕ, ℤ, Bool, List}
use Rattle.std.specs.Ordering.{is_eq, nat_cmp, on, then_cmp}
use Rattle.std.specs.declared.cmp.Ordering.{Ordering}
use Rattle.hh_num.specs.Quantities.{amounts_of_cash, energies, prices as price_range, volumes}
use Rattle.hh_names.specs.declared.values.Counterparties.{Counterparties}
use Rattle.hh_names.specs.declared.values.Reading.{Reading}
use Rattle.hh_names.specs.declared.values.Reallocation.{Reallocation}
use Rattle.hh_names.specs.Accounts.{bytes_cmp}
use Rattle.hh_rows.specs.declared.keys.ContractKey.{ContractKey}
use Rattle.hh_rows.specs.declared.keys.LeadKey.{LeadKey}
use Rattle.hh_rows.specs.declared.keys.ReallocationKey.{ReallocationKey}
use Rattle.hh_rows.specs.declared.keys.UnitPeriod.{UnitPeriod}
use Rattle.hh_rows.specs.declared.rows.LeadTerm.{LeadTerm}
use Rattle.hh_rows.specs.declared.rows.PartyRegistration.{PartyRegistration}
use Rattle.hh_rows.specs.declared.rows.UnitRegistration.{UnitRegistration}
use Rattle.hh_rows.specs.declared.settings.Settings.{Settings}
use Rattle.hh_rows.specs.declared.settlement_period.SettlementPeriod.{SettlementPeriod}
use Rattle.hh_rows.specs.Keys.{contract_key_cmp, lead_key_cmp, reallocation_key_cmp, settlement_period_cmp, unit_period_cmp}
use Rattle.hh_keyed_rows.specs.Positions.{position_key_cmp}
use Rattle.hh_keyed_rows.specs.positions.Position.{Position}
use Rattle.hh_keyed_rows.specs.positions.PositionKey.{PositionKey}
use Rattle.hh_reports.specs.result.AccountRow.{AccountRow}
use Rattle.hh_runs.specs.declared.run_key.RunKey.{RunKey}
use Rattle.hh_runs.specs.declared.summary.Summary.{Summary}
use Rattle.hh_keyed_rows.specs.file_key.FileKey.{FileKey}
use Rattle.hh_keyed_rows.specs.run_keys.CreditKey.{CreditKey}
use Rattle.hh_keyed_rows.specs.run_keys.PostingKey.{PostingKey}
use Rattle.hh_keyed_rows.specs.run_keys.ResultKey.{ResultKey}
use Rattle.hh_keyed_rows.specs.Content.{credit_key_cmp, posting_key_cmp, result_key_cmp}
use Rattle.hh_keyed_rows.specs.Runs.{run_key_cmp}
use Rattle.hh_keyed_rows.specs.States.{KeptFileView, file_key_cmp}
use Rattle.hh_keyed_rows.specs.declared.amounts.AccountAmounts.{AccountAmounts}
use Rattle.hh_keyed_rows.specs.declared.no_columns.NoColumns.{NoColumns}
use Rattle.hh_keyed_rows.specs.declared.one_row.OneRow.{OneRow}
use Rattle.hh_keyed_rows.specs.Fields.{counterparties_columns, mark_column, party_column, quantity_column, reference_column, settlement_period_columns, unit_column}
use Rattle.hh_keyed_rows.specs.Keys.{contract_key_columns, credit_key_columns, file_key_columns, lead_key_columns, one_row_column, position_key_columns, posting_key_columns, reallocation_key_columns, result_key_columns, run_key_columns, unit_period_columns}
use Rattle.hh_keyed_rows.specs.Values.{amounts_columns, amounts_of, file_columns, lead_term_columns, no_columns, party_columns, position_columns, reading_columns, reallocation_columns, settings_columns, summary_columns, unit_columns}
use Rattle.hh_sqlrows.specs.Forms.{TableForm}
use Rattle.hh_sqlrows.specs.OfficeSchema.{contracts_table, credits_table, files_table, leads_table, marks_table, meters_table, parties_table, positions_table, postings_table, prices_table, reallocations_table, refs_table, results_table, runs_table, settings_table, touched_table, units_table}

-- the key of a table that has one row
abbrev pub one_row_cmp : OneRow → OneRow → Ordering
one_row_cmp = on (λ _. 0) nat_cmp

abbrev pub settings : TableForm OneRow Settings
settings = record { at = 0; table = settings_table; order = one_row_cmp; key = one_row_column; value = settings_columns }

-- ---- what is registered and in force

abbrev pub parties : TableForm (List ℕ) PartyRegistration
parties = record { at = 1; table = parties_table; order = bytes_cmp; key = party_column; value = party_columns }

abbrev pub units : TableForm (List ℕ) UnitRegistration
units = record { at = 2; table = units_table; order = bytes_cmp; key = unit_column; value = unit_columns }

abbrev pub leads : TableForm LeadKey LeadTerm
leads = record { at = 16; table = leads_table; order = lead_key_cmp; key = lead_key_columns; value = lead_term_columns }

abbrev pub meters : TableForm UnitPeriod Reading
meters = record { at = 3; table = meters_table; order = unit_period_cmp; key = unit_period_columns; value = reading_columns }

abbrev pub period_prices : TableForm SettlementPeriod ℤ
period_prices = record { at = 4; table = prices_table; order = settlement_period_cmp; key = settlement_period_columns; value = quantity_column price_range }

abbrev pub references : TableForm (List ℕ) Counterparties
references = record { at = 5; table = refs_table; order = bytes_cmp; key = reference_column; value = counterparties_columns }

abbrev pub contracts : TableForm ContractKey ℤ
contracts = record { at = 6; table = contracts_table; order = contract_key_cmp; key = contract_key_columns; value = quantity_column volumes }

abbrev pub reallocations : TableForm ReallocationKey Reallocation
reallocations = record { at = 7; table = reallocations_table; order = reallocation_key_cmp; key = reallocation_key_columns; value = reallocation_columns }

-- ---- the accepted files, and the runs

abbrev pub files : TableForm FileKey KeptFileView
files = record { at = 8; table = files_table; order = file_key_cmp; key = file_key_columns; value = file_columns }

abbrev pub runs : TableForm RunKey Summary
runs = record { at = 9; table = runs_table; order = run_key_cmp; key = run_key_columns; value = summary_columns }

-- an account's row of a run as it is stored under its key, which has the account
abbrev pub amount_entry : ResultKey × AccountRow → ResultKey × AccountAmounts
amount_entry e = (e.0, amounts_of e.1)

abbrev pub results : TableForm ResultKey AccountAmounts
results = record { at = 10; table = results_table; order = result_key_cmp; key = result_key_columns; value = amounts_columns }

abbrev pub credits : TableForm CreditKey ℤ
credits = record { at = 11; table = credits_table; order = credit_key_cmp; key = credit_key_columns; value = quantity_column energies }

abbrev pub postings : TableForm PostingKey ℤ
postings = record { at = 12; table = postings_table; order = posting_key_cmp; key = posting_key_columns; value = quantity_column amounts_of_cash }

-- ---- beside the content: positions of accounts, Settlement Periods that a change touched, and whether positions are kept

abbrev pub positions : TableForm PositionKey Position
positions = record { at = 13; table = positions_table; order = position_key_cmp; key = position_key_columns; value = position_columns }

abbrev pub touched : TableForm SettlementPeriod NoColumns
touched = record { at = 14; table = touched_table; order = settlement_period_cmp; key = settlement_period_columns; value = no_columns }

abbrev pub marks : TableForm OneRow Bool
marks = record { at = 15; table = marks_table; order = one_row_cmp; key = one_row_column; value = mark_column }

-- ---- rows of a unit on a date

abbrev pub unit_date_cmp : List ℕ × ℕ → List ℕ × ℕ → Ordering
unit_date_cmp = then_cmp (on (λ p. p.0) bytes_cmp) (on (λ p. p.1) nat_cmp)

-- the key is of this unit and this date
abbrev pub is_of_unit_on : List ℕ → ℕ → UnitPeriod → Bool
is_of_unit_on unit date key = is_eq (unit_date_cmp (key.unit, key.at.date) (unit, date))
