-- The columns of the values of tables, in the order in which the tables have them after their keys.
use Rattle.std.specs.Prelude.{ℕ, ℤ, pos, zero, [], Bool, true, false, Option, Some, None}
use Rattle.hh_num.specs.Quantities.{amounts_of_cash, energies, multipliers, net_volumes, percentages, volumes}
use Rattle.hh_names.specs.declared.account.Account.{Account}
use Rattle.hh_names.specs.declared.values.Reading.{Reading}
use Rattle.hh_names.specs.declared.values.Reallocation.{Reallocation}
use Rattle.hh_rows.specs.declared.rows.LeadTerm.{LeadTerm}
use Rattle.hh_rows.specs.declared.rows.PartyRegistration.{PartyRegistration}
use Rattle.hh_rows.specs.declared.rows.UnitRegistration.{UnitRegistration}
use Rattle.hh_rows.specs.declared.settings.Settings.{Settings}
use Rattle.hh_store.specs.positions.Position.{Position}
use Rattle.hh_store.specs.positions.Position.TheVariants.{Known, Lost}
use Rattle.hh_store.specs.result.AccountRow.{AccountRow}
use Rattle.hh_runs.specs.declared.summary.Summary.{Summary}
use Rattle.hh_store.specs.States.{KeptFileView}
use Rattle.hh_keyed_rows.specs.declared.amounts.AccountAmounts.{AccountAmounts}
use Rattle.hh_keyed_rows.specs.declared.no_columns.NoColumns.{NoColumns}
use Rattle.hh_keyed_rows.specs.Codecs.{Codec, blob_column, both, coded, via}
use Rattle.hh_keyed_rows.specs.Fields.{access_key_column, account_columns, date_column, lead_minutes_column, mark_column, number_column, only_number, operator_key_column, quantity_column, range_columns}

-- the greatest numbers of 8, 16 and 32 bits
abbrev pub most_of_8_bits : ℕ
most_of_8_bits = 255

abbrev pub most_of_16_bits : ℕ
most_of_16_bits = 65_535

abbrev pub most_of_32_bits : ℕ
most_of_32_bits = 4_294_967_295

-- first date, last date, access key
abbrev pub party_columns : Codec PartyRegistration
party_columns = via (λ p. record { range = p.0; key = p.1 }) (λ r. (r.range, r.key)) (both range_columns access_key_column)

-- party and side of the lead account, whether it is an interconnector, first date, last date
abbrev pub unit_columns : Codec UnitRegistration
unit_columns =
    via (λ p. record { lead = p.0; interconnector = p.1.0; range = p.1.1 }) (λ r. (r.lead, (r.interconnector, r.range)))
    (both account_columns (both mark_column range_columns))

-- party and side of the lead account, last date
abbrev pub lead_term_columns : Codec LeadTerm
lead_term_columns = via (λ p. record { lead = p.0; to = p.1 }) (λ t. (t.lead, t.to)) (both account_columns date_column)

-- metered volume, loss multiplier, balancing volume
abbrev pub reading_columns : Codec Reading
reading_columns =
    via (λ p. record { metered = p.0; tlm = p.1.0; balancing = p.1.1 }) (λ r. (r.metered, (r.tlm, r.balancing)))
    (both (quantity_column volumes) (both (quantity_column multipliers) (quantity_column volumes)))

-- percentage, fixed volume
abbrev pub reallocation_columns : Codec Reallocation
reallocation_columns =
    via (λ p. record { percent = p.0; fixed = p.1 }) (λ r. (r.percent, r.fixed)) (both (quantity_column percentages) (quantity_column volumes))

-- bytes, rows that were applied, rows that came late
abbrev pub file_columns : Codec KeptFileView
file_columns =
    via (λ p. record { body = p.0; applied = p.1.0; late = p.1.1 }) (λ f. (f.body, (f.applied, f.late)))
    (both blob_column (both (number_column most_of_32_bits) (number_column most_of_32_bits)))

-- Settlement Periods, accounts, residual, postings
abbrev pub summary_columns : Codec Summary
summary_columns =
    via (λ p. record { periods = p.0; accounts = p.1.0; residual = p.1.1.0; postings = p.1.1.1 }) (λ s. (s.periods, (s.accounts, (s.residual, s.postings))))
    (both (number_column most_of_8_bits) (both (number_column most_of_16_bits) (both (quantity_column amounts_of_cash) (number_column most_of_16_bits))))

-- energy credited, balancing energy, energy of contracts, imbalance, charge, share
abbrev pub amounts_columns : Codec AccountAmounts
amounts_columns =
    via (λ p. record { credited = p.0; balancing = p.1.0; contracts = p.1.1.0; imbalance = p.1.1.1.0; charge = p.1.1.1.1.0; share = p.1.1.1.1.1 })
    (λ a. (a.credited, (a.balancing, (a.contracts, (a.imbalance, (a.charge, a.share))))))
    (both (quantity_column energies) (both (quantity_column energies) (both (quantity_column energies)
    (both (quantity_column energies) (both (quantity_column amounts_of_cash) (quantity_column amounts_of_cash))))))

-- the net volume of a position, and whether it is lost; if it is lost, the volume is written as 0
abbrev pub position_numbers : Position → ℤ × Bool
position_numbers (Known net) = (net, false)
position_numbers Lost = (pos 0, true)

-- the position with a net volume, which may be lost
abbrev pub position_from : Bool → ℤ → Option Position
position_from false net = Some (Known net)
position_from true (pos zero) = Some Lost
position_from true net = None

-- net volume, whether it is lost
abbrev pub position_columns : Codec Position
position_columns = coded position_numbers (λ p. position_from p.1 p.0) (both (quantity_column net_volumes) mark_column)

-- no column: the value in a table whose rows have only their keys
abbrev pub no_columns : Codec NoColumns
no_columns = record { width = 0; fits = λ _. true; write = λ _. []; read = λ row. Some (record {}, row) }

-- the version of the tables
abbrev pub version : ℕ
version = 2

-- the number of a version, lead minutes, the operator's key
abbrev pub settings_columns_of : ℕ → Codec Settings
settings_columns_of number =
    via (λ p. record { lead_minutes = p.1.0; operator_key = p.1.1 }) (λ s. (tt, (s.lead_minutes, s.operator_key)))
    (both (only_number number) (both lead_minutes_column operator_key_column))

-- those of the present version
abbrev pub settings_columns : Codec Settings
settings_columns = settings_columns_of version

-- the amounts of an account's row
abbrev pub amounts_of : AccountRow → AccountAmounts
amounts_of r =
    record { credited = r.credited; balancing = r.balancing; contracts = r.contracts; imbalance = r.imbalance; charge = r.charge; share = r.share }

-- an account's row from its amounts
abbrev pub account_row_of : Account → AccountAmounts → AccountRow
account_row_of account a = record {
  account = account;
  credited = a.credited;
  balancing = a.balancing;
  contracts = a.contracts;
  imbalance = a.imbalance;
  charge = a.charge;
  share = a.share;
}
