-- The columns of keys and values are codecs.
use Rattle.std.proofs.Common.{◌≡◌, ℕ, ℤ, pos, negsuc, zero, suc, Bool, true, false, Some, refl, ap}
use Rattle.hh_num.specs.Quantities.{Measure, amounts_of_cash, energies, multipliers, net_volumes, percentages, volumes}
use Rattle.hh_names.specs.Words.{is_capital_or_digit, is_file_name_byte, is_letter_or_digit, is_reference_byte, is_unit_byte}
use Rattle.hh_store.specs.positions.Position.{Position}
use Rattle.hh_store.specs.positions.Position.TheVariants.{Known, Lost}
use Rattle.sqlite_value.specs.Order.{Row}
use Rattle.hh_keyed_rows.specs.declared.no_columns.NoColumns.{NoColumns}
use Rattle.hh_keyed_rows.specs.Codecs.{IsCodec}
use Rattle.hh_keyed_rows.specs.Fields.{access_key_column, file_name_column, party_column, quantity_column, reference_column, unit_column}
use Rattle.hh_keyed_rows.specs.Keys.{contract_key_columns, credit_key_columns, file_key_columns, lead_key_columns, one_row_column, position_key_columns, posting_key_columns, reallocation_key_columns, result_key_columns, run_key_columns, unit_period_columns}
use Rattle.hh_keyed_rows.specs.Values.{most_of_8_bits, most_of_16_bits, most_of_32_bits, amounts_columns, file_columns, lead_term_columns, no_columns, party_columns, position_columns, position_from, position_numbers, reading_columns, reallocation_columns, settings_columns, settings_columns_of, summary_columns, unit_columns, version}
use Rattle.hh_keyed_rows.proofs.CodecLaws.{blob_codec, both_codec, coded_codec, none_is_not_some, same_some, via_codec}
use Rattle.hh_keyed_rows.proofs.FieldLaws.{account_codec, date_codec, file_kind_codec, lead_minutes_codec, mark_codec, number_codec, only_number_codec, operator_key_codec, period_codec, range_codec, run_kind_codec, settlement_period_codec, units_codec, word_codec}

-- ---- words and quantities

pub party_codec : IsCodec party_column
party_codec = word_codec is_capital_or_digit 1 10

pub unit_codec : IsCodec unit_column
unit_codec = word_codec is_unit_byte 1 16

pub reference_codec : IsCodec reference_column
reference_codec = word_codec is_reference_byte 1 20

pub access_key_codec : IsCodec access_key_column
access_key_codec = word_codec is_letter_or_digit 8 64

pub file_name_codec : IsCodec file_name_column
file_name_codec = word_codec is_file_name_byte 1 64

pub quantity_codec : (measure : Measure) → IsCodec (quantity_column measure)
quantity_codec measure = units_codec measure.least measure.most

-- ---- keys

pub one_row_codec : IsCodec one_row_column
one_row_codec = via_codec _ _ (λ k. refl) (λ p. refl) _ (only_number_codec 1)

pub unit_period_codec : IsCodec unit_period_columns
unit_period_codec = via_codec _ _ (λ k. refl) (λ p. refl) _ (both_codec _ _ unit_codec settlement_period_codec)

pub lead_key_codec : IsCodec lead_key_columns
lead_key_codec = via_codec _ _ (λ k. refl) (λ p. refl) _ (both_codec _ _ unit_codec date_codec)

pub contract_key_codec : IsCodec contract_key_columns
contract_key_codec = via_codec _ _ (λ k. refl) (λ p. refl) _ (both_codec _ _ reference_codec settlement_period_codec)

pub reallocation_key_codec : IsCodec reallocation_key_columns
reallocation_key_codec = via_codec _ _ (λ k. refl) (λ p. refl) _ (both_codec _ _ unit_codec (both_codec _ _ account_codec settlement_period_codec))

pub file_key_codec : IsCodec file_key_columns
file_key_codec = via_codec _ _ (λ k. refl) (λ p. refl) _ (both_codec _ _ file_kind_codec file_name_codec)

pub run_key_codec : IsCodec run_key_columns
run_key_codec = via_codec _ _ (λ k. refl) (λ p. refl) _ (both_codec _ _ date_codec run_kind_codec)

pub result_key_codec : IsCodec result_key_columns
result_key_codec = via_codec _ _ (λ k. refl) (λ p. refl) _ (both_codec _ _ run_key_codec (both_codec _ _ period_codec account_codec))

pub credit_key_codec : IsCodec credit_key_columns
credit_key_codec =
    via_codec _ _ (λ k. refl) (λ p. refl) _ (both_codec _ _ run_key_codec (both_codec _ _ period_codec (both_codec _ _ unit_codec account_codec)))

pub posting_key_codec : IsCodec posting_key_columns
posting_key_codec = via_codec _ _ (λ k. refl) (λ p. refl) _ (both_codec _ _ run_key_codec account_codec)

pub position_key_codec : IsCodec position_key_columns
position_key_codec = via_codec _ _ (λ k. refl) (λ p. refl) _ (both_codec _ _ settlement_period_codec account_codec)

-- ---- values

pub registered_party_codec : IsCodec party_columns
registered_party_codec = via_codec _ _ (λ r. refl) (λ p. refl) _ (both_codec _ _ range_codec access_key_codec)

pub registered_unit_codec : IsCodec unit_columns
registered_unit_codec = via_codec _ _ (λ r. refl) (λ p. refl) _ (both_codec _ _ account_codec (both_codec _ _ mark_codec range_codec))

pub lead_term_codec : IsCodec lead_term_columns
lead_term_codec = via_codec _ _ (λ t. refl) (λ p. refl) _ (both_codec _ _ account_codec date_codec)

pub reading_codec : IsCodec reading_columns
reading_codec = via_codec _ _ (λ r. refl) (λ p. refl) _ (both_codec _ _ (quantity_codec volumes) (both_codec _ _ (quantity_codec multipliers) (quantity_codec volumes)))

pub reallocation_codec : IsCodec reallocation_columns
reallocation_codec = via_codec _ _ (λ r. refl) (λ p. refl) _ (both_codec _ _ (quantity_codec percentages) (quantity_codec volumes))

pub file_codec : IsCodec file_columns
file_codec = via_codec _ _ (λ f. refl) (λ p. refl) _ (both_codec _ _ blob_codec (both_codec _ _ (number_codec most_of_32_bits) (number_codec most_of_32_bits)))

pub summary_codec : IsCodec summary_columns
summary_codec =
    via_codec _ _ (λ s. refl) (λ p. refl) _ (both_codec _ _ (number_codec most_of_8_bits)
    (both_codec _ _ (number_codec most_of_16_bits) (both_codec _ _ (quantity_codec amounts_of_cash) (number_codec most_of_16_bits))))

energy_codec : IsCodec (quantity_column energies)
energy_codec = quantity_codec energies

cash_codec : IsCodec (quantity_column amounts_of_cash)
cash_codec = quantity_codec amounts_of_cash

pub amounts_codec : IsCodec amounts_columns
amounts_codec =
    via_codec _ _ (λ a. refl) (λ p. refl) _ (both_codec _ _ energy_codec (both_codec _ _ energy_codec (both_codec _ _ energy_codec
    (both_codec _ _ energy_codec (both_codec _ _ cash_codec cash_codec)))))

pub settings_codec_of : (number : ℕ) → IsCodec (settings_columns_of number)
settings_codec_of number = via_codec _ _ (λ s. refl) (λ p. refl) _ (both_codec _ _ (only_number_codec number) (both_codec _ _ lead_minutes_codec operator_key_codec))

pub settings_codec : IsCodec settings_columns
settings_codec = settings_codec_of version

pub position_codec : IsCodec position_columns
position_codec = coded_codec position_numbers (λ p. position_from p.1 p.0) there (λ p. here p.1 p.0) _ (both_codec _ _ (quantity_codec net_volumes) mark_codec)
  where
    there : (position : Position) → position_from (position_numbers position).1 (position_numbers position).0 ≡ Some position
    there (Known net) = refl
    there Lost = refl

    here : (lost : Bool) (net : ℤ) (position : Position) → position_from lost net ≡ Some position → (net, lost) ≡ position_numbers position
    here false net position is = ap position_numbers (same_some is)
    here true (pos zero) position is = ap position_numbers (same_some is)
    here true (pos (suc n)) position is = absurd (none_is_not_some is)
    here true (negsuc n) position is = absurd (none_is_not_some is)

pub no_columns_codec : IsCodec no_columns
no_columns_codec = record {
  back = λ a rest fits. refl;
  only = λ row a rest is. ap (λ (x : NoColumns × Row). x.1) (same_some is);
  fitting = λ row a rest is. refl;
  apart = λ a b same. refl;
  wide = λ a. refl;
  plain = λ a. refl;
}
