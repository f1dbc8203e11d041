-- The columns of keys compare as the keys do.
use Rattle.std.proofs.Common.{◌∙◌, pos, refl}
use Rattle.std.specs.Cmp.{IsTotalOrder, nat_cmp_total, on_total, then_total}
use Rattle.std.specs.Ordering.{nat_cmp, on}
use Rattle.std.proofs.lemmas.Map.Lookups.{CmpEqualImpliesEq, exact_bytes, exact_pairs, exact_unsigned}
use Rattle.sqlite_value.proofs.OrderLemmas.{value_cmp-Int, value_cmp-Text}
use Rattle.hh_names.specs.Accounts.{account_cmp, bytes_cmp, side_cmp, side_number}
use Rattle.hh_names.proofs.AccountLaws.{bytes_total}
use Rattle.hh_rows.specs.Keys.{contract_key_cmp, lead_key_cmp, reallocation_key_cmp, settlement_period_cmp, unit_period_cmp}
use Rattle.hh_rows.specs.Kinds.{kind_word}
use Rattle.hh_rows.specs.declared.keys.ReallocationKey.{ReallocationKey}
use Rattle.hh_runs.specs.RunKinds.{run_kind_cmp, run_kind_number}
use Rattle.hh_keyed_rows.specs.Content.{credit_key_cmp, posting_key_cmp, result_key_cmp}
use Rattle.hh_keyed_rows.specs.Runs.{run_key_cmp}
use Rattle.hh_keyed_rows.specs.States.{file_key_cmp}
use Rattle.hh_keyed_rows.specs.Codecs.{Codec, IsCodec, both, nat_column, text_column, via}
use Rattle.hh_keyed_rows.specs.Fields.{account_columns, date_column, file_kind_column, file_name_column, period_column, reference_column, run_kind_column, settlement_period_columns, side_column, party_column, unit_column}
use Rattle.hh_keyed_rows.specs.Keys.{contract_key_columns, credit_key_columns, file_key_columns, lead_key_columns, one_row_column, position_key_columns, posting_key_columns, result_key_columns, run_key_columns, unit_period_columns}
use Rattle.hh_keyed_rows.specs.Positions.{position_key_cmp}
use Rattle.hh_keyed_rows.proofs.CodecLaws.{both_codec, via_codec}
use Rattle.hh_keyed_rows.proofs.FieldLaws.{account_codec, date_codec, file_kind_codec, period_codec, settlement_period_codec, word_codec}
use Rattle.hh_keyed_rows.proofs.PlaceLaws.{int_cmp-nats}
use Rattle.hh_sqlrows.specs.OfficeTables.{one_row_cmp, unit_date_cmp}
use Rattle.hh_sqltables.proofs.WhereLaws.{both_ordered, one_ordered}
use Rattle.hh_sqltables.specs.Texts.{IsOrdered}
use Rattle.std.specs.declared.cmp.Ordering.{Ordering}
use Rattle.hh_keyed_rows.proofs.KeyCodecs.{run_key_codec, unit_codec, unit_period_codec}
use Rattle.hh_sqlrows.specs.UnitDates.{unit_date_columns}
use Rattle.hh_sqlrows.specs.declared.unit_date.UnitDate.{UnitDate}

pub one_row_ordered : IsOrdered one_row_column one_row_cmp
one_row_ordered a b = one_ordered _ _ ∙ value_cmp-Int (pos 1) (pos 1) ∙ int_cmp-nats 1 1

pub text_ordered : IsOrdered text_column bytes_cmp
text_ordered a b = one_ordered _ _ ∙ value_cmp-Text a b

pub nat_ordered : IsOrdered nat_column nat_cmp
nat_ordered a b = one_ordered _ _ ∙ value_cmp-Int (pos a) (pos b) ∙ int_cmp-nats a b

pub side_ordered : IsOrdered side_column side_cmp
side_ordered a b = one_ordered _ _ ∙ value_cmp-Int (pos (side_number a)) (pos (side_number b)) ∙ int_cmp-nats (side_number a) (side_number b)

pub run_kind_ordered : IsOrdered run_kind_column run_kind_cmp
run_kind_ordered a b = one_ordered _ _ ∙ value_cmp-Int (pos (run_kind_number a)) (pos (run_kind_number b)) ∙ int_cmp-nats (run_kind_number a) (run_kind_number b)

pub file_kind_ordered : IsOrdered file_kind_column (on kind_word bytes_cmp)
file_kind_ordered a b = one_ordered _ _ ∙ value_cmp-Text (kind_word a) (kind_word b)

pub account_ordered : IsOrdered account_columns account_cmp
account_ordered a b = both_ordered party_column side_column bytes_cmp side_cmp (word_codec _ _ _) text_ordered side_ordered (a.party, a.side) (b.party, b.side)

pub settlement_period_ordered : IsOrdered settlement_period_columns settlement_period_cmp
settlement_period_ordered a b = both_ordered date_column period_column nat_cmp nat_cmp date_codec nat_ordered nat_ordered (a.date, a.period) (b.date, b.period)

pub unit_period_ordered : IsOrdered unit_period_columns unit_period_cmp
unit_period_ordered a b = both_ordered unit_column settlement_period_columns bytes_cmp settlement_period_cmp (word_codec _ _ _) text_ordered settlement_period_ordered (a.unit, a.at) (b.unit, b.at)

pub contract_key_ordered : IsOrdered contract_key_columns contract_key_cmp
contract_key_ordered a b = both_ordered reference_column settlement_period_columns bytes_cmp settlement_period_cmp (word_codec _ _ _) text_ordered settlement_period_ordered (a.reference, a.at) (b.reference, b.at)

pub lead_key_ordered : IsOrdered lead_key_columns lead_key_cmp
lead_key_ordered a b = both_ordered unit_column date_column bytes_cmp nat_cmp (word_codec _ _ _) text_ordered nat_ordered (a.unit, a.from) (b.unit, b.from)

-- the columns of the key of a reallocation, in the order by which keys compare: unit, date, period, party, side
abbrev pub reallocation_order : Codec ReallocationKey
reallocation_order = via (λ p. record { unit_period = p.0; account = p.1 }) (λ k. (k.unit_period, k.account)) (both unit_period_columns account_columns)

pub reallocation_order_codec : IsCodec reallocation_order
reallocation_order_codec = via_codec _ _ (λ k. refl) (λ p. refl) _ (both_codec _ _ unit_period_codec account_codec)

pub reallocation_ordered : IsOrdered reallocation_order reallocation_key_cmp
reallocation_ordered a b = both_ordered unit_period_columns account_columns unit_period_cmp account_cmp unit_period_codec unit_period_ordered account_ordered (a.unit_period, a.account) (b.unit_period, b.account)

pub file_key_ordered : IsOrdered file_key_columns file_key_cmp
file_key_ordered a b = both_ordered file_kind_column file_name_column (on kind_word bytes_cmp) bytes_cmp file_kind_codec file_kind_ordered text_ordered (a.kind, a.name) (b.kind, b.name)

pub run_key_ordered : IsOrdered run_key_columns run_key_cmp
run_key_ordered a b = both_ordered date_column run_kind_column nat_cmp run_kind_cmp date_codec nat_ordered run_kind_ordered (a.date, a.kind) (b.date, b.kind)

pub result_key_ordered : IsOrdered result_key_columns result_key_cmp
result_key_ordered a b =
    both_ordered run_key_columns (both period_column account_columns) run_key_cmp _ run_key_codec run_key_ordered
    (both_ordered period_column account_columns nat_cmp account_cmp period_codec nat_ordered account_ordered) (a.run, (a.period, a.account)) (b.run, (b.period, b.account))

pub posting_key_ordered : IsOrdered posting_key_columns posting_key_cmp
posting_key_ordered a b = both_ordered run_key_columns account_columns run_key_cmp account_cmp run_key_codec run_key_ordered account_ordered (a.run, a.account) (b.run, b.account)

pub credit_key_ordered : IsOrdered credit_key_columns credit_key_cmp
credit_key_ordered a b =
    both_ordered run_key_columns (both period_column (both unit_column account_columns)) run_key_cmp _ run_key_codec run_key_ordered
    (both_ordered period_column (both unit_column account_columns) nat_cmp _ period_codec nat_ordered (both_ordered unit_column account_columns bytes_cmp account_cmp (word_codec _ _ _) text_ordered account_ordered))
    (a.run, (a.period, (a.unit, a.account))) (b.run, (b.period, (b.unit, b.account)))

pub position_key_ordered : IsOrdered position_key_columns position_key_cmp
position_key_ordered a b = both_ordered settlement_period_columns account_columns settlement_period_cmp account_cmp settlement_period_codec settlement_period_ordered account_ordered (a.at, a.account) (b.at, b.account)

-- ---- a unit on a date

pub unit_date_total : IsTotalOrder unit_date_cmp
unit_date_total = then_total (on_total (λ p. p.0) bytes_total) (on_total (λ p. p.1) nat_cmp_total)

pub exact_unit_dates : CmpEqualImpliesEq unit_date_cmp
exact_unit_dates = exact_pairs bytes_cmp nat_cmp exact_bytes exact_unsigned

pub unit_date_codec : IsCodec unit_date_columns
unit_date_codec = via_codec _ _ (λ u. refl) (λ p. refl) _ (both_codec _ _ unit_codec date_codec)

abbrev pub asked_unit_cmp : UnitDate → UnitDate → Ordering
asked_unit_cmp = on (λ u. (u.unit, u.date)) unit_date_cmp

pub asked_unit_total : IsTotalOrder asked_unit_cmp
asked_unit_total = on_total (λ (u : UnitDate). (u.unit, u.date)) unit_date_total

pub exact_asked_units : CmpEqualImpliesEq asked_unit_cmp
exact_asked_units a b tied = let same = exact_unit_dates (a.unit, a.date) (b.unit, b.date) tied in λ i. record { unit = (same i).0; date = (same i).1 }
