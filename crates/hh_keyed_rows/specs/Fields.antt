-- The columns of single values: each in its grammar or range.
use Rattle.std.specs.Prelude.{nat_le, ℕ, ℤ, List, [], ◌∷◌, Bool, true, false, ◌&&◌, ◌==◌, Option, Some, None, if◌then◌else◌, ⊤}
use Rattle.std.specs.List.{find}
use Rattle.hh_num.specs.Quantities.{Measure}
use Rattle.hh_num.specs.Ranges.{is_between}
use Rattle.hh_time.specs.Days.{is_accepted}
use Rattle.hh_names.specs.declared.account.Account.{Account}
use Rattle.hh_names.specs.declared.account.Side.{Side}
use Rattle.hh_names.specs.declared.account.Side.TheVariants.{Production, Consumption}
use Rattle.hh_names.specs.Accounts.{side_number}
use Rattle.hh_names.specs.Words.{is_capital_or_digit, is_file_name_byte, is_letter_or_digit, is_operator_key, is_reference_byte, is_unit_byte, is_word}
use Rattle.hh_names.specs.declared.values.Counterparties.{Counterparties}
use Rattle.hh_rows.specs.declared.file_kind.FileKind.{FileKind}
use Rattle.hh_rows.specs.declared.settlement_period.SettlementPeriod.{SettlementPeriod}
use Rattle.hh_rows.specs.DateRanges.{Range}
use Rattle.hh_rows.specs.Kinds.{kind_value, kind_word}
use Rattle.hh_runs.specs.declared.run_kind.RunKind.{RunKind}
use Rattle.hh_runs.specs.RunKinds.{all_run_kinds, run_kind_number}
use Rattle.hh_keyed_rows.specs.Codecs.{Codec, both, coded, int_column, nat_column, text_column, via, within}

-- ---- one column

-- a number up to `most`
abbrev pub number_column : ℕ → Codec ℕ
number_column most = within (λ n. nat_le n most) nat_column

-- a date, as days since 1970-01-01
abbrev pub date_column : Codec ℕ
date_column = within is_accepted nat_column

-- the number of a Settlement Period
abbrev pub is_period_number : ℕ → Bool
is_period_number n = nat_le 1 n && nat_le n 50

abbrev pub period_column : Codec ℕ
period_column = within is_period_number nat_column

-- a quantity in its units, from `least` to `most`
abbrev pub units_column : ℤ → ℤ → Codec ℤ
units_column least most = within (is_between least most) int_column

abbrev pub quantity_column : Measure → Codec ℤ
quantity_column measure = units_column measure.least measure.most

-- a word of an alphabet
abbrev pub word_column : (ℕ → Bool) → ℕ → ℕ → Codec (List ℕ)
word_column allows least most = within (is_word allows least most) text_column

abbrev pub party_column : Codec (List ℕ)
party_column = word_column is_capital_or_digit 1 10

abbrev pub unit_column : Codec (List ℕ)
unit_column = word_column is_unit_byte 1 16

abbrev pub reference_column : Codec (List ℕ)
reference_column = word_column is_reference_byte 1 20

abbrev pub access_key_column : Codec (List ℕ)
access_key_column = word_column is_letter_or_digit 8 64

abbrev pub file_name_column : Codec (List ℕ)
file_name_column = word_column is_file_name_byte 1 64

-- the key of the operator
abbrev pub operator_key_column : Codec (List ℕ)
operator_key_column = within is_operator_key text_column

-- the first of some values that has a number
abbrev pub numbered : {A : Type 0} → (A → ℕ) → List A → ℕ → Option A
numbered number all n = find (λ a. n == number a) all

-- which of an account's two sides it is: 0 for production, 1 for consumption
abbrev pub side_column : Codec Side
side_column = coded side_number (numbered side_number (Production ∷ Consumption ∷ [])) nat_column

-- 1 for yes, 0 for no
abbrev pub mark_number : Bool → ℕ
mark_number mark = if mark then 1 else 0

abbrev pub mark_column : Codec Bool
mark_column = coded mark_number (numbered mark_number (false ∷ true ∷ [])) nat_column

-- a kind of run, by its number
abbrev pub run_kind_column : Codec RunKind
run_kind_column = coded run_kind_number (numbered run_kind_number all_run_kinds) nat_column

-- a kind of file, by its word
abbrev pub file_kind_column : Codec FileKind
file_kind_column = coded kind_word kind_value text_column

-- whole minutes before a Settlement Period
abbrev pub lead_minutes_column : Codec ℕ
lead_minutes_column = number_column 1440

-- a column that always has the same number
abbrev pub only_number : ℕ → Codec ⊤
only_number n = coded (λ _. n) (λ m. if m == n then Some tt else None) nat_column

-- ---- several columns

-- the party and the side of an account
abbrev pub account_columns : Codec Account
account_columns = via (λ p. record { party = p.0; side = p.1 }) (λ a. (a.party, a.side)) (both party_column side_column)

-- the first and the last date of a range; the last is not before the first
abbrev pub range_columns : Codec Range
range_columns = within (λ r. nat_le r.from r.to) (via (λ p. record { from = p.0; to = p.1 }) (λ r. (r.from, r.to)) (both date_column date_column))

-- the date and the number of a Settlement Period
abbrev pub settlement_period_columns : Codec SettlementPeriod
settlement_period_columns = via (λ p. record { date = p.0; period = p.1 }) (λ k. (k.date, k.period)) (both date_column period_column)

-- the seller and the buyer of a reference
abbrev pub counterparties_columns : Codec Counterparties
counterparties_columns =
    via (λ p. record { seller = p.0; buyer = p.1 }) (λ c. (c.seller, c.buyer)) (both account_columns account_columns)
