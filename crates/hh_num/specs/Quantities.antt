-- The market's quantities: the decimals of their texts, and their ranges in units.
use Rattle.std.specs.Prelude.{ℕ, ℤ, pos, neg_ℤ, List, Option}
use Rattle.hh_num.specs.Ranges.{fixed_between}

-- the decimals of a quantity's text (a unit is 10^-decimals), and its least and greatest number of units
pub record Measure : Type 0 where
  pub decimals : ℕ
  pub least : ℤ
  pub most : ℤ

-- from -most to most units
abbrev pub either_sign : ℕ → ℕ → Measure
either_sign decimals most = record { decimals = decimals; least = neg_ℤ (pos most); most = pos most }

-- from 0 to most units
abbrev pub not_negative : ℕ → ℕ → Measure
not_negative decimals most = record { decimals = decimals; least = pos 0; most = pos most }

-- all numbers of an `i64`
abbrev pub any_size : ℕ → Measure
any_size decimals =
    record { decimals = decimals; least = neg_ℤ (pos 9_223_372_036_854_775_808); most = pos 9_223_372_036_854_775_807 }

-- volumes: whole kWh, written in MWh, at most 10,000 MWh in size
abbrev pub volumes : Measure
volumes = either_sign 3 10_000_000

-- net volumes of contracts: whole kWh, at most 100,000,000 MWh in size
abbrev pub net_volumes : Measure
net_volumes = either_sign 3 100_000_000_000

-- settled energy: ticks of 10^-10 MWh
abbrev pub energies : Measure
energies = any_size 10

-- cash: whole pence
abbrev pub amounts_of_cash : Measure
amounts_of_cash = any_size 0

-- prices: 10^-5 pound per MWh, at most 99,999.99999 in size
abbrev pub prices : Measure
prices = either_sign 5 9_999_999_999

-- loss multipliers: 10^-7, at most 2
abbrev pub multipliers : Measure
multipliers = not_negative 7 20_000_000

-- percentages: 10^-5 percent, at most 100
abbrev pub percentages : Measure
percentages = not_negative 5 10_000_000

-- 100 percent
abbrev pub hundred_percent : ℤ
hundred_percent = percentages.most

-- the number of units that a text writes, in the grammar of decimals and within the quantity's range
abbrev pub value_in : Measure → List ℕ → Option ℤ
value_in measure = fixed_between measure.decimals measure.least measure.most

abbrev pub volume_value : List ℕ → Option ℤ
volume_value = value_in volumes

abbrev pub multiplier_value : List ℕ → Option ℤ
multiplier_value = value_in multipliers

abbrev pub price_value : List ℕ → Option ℤ
price_value = value_in prices

abbrev pub percent_value : List ℕ → Option ℤ
percent_value = value_in percentages
