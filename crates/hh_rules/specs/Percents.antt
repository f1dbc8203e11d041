-- The percentages of reallocations in force, added up for each unit and Settlement Period.
use Rattle.std.specs.Prelude.{◌≡◌, ℤ, pos, ◌≤ℤ◌, Bool, not, ◌&&◌, if◌then◌else◌, unwrap_or}
use Rattle.std.specs.FinMap.{find}
use Rattle.std.specs.List.{AllByRecursion}
use Rattle.std.specs.Ordering.{eq_by_cmp}
use Rattle.hh_tables.specs.Tables.{Table, IsTable}
use Rattle.hh_names.specs.Accounts.{is_same_account}
use Rattle.hh_rows.specs.Keys.{reallocation_key_cmp, unit_period_cmp}
use Rattle.hh_rows.specs.declared.keys.UnitPeriod.{UnitPeriod}
use Rattle.hh_rows.specs.declared.keys.ReallocationKey.{ReallocationKey}
use Rattle.hh_rows.specs.Totals.{total}
use Rattle.hh_names.specs.declared.values.Reallocation.{Reallocation}

-- the percentage of a unit that is in force in a Settlement Period
abbrev pub percent_at : Table ReallocationKey Reallocation → UnitPeriod → ℤ
percent_at reallocations at = total (λ e. if eq_by_cmp unit_period_cmp e.0.unit_period at then e.1.percent else pos 0) reallocations

-- the unit and Settlement Period are the key's, and the account is another
abbrev pub is_of_other : ReallocationKey → ReallocationKey → Bool
is_of_other key other =
    eq_by_cmp unit_period_cmp other.unit_period key.unit_period && not (is_same_account other.account key.account)

-- the percentage in force for other accounts than the key's, of the key's unit in its Settlement Period
abbrev pub percent_of_others : ReallocationKey → Table ReallocationKey Reallocation → ℤ
percent_of_others key reallocations =
    total (λ e. if is_of_other key e.0 then e.1.percent else pos 0) reallocations

-- the table of percentages is the sums of the reallocations, none of which is negative; the reallocations' keys rise
pub record SumsPercents (percents : Table UnitPeriod ℤ) (reallocations : Table ReallocationKey Reallocation) : Type 0 where
  pub sums : (at : UnitPeriod) → unwrap_or (find unit_period_cmp at percents) (pos 0) ≡ percent_at reallocations at
  pub rising : IsTable reallocation_key_cmp reallocations
  pub none_negative : AllByRecursion (λ e. pos 0 ≤ℤ e.1.percent) reallocations
