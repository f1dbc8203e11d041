-- The sums of all accounts of a period as one list, which the code fills in account order.
use Rattle.std.specs.Prelude.{List, map}
use Rattle.hh_calc.specs.declared.sums.AccountSums.{AccountSums}
use Rattle.hh_calc.specs.Terms.{PeriodDataView}
use Rattle.hh_calc.specs.Formulas.{period_sums}

-- the sums of all accounts of a period, in their order
abbrev pub all_sums : PeriodDataView → List AccountSums
all_sums p = map (period_sums p) p.accounts
