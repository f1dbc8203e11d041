-- The limits of a run: energy in ticks, cash in pence.
use Rattle.std.specs.Prelude.{ℕ, ◌^◌, nat_le, unsigned_abs, ℤ, List, Bool, ◌&&◌}
use Rattle.std.specs.List.{list_all}
use Rattle.hh_names.specs.declared.account.Account.{Account}
use Rattle.hh_calc.specs.declared.result.Figures.{Figures}
use Rattle.hh_calc.specs.Formulas.{figures, period_sums, residual}
use Rattle.hh_calc.specs.Terms.{PeriodDataView}

-- the greatest energy of an account in a period, in size
abbrev pub greatest_energy : ℕ
greatest_energy = 10 ^ 17

-- the greatest charge of an account and the greatest residual of a period, in size
abbrev pub greatest_cash : ℕ
greatest_cash = 10 ^ 12

-- whether the size of an amount is at most so much
abbrev pub is_at_most : ℕ → ℤ → Bool
is_at_most most amount = nat_le (unsigned_abs amount) most

-- no figure of an account passes a limit
abbrev pub are_within : Figures → Bool
are_within f =
    is_at_most greatest_energy f.credited && is_at_most greatest_energy f.balancing && is_at_most greatest_energy f.contracts
    && is_at_most greatest_energy f.imbalance && is_at_most greatest_cash f.charge

module _ (p : PeriodDataView) where
  -- neither a figure nor the weight of an account passes a limit
  abbrev pub is_account_within : Account → Bool
  is_account_within a = are_within (figures p a) && nat_le (period_sums p a).weight greatest_energy

  -- no figure and no weight of these accounts passes a limit
  abbrev pub are_accounts_within : List Account → Bool
  are_accounts_within accounts = list_all is_account_within accounts

  -- no figure and no weight of the period's accounts passes a limit
  abbrev pub are_all_within : Bool
  are_all_within = are_accounts_within p.accounts

  -- no figure, no weight and no residual of the period passes a limit
  abbrev pub is_within_limits : Bool
  is_within_limits = are_all_within && is_at_most greatest_cash (residual p)
