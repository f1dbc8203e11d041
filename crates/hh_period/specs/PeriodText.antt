-- The text of a settled period.
use Rattle.std.specs.Prelude.{ℕ, ℤ, List, [], ◌∷◌, ◌++◌, codes}
use Rattle.std.specs.List.{flat_map}
use Rattle.hh_num.specs.Fixed.{fixed_text}
use Rattle.hh_names.specs.Accounts.{account_text}
use Rattle.hh_calc.specs.declared.result.Figures.{Figures}
use Rattle.hh_calc.specs.Formulas.{figures, residual}
use Rattle.hh_calc.specs.Terms.{PeriodDataView}

-- a name and a number
abbrev pub named : List ℕ → ℕ → ℤ → List ℕ
named name decimals z = name ++ fixed_text decimals z

-- energy in MWh with 10 decimals, cash in pence
abbrev pub figures_text : Figures → List ℕ
figures_text f = named (codes " credited ") 10 f.credited ++ named (codes " imbalance ") 10 f.imbalance ++ named (codes " charge ") 0 f.charge

-- `account A credited C imbalance I charge H`
abbrev pub account_line : Figures → List ℕ
account_line f = codes "account " ++ account_text f.account ++ figures_text f ++ 10 ∷ []

-- `residual T`
abbrev pub residual_line : ℤ → List ℕ
residual_line pence = named (codes "residual ") 0 pence ++ 10 ∷ []

-- a line for each account in order, then the residual
abbrev pub period_text : PeriodDataView → List ℕ
period_text p = flat_map (λ a. account_line (figures p a)) p.accounts ++ residual_line (residual p)
