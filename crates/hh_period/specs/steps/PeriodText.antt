-- The lines of settled figures, without the lines of the inputs.
use Rattle.std.specs.Prelude.{ℕ, List, ◌++◌}
use Rattle.std.specs.List.{flat_map}
use Rattle.hh_calc.specs.Formulas.{residual}
use Rattle.hh_calc.specs.Settled.{figures_of}
use Rattle.hh_calc.specs.Terms.{Settled}
use Rattle.hh_period.specs.PeriodText.{account_line, residual_line}

-- the lines of settled figures
abbrev pub settled_lines : Settled → List ℕ
settled_lines s = flat_map (λ r. account_line (figures_of r)) s.accounts ++ residual_line s.residual
