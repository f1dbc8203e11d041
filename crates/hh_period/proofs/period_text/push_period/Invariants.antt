use Rattle.std.proofs.Common.{◌≡◌, ◌++◌, take}
use Rattle.std.specs.List.{flat_map}
use Rattle.hh_calc.specs.Settled.{figures_of}
use Rattle.hh_period.specs.PeriodText.{account_line}
use Rattle.hh_period.proofs.period_text.push_period.Given as goal

-- the lines of the accounts so far
abbrev pub invariant-loop-row : goal.invariant-loop-row
invariant-loop-row l = l.text.items ≡ l.fn.text.items ++ flat_map (λ r. account_line (figures_of r)) (take l.row-index l.settled.accounts)
