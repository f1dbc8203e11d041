use Rattle.std.proofs.Common.{◌≡◌, map, take}
use Rattle.hh_calc.specs.Settled.{figures_of, shares_shown}
use Rattle.hh_calc.proofs.settle.rows_of.Given as goal

-- the rows so far have their figures and their shares
abbrev pub invariant-loop-place : goal.invariant-loop-place
invariant-loop-place l = record {
  figures : map figures_of l.rows.items ≡ take l.place l.fn.figures;
  shares : shares_shown l.rows.items ≡ take l.place l.fn.shares;
}
