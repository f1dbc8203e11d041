use Rattle.std.proofs.Common.{take}
use Rattle.hh_share.specs.steps.Ranking.{HasPennies}
use Rattle.hh_share.proofs.shares.with_pennies.Given as goal

-- a penny for each place so far
abbrev pub invariant-loop-place : goal.invariant-loop-place
invariant-loop-place l = HasPennies l.fn.sizes.items (take l.place-index l.places) l.sizes.items
