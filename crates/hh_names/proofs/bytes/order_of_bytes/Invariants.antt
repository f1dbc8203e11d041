use Rattle.std.proofs.Common.{◌≡◌, length}
use Rattle.std.specs.Cmp.Lexicographic.{slice_cmp}
use Rattle.std.specs.Ordering.{nat_cmp}
use Rattle.hh_names.proofs.bytes.order_of_bytes.Given as goal

-- the bytes that are left decide the order
abbrev pub invariant-loop-first_eight : goal.invariant-loop-first_eight
invariant-loop-first_eight l = slice_cmp nat_cmp l.fn.first l.fn.second ≡ slice_cmp nat_cmp l.first_rest l.second_rest

abbrev pub decreases-loop-first_eight : goal.decreases-loop-first_eight
decreases-loop-first_eight l = length l.first_rest
