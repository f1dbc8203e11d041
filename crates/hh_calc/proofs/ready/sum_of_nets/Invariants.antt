use Rattle.std.proofs.Common.{◌≡◌, ◌*◌, ◌^◌, ◌≤◌, take}
use Rattle.std.specs.Prelude.{All, unsigned_abs}
use Rattle.hh_share.specs.Totals.{total}
use Rattle.hh_calc.specs.Ready.{IsNetVolume}
use Rattle.hh_calc.proofs.ready.sum_of_nets.Given as goal

-- the sum of the net volumes so far, each of which is in its range
abbrev pub invariant-loop-net : goal.invariant-loop-net
invariant-loop-net l = record {
  sum : l.sum ≡ total (λ kwh. kwh) (take l.net-index l.nets);
  sizes : All IsNetVolume (take l.net-index l.nets);
  small : unsigned_abs l.sum ≤ l.net-index * 10 ^ 11;
}
