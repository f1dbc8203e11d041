use Rattle.std.proofs.Common.{◌≡◌, true, All, take}
use Rattle.hh_calc.specs.Ready.{IsNetVolume}
use Rattle.hh_beside.specs.PositionLaws.{are_known, net_volumes_at}
use Rattle.hh_kept_rows.proofs.net_volumes.nets_at.Given as goal

-- the net volumes of the accounts so far, whose positions are known
abbrev pub invariant-loop-account : goal.invariant-loop-account
invariant-loop-account l = record {
  volumes : l.nets.items ≡ net_volumes_at l.positions l.at (take l.account-index l.accounts);
  known : are_known l.positions l.at (take l.account-index l.accounts) ≡ true;
  sizes : All IsNetVolume l.nets.items;
}
