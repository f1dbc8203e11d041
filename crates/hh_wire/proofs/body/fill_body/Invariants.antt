use Rattle.std.proofs.Common.{◌≡◌, ◌≤◌, ◌-◌, length, take}
use Rattle.std.specs.Io.KnownBytes.{Consumes, prepend_known}
use Rattle.hh_wire.proofs.body.fill_body.Given as goal

-- what was at hand and what was read are at the beginning of the buffer, and no call failed
abbrev pub invariant-loop-filled : goal.invariant-loop-filled
invariant-loop-filled g l = record {
  past : length l.at_hand ≤ l.filled;
  in_range : l.filled ≤ length l.body;
  taken : Consumes (prepend_known l.at_hand (g.S.Source.remaining l.initial.source)) (g.S.Source.remaining l.source) (take l.filled l.body);
  well : g.S.Source.failures l.source ≡ g.S.Source.failures l.initial.source;
}

abbrev pub decreases-loop-filled : goal.decreases-loop-filled
decreases-loop-filled g l = length l.body - l.filled
