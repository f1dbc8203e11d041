use Rattle.std.proofs.Common.{◌≡◌, ◌≤◌, ◌-◌, take}
use Rattle.std.specs.Io.KnownBytes.{Consumes}
use Rattle.httparse.specs.Grammar.{HasNoRequest, MayBecomeRequest}
use Rattle.hh_http_heads.proofs.front.read_front.Given as goal

-- what was read is at the beginning of the buffer, it contains no head yet but one may come, and no call failed
abbrev pub invariant-loop-read : goal.invariant-loop-read
invariant-loop-read g l = record {
  in_range : l.read ≤ 8192;
  taken : Consumes (g.S.Source.remaining l.initial.source) (g.S.Source.remaining l.source) (take l.read l.buffer);
  well : g.S.Source.failures l.source ≡ g.S.Source.failures l.initial.source;
  none : HasNoRequest (take l.read l.buffer);
  may : MayBecomeRequest (take l.read l.buffer);
}

abbrev pub decreases-loop-read : goal.decreases-loop-read
decreases-loop-read g l = 8192 - l.read
