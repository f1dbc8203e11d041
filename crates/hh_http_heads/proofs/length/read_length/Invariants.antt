use Rattle.std.proofs.Common.{◌≡◌, ◌<◌, ◌^◌, drop}
use Rattle.hh_http_heads.proofs.LengthLemmas.{length_behind}
use Rattle.hh_http_heads.proofs.length.read_length.Given as goal

-- the number so far, with the digits that are left, is the number
abbrev pub invariant-loop-digit : goal.invariant-loop-digit
invariant-loop-digit l = record {
  fits : l.number < 2 ^ 64;
  same : length_behind l.number (drop l.digit-index l.text) ≡ length_behind 0 l.text;
}
