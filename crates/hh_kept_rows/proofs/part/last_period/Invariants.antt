use Rattle.std.proofs.Common.{◌≡◌, Some, false, take}
use Rattle.hh_kept_rows.specs.steps.Parts.{NoneAfter, is_after}
use Rattle.hh_kept_rows.proofs.part.last_period.Given as goal

-- neither the first Settlement Period nor those of the readings so far are after the last
abbrev pub invariant-loop-reading : goal.invariant-loop-reading
invariant-loop-reading l = record {
  first : is_after l.fn.first l.last ≡ false;
  until : NoneAfter (Some l.last) (take l.reading-index l.readings);
}
