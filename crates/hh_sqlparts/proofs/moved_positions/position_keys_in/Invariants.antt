use Rattle.std.proofs.Common.{take}
use Rattle.std.specs.List.{All}
use Rattle.hh_rules.specs.Positions.{position_key_cmp}
use Rattle.hh_sqlparts.specs.steps.Moved.{buyer_of, seller_of}
use Rattle.hh_sqlparts.specs.steps.Named.{IsAmong}
use Rattle.hh_sqlparts.proofs.moved_positions.position_keys_in.Given as goal

-- the sellers and the buyers of the rows so far are in the set
abbrev pub invariant-loop-row : goal.invariant-loop-row
invariant-loop-row l = record {
  sellers : All (IsAmong position_key_cmp seller_of l.keys.keys) (take l.row-index l.rows);
  buyers : All (IsAmong position_key_cmp buyer_of l.keys.keys) (take l.row-index l.rows);
}
