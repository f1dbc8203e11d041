use Rattle.hh_sqlparts.proofs.MovedLaws.{has_both}
use Rattle.hh_sqlparts.proofs.moved_positions.insert_both.Goals as goal

pub returns : goal.returns
returns c =
    has_both c.args.row.now c.args.keys.now c.insert.new.self c.insert-2.new.self c.key_of.result c.key_of-2.result c.key_of.ensures c.key_of-2.ensures
    c.in_ok-insert.ensures.updates c.in_ok-insert-2.ensures.updates
