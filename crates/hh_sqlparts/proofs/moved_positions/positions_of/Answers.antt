use Rattle.hh_rules.specs.Positions.{position_key_cmp}
use Rattle.hh_sqlparts.proofs.MovedLaws.{put_one_more}
use Rattle.hh_sqlparts.proofs.moved_positions.positions_of.Goals as goal

pub loop-row-preserved : goal.loop-row-preserved
loop-row-preserved c =
    put_one_more position_key_cmp c.args.rows.now c.loop-row.row-index c.row-item.result c.loop-row-test.true c.row-item.is
    c.loop-row.positions c.hold.new.self c.loop-row.invariant c.in_ok-hold.ensures.ok
