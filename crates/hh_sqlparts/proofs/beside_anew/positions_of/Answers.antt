use Rattle.std.proofs.Common.{arith}
use Rattle.hh_sqlparts.proofs.PositionsAnew.{positions_more}
use Rattle.hh_sqlparts.proofs.beside_anew.positions_of.Goals as goal

pub loop-row-preserved : goal.loop-row-preserved
loop-row-preserved c =
    positions_more c.args.rows.now c.loop-row.row-index c.row-item.result (omega arith) c.row-item.is
    c.loop-row.positions c.replace.new.self c.loop-row.invariant c.in_ok-replace.ensures.ok
