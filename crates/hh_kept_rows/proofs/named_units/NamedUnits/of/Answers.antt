use Rattle.hh_kept_rows.proofs.NamedLaws.{named_more}
use Rattle.hh_kept_rows.proofs.named_units.NamedUnits.of.Goals as goal

pub loop-row-preserved : goal.loop-row-preserved
loop-row-preserved c =
    named_more c.args.rows.now c.loop-row.row-index c.row-item.result c.loop-row-test.true c.row-item.is c.loop-row.named c.insert.new.self c.loop-row.invariant
    c.in_ok-insert.ensures.kept c.in_ok-insert.ensures.named
