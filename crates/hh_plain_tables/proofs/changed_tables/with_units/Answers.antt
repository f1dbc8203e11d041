use Rattle.hh_rules.specs.Leads.{registered_units}
use Rattle.hh_plain_tables.proofs.KeptLaws.{one_more_unit}
use Rattle.hh_plain_tables.proofs.changed_tables.with_units.Goals as goal

pub loop-row-preserved : goal.loop-row-preserved
loop-row-preserved c =
    one_more_unit c.args.rows.now c.loop-row.row-index c.row-item.result c.loop-row-test.true c.row-item.is
    (registered_units c.args.register.now) c.loop-row.changed c.put.new.self c.loop-row.invariant c.in_ok-put.ensures.ok
