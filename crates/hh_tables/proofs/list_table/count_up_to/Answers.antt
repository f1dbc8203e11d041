use Rattle.std.proofs.Common.{◌≡◌, true, arith, rules}
use Rattle.std.specs.Ordering.{is_gt}
use Rattle.hh_tables.proofs.MergeLaws.{all_up_to, first_above}
use Rattle.hh_tables.proofs.list_table.count_up_to.Goals as goal

pub returns-then-is_gt-clause-count : goal.returns-then-is_gt-clause-count
returns-then-is_gt-clause-count g c =
    let above : is_gt (g.K.Ord.cmp c.index-rows-count.result.0 c.args.key.now) ≡ true = search rules in
    first_above g.K.Ord.cmp c.args.key.now c.args.rows.now c.loop-count.count c.index-rows-count.result c.loop-count-test.true c.index-rows-count.is above c.loop-count.invariant

pub returns-clause-count : goal.returns-clause-count
returns-clause-count g c = all_up_to g.K.Ord.cmp c.args.key.now c.args.rows.now c.loop-count.count (omega arith) c.loop-count.invariant
