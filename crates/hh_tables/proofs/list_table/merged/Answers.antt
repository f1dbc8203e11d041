use Rattle.std.proofs.Common.{◌++◌, subst, sym, take}
use Rattle.hh_tables.specs.Tables.{IsTable}
use Rattle.hh_tables.proofs.MergeLaws.{put_all_is_table, put_more, reached_more}
use Rattle.hh_tables.proofs.list_table.merged.Goals as goal

pub put_next-requires-clause-rising : goal.put_next-requires-clause-rising
put_next-requires-clause-rising g c =
    subst (IsTable g.K.Ord.cmp) (sym c.loop-row.invariant.so_far)
    (put_all_is_table g.met.K.Ord.total (take c.loop-row.row-index c.args.rows.now) c.args.table.now c.requires.rising)

pub loop-row-preserved : goal.loop-row-preserved
loop-row-preserved g c = record {
  so_far = put_more g.met.K.Ord.total c.args.rows.now c.requires.sorted c.loop-row.row-index c.row-item.result c.loop-row-test.true c.row-item.is
      c.args.table.now (c.loop-row.merged.items ++ c.loop-row.rest.now) (c.put_next.new.merged.items ++ c.in_ok-rest.rest.now) c.loop-row.invariant.so_far c.in_ok-rest.ensures.rows;
  reached = reached_more g.met.K.Ord.total c.args.rows.now c.requires.sorted c.loop-row.row-index c.row-item.result c.loop-row-test.true c.row-item.is
      c.put_next.new.merged.items c.in_ok-rest.ensures.reached;
}
