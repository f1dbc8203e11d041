use Rattle.std.proofs.Common.{rules}
use borrow.Author.Tests.{tests}
use Rattle.std.proofs.lemmas.List.Sorted.{IsPartitionPoint-from_clause}
use Rattle.hh_tables.proofs.MergeLaws.{from_true}
use Rattle.hh_tables.proofs.OrderLaws.{below_partitions}
use Rattle.hh_kept_rows.specs.steps.KeptReallocations.{is_before}
use Rattle.hh_settled_periods.proofs.RangeLaws.{beside, beside_rises}
use Rattle.hh_kept_rows.proofs.kept_reallocations.first_of.Goals as goal

pub returns-clause-begins : goal.returns-clause-begins
returns-clause-begins c =
    let key = c.args.key.now in
    let rows = c.args.rows.now in
    IsPartitionPoint-from_clause (is_before key) rows c.partition_point.result c.partition_point.ensures.partitioned
    (below_partitions (beside key) rows (beside_rises key rows (from_true _ c.requires))) (λ a r f k. search (rules, tests))
