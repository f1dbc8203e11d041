use Rattle.std.proofs.Common.{rules, ◌∙◌, subst, sym}
use borrow.Author.Tests.{tests}
use Rattle.std.specs.Ordering.{is_lt}
use Rattle.std.proofs.lemmas.List.Sorted.{IsPartitionPoint-from_clause}
use Rattle.hh_tables.specs.Places.{IsPlaceOf}
use Rattle.hh_tables.specs.Tables.{IsTable}
use Rattle.hh_tables.proofs.OrderLaws.{below_partitions}
use Rattle.hh_tables.proofs.SearchLaws.{searchable}
use Rattle.hh_tables.proofs.list_table.ListTable.count_below.Goals as goal

pub returns : goal.returns
returns g c =
    let is = sym (c.deref.ensures.value ∙ c.self.view_is) in
    let rising = subst (IsTable g.K.Ord.cmp) c.self.view_is c.self.invariant in
    let key = c.args.key.now in
    subst (λ es. IsPlaceOf g.K.Ord.cmp key es c.partition_point.result) (sym is)
    (IsPartitionPoint-from_clause (λ row. is_lt (g.K.Ord.cmp row.0 key)) c.deref.result.now c.partition_point.result c.partition_point.ensures.partitioned
    (below_partitions (λ row. g.K.Ord.cmp row.0 key) c.deref.result.now (searchable g.met.K.Ord.total c.deref.result.now (subst (IsTable g.K.Ord.cmp) is rising) key)) (λ a r f k. search (rules, tests)))
