use Rattle.std.proofs.Common.{rules, take_all}
use Rattle.std.proofs.lemmas.List.Filters.{length-filter_more}
use Rattle.std.proofs.lemmas.List.Sums.{length-filter, count_by-le-length}
use Rattle.hh_store.specs.DayReads.{is_changed}
use Rattle.hh_store.proofs.day_data.DayData.changed.Goals as goal
use Rattle.hh_store.proofs.day_data.DayData.changed.Goals.{then-is_changed, else-is_changed}

pub overflow_add-count : goal.overflow_add-count
overflow_add-count c = search (rules, length-filter, count_by-le-length)

pub loop-period-preserved : goal.loop-period-preserved
loop-period-preserved c =
    let more = length-filter_more is_changed c.deref-period-items.result.now c.loop-period.period-index c.period-item.result c.loop-period-test.true in
    elim c.if-is_changed.branch [
      | then-is_changed w ↦ search (rules, more, w)
      | else-is_changed w ↦ search (rules, more, w)
    ]

pub returns : goal.returns
returns c = search (rules, take_all)
