use Rattle.std.proofs.Common.{◌≡◌, rules, subst, sym, ap, ◌∙◌, take, true, false}
use borrow.Author.Tests.{tests}
use Rattle.std.specs.Prelude.{T, filter}
use Rattle.std.specs.FinMap.{is_sorted}
use Rattle.std.specs.List.Sorted.{IsNonDecreasingBy, IsPartitionPoint}
use Rattle.std.specs.Ordering.{is_le, is_lt, ordering_index}
use Rattle.std.proofs.lemmas.List.Sorted.{IsNonDecreasingBy-drop, IsPartitionPoint-from_clause}
use Rattle.hh_tables.proofs.MergeLaws.{from_true}
use Rattle.hh_tables.proofs.OrderLaws.{below_partitions, up_to_partitions}
use Rattle.hh_states.specs.Content.{credit_key_cmp}
use Rattle.hh_states.specs.Beside.{is_credit_of}
use Rattle.hh_settled_periods.proofs.RunRangeLaws.{credit_order, credits_between, credits_rise}
use Rattle.hh_settled_periods.proofs.same_since.credits_at.Goals as goal

pub returns : goal.returns
returns c =
    let run = c.args.run.now in
    let period = c.args.period in
    let rows = c.rows-rows.result.now in
    let rest = c.split_at.result.1.now in
    let first = c.partition_point-first.result in
    let count = c.partition_point-count.result in
    let lent = c.rows-rows.ensures.value in
    let back = c.split_at.ensures.back in
    let sorted = subst (λ es. T (is_sorted credit_key_cmp es)) (sym lent) (from_true _ c.rows-rows.ensures.rising) in
    let rising = credits_rise run period rows sorted in
    let rising_rest = subst (λ es. IsNonDecreasingBy (λ e. ordering_index (credit_order run period e)) es) (sym back)
    (IsNonDecreasingBy-drop (λ e. ordering_index (credit_order run period e)) first rows rising) in
    let low = IsPartitionPoint-from_clause (λ e. is_lt (credit_order run period e)) rows first c.partition_point-first.ensures.partitioned
    (below_partitions (credit_order run period) rows rising) (λ a r f k. search (rules, tests)) in
    let high = IsPartitionPoint-from_clause (λ e. is_le (credit_order run period e)) rest count c.partition_point-count.ensures.partitioned
    (up_to_partitions (credit_order run period) rest rising_rest) (λ a r f k. search (rules, tests)) in
    c.split_at-2.ensures.front
    ∙ ap (take count) back
    ∙ credits_between run period rows first count low
    (subst (λ es. IsPartitionPoint (λ e. is_le (credit_order run period e) ≡ true) (λ e. is_le (credit_order run period e) ≡ false) es count) back high)
    ∙ ap (filter (is_credit_of run period)) lent
