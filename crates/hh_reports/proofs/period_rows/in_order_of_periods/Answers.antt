use Rattle.std.proofs.Common.{◌∙◌, ap, rules}
use Rattle.std.specs.Prelude.{filter}
use Rattle.std.specs.List.Sorted.{ties}
use Rattle.std.specs.Ordering.{is_lt, nat_cmp}
use Rattle.std.proofs.lemmas.List.Sorted.{answers_always, IsNonDecreasingBy-from_sort_by_key}
use Rattle.hh_reports.proofs.period_rows.in_order_of_periods.Goals as goal

pub returns-clause-rising : goal.returns-clause-rising
returns-clause-rising c = IsNonDecreasingBy-from_sort_by_key (λ row. row.0) _ c.in_ok-sort_by_key.ensures.sorted (λ a r q k. search rules)

pub returns-clause-stable : goal.returns-clause-stable
returns-clause-stable c = λ x.
    c.sort_by_key.ensures.stable (λ row. row.0) (answers_always _ _ _ (λ f a r f' k. search rules)) x
    ∙ ap (filter (ties (λ a b. is_lt (nat_cmp a.0 b.0)) x)) c.in_ok-sorted.ensures.items
