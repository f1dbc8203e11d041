use Rattle.std.proofs.Common.{◌≡◌, subst, sym, ap, ◌∙◌, take, true, false}
use Rattle.std.specs.Ordering.{ordering_index}
use Rattle.std.specs.List.Sorted.{IsNonDecreasingBy, IsPartitionPoint}
use Rattle.std.proofs.lemmas.List.Sorted.{IsNonDecreasingBy-drop}
use Rattle.hh_tables.proofs.MergeLaws.{from_true}
use Rattle.hh_tables.proofs.OrderLaws.{up_to_partitions}
use Rattle.hh_kept_rows.specs.steps.KeptReallocations.{is_no_later}
use Rattle.hh_settled_periods.proofs.RangeLaws.{beside, beside_rises, between, none_behind}
use Rattle.hh_kept_rows.proofs.kept_reallocations.reallocations_of.Goals as goal

pub returns : goal.returns
returns c =
    let key = c.args.key.now in
    let rows = c.args.rows.now in
    let rest = c.split_at.result.1.now in
    let first = c.first_of-first.result in
    let count = c.count_of-count.result in
    let back = c.split_at.ensures.back in
    let rising = beside_rises key rows (from_true _ c.requires) in
    let rising_rest = subst (λ es. IsNonDecreasingBy (λ e. ordering_index (beside key e)) es) (sym back) (IsNonDecreasingBy-drop (λ e. ordering_index (beside key e)) first rows rising) in
    let high : IsPartitionPoint (λ e. is_no_later key e ≡ true) (λ e. is_no_later key e ≡ false) rest count = (c.count_of-count.ensures.front, none_behind (is_no_later key) rest (up_to_partitions (beside key) rest rising_rest) count c.count_of-count.ensures.behind) in
    c.split_at-2.ensures.front
    ∙ ap (take count) back
    ∙ between (beside key) rows first count c.first_of-first.ensures.begins (subst (λ es. IsPartitionPoint (λ e. is_no_later key e ≡ true) (λ e. is_no_later key e ≡ false) es count) back high)
