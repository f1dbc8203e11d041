use Rattle.std.proofs.Common.{◌∙◌, ap, sym, rules}
use Rattle.std.specs.FinMap.{is_sorted}
use Rattle.std.proofs.lemmas.List.Sorted.{answers_always}
use Rattle.hh_tables.proofs.BehindLaws.{rising_in_order}
use Rattle.hh_tables.proofs.list_table.in_order_of_keys.Goals as goal

pub returns-then-are_rising-clause-sorted : goal.returns-then-are_rising-clause-sorted
returns-then-are_rising-clause-sorted g c =
    rising_in_order g.met.K.Ord.total c.args.rows.items (ap (is_sorted g.K.Ord.cmp) (sym c.deref.ensures.value) ∙ sym c.are_rising.ensures ∙ c.if-are_rising.true)

pub returns-clause-sorted : goal.returns-clause-sorted
returns-clause-sorted g c = c.in_ok-sort_by_key.ensures.sorted (λ row. row.0) (answers_always _ _ _ (λ f a r f' k. search rules))

pub returns-clause-stable : goal.returns-clause-stable
returns-clause-stable g c = c.sort_by_key.ensures.stable (λ row. row.0) (answers_always _ _ _ (λ f a r f' k. search rules))
