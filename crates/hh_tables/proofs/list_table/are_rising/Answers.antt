use Rattle.std.proofs.Common.{arith, sym, ap, ◌∙◌}
use Rattle.std.specs.Ordering.{is_lt}
use Rattle.hh_tables.proofs.MergeLaws.{true_from}
use Rattle.hh_tables.proofs.OrderLaws.{is_less_by, not_sorted_at, rises_one_more, sorted_to}
use Rattle.hh_tables.proofs.list_table.are_rising.Goals as goal

pub loop-place-preserved : goal.loop-place-preserved
loop-place-preserved g c =
    rises_one_more g.K.Ord.cmp c.args.rows.now _ c.loop-place.place c.index-rows-place.result c.index-rows-place-in-loop-place.result (omega (arith, c.loop-place.auto.place)) c.loop-place-test.true
    c.loop-place.invariant (is_less_by _ (ap is_lt (sym c.cmp.ensures) ∙ sym c.is_lt.ensures ∙ c.if-not-is_lt.false))

pub returns-then-not-is_lt : goal.returns-then-not-is_lt
returns-then-not-is_lt g c =
    sym (not_sorted_at g.K.Ord.cmp c.args.rows.now _ c.loop-place.place c.index-rows-place.result c.index-rows-place-in-loop-place.result (omega (arith, c.loop-place.auto.place)) c.loop-place-test.true
    (ap is_lt (sym c.cmp.ensures) ∙ sym c.is_lt.ensures ∙ c.if-not-is_lt.true))

pub returns : goal.returns
returns g c = sym (true_from _ (sorted_to g.K.Ord.cmp g.met.K.Ord.total c.args.rows.now c.loop-place.place c.loop-place-test.false c.loop-place.invariant))
