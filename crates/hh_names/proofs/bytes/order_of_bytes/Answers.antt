use Rattle.std.proofs.Common.{sym, ◌∙◌, arith}
use Rattle.hh_names.proofs.ByteFacts.{fronts_tell, fronts_level}
use Rattle.hh_names.proofs.bytes.order_of_bytes.Goals as goal

pub returns-then-is_ne : goal.returns-then-is_ne
returns-then-is_ne c =
    let x = c.in-Some-Some.ensures.cases in
    let y = c.in-Some-Some.ensures'.cases in
    sym (c.loop-first_eight.invariant
    ∙ fronts_tell 8 c.loop-first_eight.first_rest.now c.loop-first_eight.second_rest.now _ _ c.in-Some-Some.first_after.now c.in-Some-Some.second_after.now _
    (omega (arith, x.2)) (omega (arith, y.2)) x.0 y.0 x.1 y.1 c.order_of_eight-order.ensures (sym c.is_ne.ensures ∙ c.if-is_ne.true))

pub loop-first_eight-preserved : goal.loop-first_eight-preserved
loop-first_eight-preserved c =
    let x = c.in-Some-Some.ensures.cases in
    let y = c.in-Some-Some.ensures'.cases in
    c.loop-first_eight.invariant
    ∙ fronts_level 8 c.loop-first_eight.first_rest.now c.loop-first_eight.second_rest.now _ _ c.in-Some-Some.first_after.now c.in-Some-Some.second_after.now _
    (omega (arith, x.2)) (omega (arith, y.2)) x.0 y.0 x.1 y.1 c.order_of_eight-order.ensures (sym c.is_ne.ensures ∙ c.if-is_ne.false)
