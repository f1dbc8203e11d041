use Rattle.std.proofs.Common.{◌<◌, ◌∙◌, subst, sym}
use Rattle.hh_rules.proofs.WalkLaws.{IsLeft, at_start, found, next, none_found, none_past}
use Rattle.hh_rules.proofs.register.Register.is_reallocated_to_lead.Goals as goal

pub loop-key-init : goal.loop-key-init
loop-key-init c =
    subst (λ v. IsLeft c.args.row.now v.standing.tables.reallocations c.into_iter-key-iterator.result) c.self.view_is
    (at_start c.args.row.now c.last_key_of-first.result c.last_key_of-first.ensures.unit
    (subst (λ d. d < c.args.row.now.registration.range.from) (sym c.last_key_of-first.ensures.date) c.requires)
    c.self.inside.reallocations c.into_iter-key-iterator.result c.rows_from-key-items.ensures.rising
    (c.into_iter-key-iterator.ensures.into_iter_gives ∙ c.rows_from-key-items.ensures.value))

pub loop-key-preserved : goal.loop-key-preserved
loop-key-preserved c =
    next c.args.row.now c.args.self.now.standing.tables.reallocations c.loop-key.key-iterator c.loop-key.invariant
    (c.in-Some.key.now, c.in-Some.field-0-1.now) c.next.new.self c.in-Some.ensures.steps (sym c.is_to_lead_of.ensures ∙ c.if-is_to_lead_of.false)

pub returns-then-is_to_lead_of : goal.returns-then-is_to_lead_of
returns-then-is_to_lead_of c =
    found c.args.row.now c.args.self.now.standing.tables.reallocations c.loop-key.key-iterator c.loop-key.invariant
    (c.in-Some.key.now, c.in-Some.field-0-1.now) c.next.new.self c.in-Some.ensures.steps (sym c.is_to_lead_of.ensures ∙ c.if-is_to_lead_of.true)

pub returns-then-is_past : goal.returns-then-is_past
returns-then-is_past c =
    none_past c.args.row.now c.args.self.now.standing.tables.reallocations c.loop-key.key-iterator c.loop-key.invariant
    (c.in-Some.key.now, c.in-Some.field-0-1.now) c.next.new.self c.in-Some.ensures.steps
    (sym c.is_to_lead_of.ensures ∙ c.if-is_to_lead_of.false) (sym c.is_past.ensures ∙ c.if-is_past.true)

pub returns : goal.returns
returns c =
    none_found c.args.row.now c.args.self.now.standing.tables.reallocations c.loop-key.key-iterator c.loop-key.invariant c.in-None.ensures.steps.0
