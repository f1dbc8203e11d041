use Rattle.std.proofs.Common.{◌∙◌, sym}
use Rattle.hh_registrations.proofs.UpToLaws.{begun_none, begun_other, begun_own}
use Rattle.hh_registrations.proofs.leads.last_begun.Goals as goal

pub returns-in_err-key-clause-value : goal.returns-in_err-key-clause-value
returns-in_err-key-clause-value c =
    c.from_residual.ensures ∙ begun_none c.args.leads.now c.args.unit.now c.args.date c.last_up_to.ensures.rising c.in_err-key.ensures.value

pub returns-then-eq-clause-value : goal.returns-then-eq-clause-value
returns-then-eq-clause-value c =
    begun_own c.args.leads.now c.args.unit.now c.args.date c.last_up_to.ensures.rising (c.in_ok-key.key, c.in_ok-key.term) c.in_ok-key.ensures.value (sym c.eq.ensures ∙ c.if-eq.true)

pub returns-else-eq-clause-value : goal.returns-else-eq-clause-value
returns-else-eq-clause-value c =
    begun_other c.args.leads.now c.args.unit.now c.args.date c.last_up_to.ensures.rising (c.in_ok-key.key, c.in_ok-key.term) c.in_ok-key.ensures.value (sym c.eq.ensures ∙ c.if-eq.false)
