use Rattle.std.proofs.Common.{rules, sym, subst, ◌+◌, length}
use Rattle.std.proofs.lemmas.List.Elements.{All-get_or}
use Rattle.std.proofs.lemmas.List.{length_push}
use Rattle.std.proofs.lemmas.Slice.Zip.{zip_end, zip_turn}
use Rattle.hh_day.specs.RunLimits.{MayBeSettled}
use Rattle.hh_day.specs.steps.PeriodSteps.{SettlesPeriod}
use Rattle.hh_day.proofs.SettleLaws.{SettlesFirst, passes_first, settles_all, settles_next}
use Rattle.hh_day.proofs.settle.settle_periods.Goals as goal

pub returns-in_default-clause-settles : goal.returns-in_default-clause-settles
returns-in_default-clause-settles c =
    let turn = zip_turn c.args.periods.now c.args.states.now c.loop-at.yielded c.into_iter-at-iterator.result c.loop-at.at-iterator c.next.new.self _ (cc) (cc) c.loop-at.yielded_by (c.in-Some.at, c.in-Some.state) c.in-Some.is c.next.ensures.steps in
    passes_first c.args.periods.now c.args.states.now (length c.loop-at.yielded) c.in-Some.at.now c.in-Some.state.now turn.0 (sym (turn.2 c.in-Some.at.now)) (sym (turn.3 c.in-Some.state.now)) c.loop-at.settled.items c.loop-at.invariant
    (subst (SettlesPeriod c.in-Some.at.now c.in-Some.state.now) c.in_default.is c.in_ok-period.ensures.settles)

pub returns-clause-settles : goal.returns-clause-settles
returns-clause-settles c =
    let ended = zip_end c.args.periods.now c.args.states.now c.loop-at.yielded c.into_iter-at-iterator.result c.loop-at.at-iterator c.next.new.self _ (cc) (cc) c.loop-at.yielded_by c.in-None.is c.next.ensures.steps in
    settles_all c.args.periods.now c.args.states.now (length c.loop-at.yielded) c.loop-at.settled.items ended c.loop-at.invariant

pub loop-at-preserved : goal.loop-at-preserved
loop-at-preserved c =
    let turn = zip_turn c.args.periods.now c.args.states.now c.loop-at.yielded c.into_iter-at-iterator.result c.loop-at.at-iterator c.next.new.self _ (cc) (cc) c.loop-at.yielded_by (c.in-Some.at, c.in-Some.state) c.in-Some.is c.next.ensures.steps in
    let next = settles_next c.args.periods.now c.args.states.now (length c.loop-at.yielded) c.in-Some.at.now c.in-Some.state.now turn.0 (sym (turn.2 c.in-Some.at.now)) (sym (turn.3 c.in-Some.state.now)) c.loop-at.settled.items c.loop-at.invariant _ (subst (SettlesPeriod c.in-Some.at.now c.in-Some.state.now) c.in-Some-2.is c.in_ok-period.ensures.settles) in
    subst (λ n. SettlesFirst n c.args.periods.now c.args.states.now c.push.new.self.items) (sym (length_push c.loop-at.yielded (c.in-Some.at, c.in-Some.state)))
    (subst (SettlesFirst (length c.loop-at.yielded + 1) c.args.periods.now c.args.states.now) (sym c.in_ok-push.ensures.items) next)

pub returns-in_err-period-clause-memory_alone : goal.returns-in_err-period-clause-memory_alone
returns-in_err-period-clause-memory_alone c all =
    let turn = zip_turn c.args.periods.now c.args.states.now c.loop-at.yielded c.into_iter-at-iterator.result c.loop-at.at-iterator c.next.new.self _ (cc) (cc) c.loop-at.yielded_by (c.in-Some.at, c.in-Some.state) c.in-Some.is c.next.ensures.steps in
    let ready : MayBeSettled c.in-Some.state.now = subst MayBeSettled (sym (turn.3 c.in-Some.state.now)) (All-get_or MayBeSettled c.args.states.now (length c.loop-at.yielded) c.in-Some.state.now turn.1 all) in
    let fault = c.in_err-period.ensures.memory_alone ready in
    search (rules, fault)
