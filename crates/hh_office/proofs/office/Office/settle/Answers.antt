use Rattle.std.proofs.Common.{ap, subst, sym, w64, to_z, of_z}
use Rattle.std.specs.Prelude.{All}
use Rattle.std.proofs.lemmas.Int.{to_z-of_z}
use Rattle.hh_states.specs.DaySettlement.{periods_on}
use Rattle.hh_day.specs.NewRuns.{SettlesDay}
use Rattle.hh_office.specs.steps.Settling.{IsOverDay, RefusesIn}
use Rattle.hh_office.specs.Views.{Kept, midnight_of}
use Rattle.hh_day.specs.RunLimits.{MayBeSettled}
use Rattle.hh_store.specs.StoreFaults.{store_fault}
use Rattle.hh_office.proofs.RefusalLaws.{memory_counted, reached_in_step, reached_ready, store_unless}
use Rattle.hh_office.proofs.RunLaws.{SettledAs, exceeds_refused, in_step, lacks, passed_err, settles}
use Rattle.hh_office.proofs.office.Office.settle.Goals as goal

pub returns-in_err-states-clause-refused : goal.returns-in_err-states-clause-refused
returns-in_err-states-clause-refused g c sure =
    let office = c.args.self.now.seen in
    let over = subst (λ m. IsOverDay (midnight_of office) m c.args.date c.in_ok-day.day) (to_z-of_z w64 c.args.moment c.ranges.moment)
    (subst (λ m. IsOverDay m (to_z w64 (of_z w64 c.args.moment)) c.args.date c.in_ok-day.day) (ap (λ (k : Kept _). midnight_of k.seen) c.self.view_is) c.in_ok-day.ensures.over) in
    passed_err c.from_residual-in_err-states.result c.in_err-states.field-0.0 (RefusesIn office c.args.moment c.args.date) c.from_residual-in_err-states.ensures
    (λ s stands. lacks office s stands c.args.moment c.args.date c.in_ok-day.day over c.in_err-states.field-0.0 (c.in_err-states.ensures.lacking sure (in_step office s stands)))

pub returns-in-Settled-clause-settled : goal.returns-in-Settled-clause-settled
returns-in-Settled-clause-settled g c sure s stands =
    let office = c.args.self.now.seen in
    let over = subst (λ m. IsOverDay (midnight_of office) m c.args.date c.in_ok-day.day) (to_z-of_z w64 c.args.moment c.ranges.moment)
    (subst (λ m. IsOverDay m (to_z w64 (of_z w64 c.args.moment)) c.args.date c.in_ok-day.day) (ap (λ (k : Kept _). midnight_of k.seen) c.self.view_is) c.in_ok-day.ensures.over) in
    let does = subst (λ terms. SettlesDay (periods_on c.in_ok-day.day.date c.in_ok-day.day.count) terms c.in_ok-periods.field-0) c.deref.ensures.value c.in_ok-periods.ensures.settles in
    subst (SettledAs office s c.args.moment c.args.date) c.in-Settled.is
    (settles office s stands c.args.moment c.args.date c.in_ok-day.day over c.periods_ready.ensures c.in_ok-states.states.items (c.in_ok-states.ensures.states sure (in_step office s stands)) c.in_ok-periods.field-0 does)

pub returns-clause-refused : goal.returns-clause-refused
returns-clause-refused g c sure s stands =
    let office = c.args.self.now.seen in
    let over = subst (λ m. IsOverDay (midnight_of office) m c.args.date c.in_ok-day.day) (to_z-of_z w64 c.args.moment c.ranges.moment)
    (subst (λ m. IsOverDay m (to_z w64 (of_z w64 c.args.moment)) c.args.date c.in_ok-day.day) (ap (λ (k : Kept _). midnight_of k.seen) c.self.view_is) c.in_ok-day.ensures.over) in
    let does = subst (λ terms. SettlesDay (periods_on c.in_ok-day.day.date c.in_ok-day.day.count) terms c.in_ok-periods.field-0) c.deref.ensures.value c.in_ok-periods.ensures.settles in
    exceeds_refused office s c.args.moment c.args.date c.in-TooLarge.at c.period_fault.result c.period_fault.ensures
    (subst (SettledAs office s c.args.moment c.args.date) c.in-TooLarge.is
    (settles office s stands c.args.moment c.args.date c.in_ok-day.day over c.periods_ready.ensures c.in_ok-states.states.items (c.in_ok-states.ensures.states sure (in_step office s stands)) c.in_ok-periods.field-0 does))

pub returns-in_err-periods-clause-refused : goal.returns-in_err-periods-clause-refused
returns-in_err-periods-clause-refused g c sure =
    let office = c.args.self.now.seen in
    let e = c.in_err-periods.field-0.0 in
    passed_err c.from_residual-in_err-periods.result (store_fault e) (RefusesIn office c.args.moment c.args.date) c.from_residual-in_err-periods.ensures
    (λ s stands. store_unless e _)

pub returns-in_err-periods-clause-refusals_counted : goal.returns-in_err-periods-clause-refusals_counted
returns-in_err-periods-clause-refusals_counted g c sure reached =
    let ready = reached_ready c.terms_ready.ensures c.args.self.now.seen.content reached _ c.in_ok-states.states.items (c.in_ok-states.ensures.states sure (reached_in_step c.args.self.now.seen.content reached)).1 in
    memory_counted c.from_residual-in_err-periods.result c.in_err-periods.field-0.0 _ _ c.from_residual-in_err-periods.ensures
    (c.in_err-periods.ensures.memory_alone (subst (All MayBeSettled) (sym c.deref.ensures.value) ready)) (c.in_ok-states.ensures.refusals_counted sure reached)
