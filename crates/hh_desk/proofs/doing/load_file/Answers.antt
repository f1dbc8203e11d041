use Rattle.std.proofs.Common.{rules, subst, arith, w64, SFits, ap, inl, ◌∙◌, ℤ}
use Rattle.std.proofs.lemmas.Int.{to_z-of_z}
use Rattle.hh_requests.specs.declared.request.Request.{Request}
use Rattle.hh_states.specs.States.{State}
use Rattle.hh_http_serve.specs.Machine.{next}
use Rattle.hh_http_serve.specs.Transitions.{Transition}
use Rattle.hh_http_serve.specs.Views.{midnight_of}
use Rattle.hh_http_serve.specs.Promises.{HandleStep, RepresentsAfter}
use Rattle.hh_script.specs.Steps.{load_of}
use Rattle.hh_desk.specs.Doing.{request_of}
use Rattle.hh_desk.proofs.CrashLaws.{crash_alike}
use Rattle.hh_desk.proofs.DoingLaws.{by_front, load_answered}
use Rattle.hh_desk.proofs.GivingUpLaws.{reply_up}
use Rattle.hh_desk.proofs.doing.load_file.Goals as goal

pub returns-in-Ok-clause-runs : goal.returns-in-Ok-clause-runs
returns-in-Ok-clause-runs g c sure =
    let old = c.args.office.now.seen in
    let new = c.handle.new.self.seen in
    let load = load_of c.args.load.now in
    let fits : SFits w64 load.moment = search rules in
    let (all, read, is) = c.in-Ok.ensures.request in
    load_answered (g.H.Host.view c.args.host.now) old new _ _ load all 1048577 (omega arith) read c.in-Ok.request is c.handle.result (c.handle.ensures.refusals_counted sure)
    (subst (λ m. HandleStep old new m c.in-Ok.request c.handle.result) (to_z-of_z w64 load.moment fits) (c.handle.ensures.step sure))
    (subst (λ m. RepresentsAfter old new m c.in-Ok.request c.handle.result) (to_z-of_z w64 load.moment fits) (c.handle.ensures.represents sure))

pub returns-in-Ok-clause-refusals_up : goal.returns-in-Ok-clause-refusals_up
returns-in-Ok-clause-refusals_up g c sure some = reply_up _ _ c.handle.result (c.handle.ensures.refusals_counted sure some)

pub returns-in-Ok-clause-left : goal.returns-in-Ok-clause-left
returns-in-Ok-clause-left g c =
    let load = load_of c.args.load.now in
    let midnight = midnight_of c.args.office.now.seen in
    let fits : SFits w64 load.moment = search rules in
    let (all, read, is) = c.in-Ok.ensures.request in
    let same = λ (s : State).
    ap (λ (m : ℤ). next midnight s m c.in-Ok.request) (to_z-of_z w64 load.moment fits)
    ∙ ap (λ (r : Request). next midnight s load.moment r) is
    ∙ ap (λ (t : Transition). t.state) (by_front midnight s load all 1048577 (omega arith)) in
    inl (all, read, crash_alike g.T.Tables.is_honest g.T.Tables.is_open g.T.Tables.may_leave g.T.Tables.holds c.args.office.now c.handle.new.self _ load.moment c.in-Ok.request (request_of load all) c.handle.result same c.handle.ensures.left)
