use Rattle.std.proofs.Common.{rules, subst, w64, SFits, ap, inl, ◌∙◌, ℤ}
use Rattle.std.proofs.lemmas.Int.{to_z-of_z}
use Rattle.hh_requests.specs.declared.request.Request.{Request}
use Rattle.hh_states.specs.States.{State}
use Rattle.hh_http_serve.specs.Machine.{next}
use Rattle.hh_http_serve.specs.Views.{midnight_of}
use Rattle.hh_http_serve.specs.Promises.{HandleStep, RepresentsAfter}
use Rattle.hh_script.specs.Steps.{run_of}
use Rattle.hh_desk.specs.Doing.{request_for}
use Rattle.hh_desk.proofs.CrashLaws.{crash_alike}
use Rattle.hh_desk.proofs.DoingLaws.{run_answered}
use Rattle.hh_desk.proofs.GivingUpLaws.{reply_up}
use Rattle.hh_desk.proofs.doing.make_run.Goals as goal

pub returns-in-Ok-clause-runs : goal.returns-in-Ok-clause-runs
returns-in-Ok-clause-runs g c sure =
    let old = c.args.office.now.seen in
    let new = c.handle.new.self.seen in
    let run = run_of c.args.line.now in
    let fits : SFits w64 run.moment = search rules in
    run_answered old new _ _ run c.in-Ok.request c.in-Ok.ensures c.handle.result (c.handle.ensures.refusals_counted sure)
    (subst (λ m. HandleStep old new m c.in-Ok.request c.handle.result) (to_z-of_z w64 run.moment fits) (c.handle.ensures.step sure))
    (subst (λ m. RepresentsAfter old new m c.in-Ok.request c.handle.result) (to_z-of_z w64 run.moment fits) (c.handle.ensures.represents sure))

pub returns-in-Ok-clause-refusals_up : goal.returns-in-Ok-clause-refusals_up
returns-in-Ok-clause-refusals_up g c sure some = reply_up _ _ c.handle.result (c.handle.ensures.refusals_counted sure some)

pub returns-in-Ok-clause-left : goal.returns-in-Ok-clause-left
returns-in-Ok-clause-left g c =
    let run = run_of c.args.line.now in
    let midnight = midnight_of c.args.office.now.seen in
    let fits : SFits w64 run.moment = search rules in
    let same = λ (s : State).
    ap (λ (m : ℤ). next midnight s m c.in-Ok.request) (to_z-of_z w64 run.moment fits)
    ∙ ap (λ (r : Request). next midnight s run.moment r) c.in-Ok.ensures in
    inl (crash_alike g.T.Tables.is_honest g.T.Tables.is_open g.T.Tables.may_leave g.T.Tables.holds c.args.office.now c.handle.new.self _ run.moment c.in-Ok.request (request_for run) c.handle.result same c.handle.ensures.left)
