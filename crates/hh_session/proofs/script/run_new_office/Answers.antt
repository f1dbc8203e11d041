use Rattle.std.proofs.Common.{◌≡◌, Err, map, refl, subst}
use Rattle.hh_devices.specs.DeviceChanges.{change}
use Rattle.hh_script.specs.Steps.{step_of}
use Rattle.hh_session.specs.Course.{AllDone}
use Rattle.hh_session.proofs.CourseLaws.{OnOk-map, ended_early}
use Rattle.hh_session.proofs.ScriptLaws.{new_office_ends, new_office_writes}
use Rattle.hh_session.proofs.script.run_new_office.Goals as goal

pub returns-clause-done : goal.returns-clause-done
returns-clause-done g c =
    OnOk-map c.run_lines.result _ _
    (new_office_writes (g.H.Host.view c.args.host.now) c.args.settings c.are_settings.ensures c.reached_conserve.ensures c.london.result c.london.ensures c.new.result c.new.ensures.represents c.run_lines.new.office.seen
    (change g.O.Sink.taken g.O.Sink.failures c.args.out.now c.run_lines.new.out) (AllDone c.args.strict) (map step_of c.args.lines.now)) (rw c.new-office.ensures.seen at (c.run_lines.ensures.done refl))

pub returns-clause-stopped : goal.returns-clause-stopped
returns-clause-stopped g c =
    ended_early _ _ c.run_lines.result
    (λ why is. new_office_ends (g.H.Host.view c.args.host.now) c.args.settings c.are_settings.ensures c.reached_conserve.ensures c.london.result c.london.ensures c.new.result c.new.ensures.represents c.run_lines.new.office.seen
    (change g.O.Sink.taken g.O.Sink.failures c.args.out.now c.run_lines.new.out) c.args.strict (map step_of c.args.lines.now) why (λ output. c.run_lines.ensures.failed (subst (λ w. c.run_lines.result ≡ Err w) output is)))
    (rw c.new-office.ensures.seen at (c.run_lines.ensures.cut refl))
