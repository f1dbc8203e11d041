use Rattle.std.proofs.Common.{map}
use Rattle.hh_devices.specs.DeviceChanges.{change}
use Rattle.hh_script.specs.Steps.{step_of}
use Rattle.hh_session.specs.Script.{StopsAt}
use Rattle.hh_session.specs.declared.script.ScriptStop.TheVariants.{Early}
use Rattle.hh_session.proofs.CourseLaws.{ended_by}
use Rattle.hh_session.proofs.script.run_script.Goals as goal

pub returns-in_err-run_new_office-clause-stopped : goal.returns-in_err-run_new_office-clause-stopped
returns-in_err-run_new_office-clause-stopped g c =
    ended_by (StopsAt (g.H.Host.view c.args.host.now) c.args.path.now c.args.settings (change g.O.Sink.taken g.O.Sink.failures c.args.out.now c.run_new_office.new.out) c.args.strict)
    c.from_residual-in_err-run_new_office.result (Early c.in_err-run_new_office.field-0.0) c.from_residual-in_err-run_new_office.ensures.1 (
      map step_of c.in_ok-lines.lines.items,
      (c.in_ok-bytes.bytes.items, c.in_ok-bytes.ensures.whole, c.in_ok-bytes.ensures.small, rw c.deref.ensures.value at c.in_ok-lines.ensures.lines),
      rw c.deref-2.ensures.value at c.in_err-run_new_office.ensures.stopped,
    )
