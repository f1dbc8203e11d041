use Rattle.std.proofs.Common.{◌≡◌, ◌∙◌, [], subst, sym}
use Rattle.hh_devices.specs.DeviceChanges.{change}
use Rattle.hh_devices.specs.Devices.{AppendsFront}
use Rattle.hh_sockets.specs.Ports.{IsPortFor}
use Rattle.hh_desk.specs.Lines.{listening_line}
use Rattle.hh_session.proofs.CourseLaws.{passed_failure}
use Rattle.hh_session.proofs.ServingLaws.{no_socket_cut, serving_cut}
use Rattle.hh_session.proofs.serving.serve_connections.Goals as goal

pub returns-in_err-write_whole-in-Ok-clause-cut : goal.returns-in_err-write_whole-in-Ok-clause-cut
returns-in_err-write_whole-in-Ok-clause-cut g c sure =
    let device = change g.O.Sink.taken g.O.Sink.failures c.args.out.now c.write_whole.new.sink in
    let text : c.deref.result.now ≡ listening_line c.port.result = c.deref.ensures.0 ∙ c.listening_line.ensures in
    passed_failure _ c.from_residual.result
    (serving_cut (g.H.Host.view c.args.host.now) _ c.args.office.now.seen device c.args.line.now c.port.result
    (subst (λ port. IsPortFor c.args.line.now.port port) (sym c.port.ensures) c.in-Ok.ensures.port) (c.in-Ok.ensures.brings [] c.in-Ok.listener c.in-Ok.ensures.begins)
    (subst (AppendsFront device.old device.new) text c.in_err-write_whole-in-Ok.ensures.front))

pub returns-in_err-write_whole-in-Err-clause-cut : goal.returns-in_err-write_whole-in-Err-clause-cut
returns-in_err-write_whole-in-Err-clause-cut g c sure =
    passed_failure _ c.from_residual-in_err-write_whole-in-Err.result
    (no_socket_cut (g.H.Host.view c.args.host.now) _ c.args.office.now.seen (change g.O.Sink.taken g.O.Sink.failures c.args.out.now c.write_whole-in-Err.new.sink) c.args.line.now c.in-Err.ensures.refused c.in_err-write_whole-in-Err.ensures.front)
