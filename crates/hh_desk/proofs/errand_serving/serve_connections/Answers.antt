use Rattle.std.proofs.Common.{◌≡◌, ◌∙◌, [], subst, sym}
use Rattle.hh_devices.specs.DeviceChanges.{change}
use Rattle.hh_devices.specs.Devices.{AppendsFront}
use Rattle.hh_sockets.specs.Ports.{IsPortFor}
use Rattle.hh_desk.specs.Lines.{listening_line}
use Rattle.hh_desk.proofs.ErrandLaws.{serving_cut}
use Rattle.hh_desk.proofs.errand_serving.serve_connections.Goals as goal

pub returns-in_err-write_whole-in-Ok-clause-ends : goal.returns-in_err-write_whole-in-Ok-clause-ends
returns-in_err-write_whole-in-Ok-clause-ends g c sure =
    let device = change g.O.Sink.taken g.O.Sink.failures c.args.out.now c.write_whole.new.sink in
    let text : c.deref.result.now ≡ listening_line c.port.result = c.deref.ensures.0 ∙ c.listening_line.ensures in
    serving_cut (g.H.Host.view c.args.host.now) _ c.args.office.now.seen device c.args.serve.now c.port.result
    (subst (λ port. IsPortFor c.args.serve.now.port port) (sym c.port.ensures) c.in-Ok.ensures.port) (c.in-Ok.ensures.brings [] c.in-Ok.listener c.in-Ok.ensures.begins)
    (subst (AppendsFront device.old device.new) text c.in_err-write_whole-in-Ok.ensures.front) c.from_residual.result c.from_residual.ensures.1
