-- What a line that serves does, given what came of the connections on its port.
use Rattle.std.proofs.Common.{ℕ, [], true, false, refl, inl, inr}
use Rattle.hh_devices.specs.DeviceChanges.{DeviceChange}
use Rattle.hh_devices.specs.Devices.{AppendsFront}
use Rattle.hh_desk.specs.Views.{OfficeView}
use Rattle.hh_sockets.specs.Ports.{IsPortFor}
use Rattle.hh_host.specs.Views.{HostView}
use Rattle.hh_script.specs.declared.serve.ServeLine.{ServeLine}
use Rattle.hh_desk.specs.Lines.{listening_line}
use Rattle.hh_session.specs.steps.Serving.{StopsServing}
use Rattle.hh_session.specs.Serving.{no_socket_line}

-- A line that serves has begun, and the office is as it was.
module _ (host : HostView) (fails : Type 0) (office : OfficeView) (device : DeviceChange) (line : ServeLine) where
  pub serving_cut : (port : ℕ) → IsPortFor line.port port → host.ports.brings line.port [] → AppendsFront device.old device.new (listening_line port)
      → StopsServing host fails office office device line
  serving_cut port is none went s stands = (true, listening_line port, s, inr (port, is, refl, refl, ([], [], none, refl, tt, refl)), went, (stands, refl))

  pub no_socket_cut : host.ports.refuses line.port → AppendsFront device.old device.new no_socket_line → StopsServing host fails office office device line
  no_socket_cut refused went s stands = (false, no_socket_line, s, inl (refused, refl, refl, refl), went, (stands, refl))
