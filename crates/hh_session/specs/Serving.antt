-- What comes of the lines of a script that serve connections.
use Rattle.std.specs.Prelude.{◌≡◌, ◌⊎◌, ℕ, Bool, true, false, List, length, codes}
use Rattle.hh_time.specs.Days.{Midnights}
use Rattle.hh_states.specs.States.{State}
use Rattle.hh_sockets.specs.Arrivals.{Arrival}
use Rattle.hh_sockets.specs.Ports.{IsPortFor}
use Rattle.hh_host.specs.Clocks.{AllTell, ClockReading}
use Rattle.hh_host.specs.Views.{HostView}
use Rattle.hh_script.specs.declared.serve.ServeLine.{ServeLine}
use Rattle.hh_desk.specs.Lines.{listening_line}
use Rattle.hh_desk.specs.Serving.{AreServed}

-- the line that tells that a port cannot be listened on
abbrev pub no_socket_line : List ℕ
no_socket_line = codes "fault socket\n"

-- `host` is what a host may show about files and ports. The store may have failed only if `fails` holds.
module _ (host : HostView) (fails : Type 0) (midnight : Midnights) (s : State) (line : ServeLine) where
  -- as many connections were awaited as the line says, and each that came was served at the line's moment
  abbrev pub AwaitsAll : State → Type 0
  AwaitsAll t =
      (arrivals : List Arrival) × (readings : List ClockReading)
      × host.ports.brings line.port arrivals × (length arrivals ≡ line.count) × AllTell line.moment readings
      × AreServed fails midnight arrivals readings s t

  -- what a line that serves does in a state: whether it is done, what it writes, and the state after it
  abbrev pub ServeDoes : Bool → List ℕ → State → Type 0
  ServeDoes done text t =
      (host.ports.refuses line.port × (done ≡ false) × (text ≡ no_socket_line) × (t ≡ s))
      ⊎ ((port : ℕ) × IsPortFor line.port port × (done ≡ true) × (text ≡ listening_line port) × AwaitsAll t)

-- what a line that serves becomes if its output fails: it awaits no connection
abbrev pub awaits_none : ServeLine → ServeLine
awaits_none line = record line { count = 0 }
