-- What contracts see of a host.
use Rattle.std.specs.Prelude.{⊤, ℕ, List, Option}
use Rattle.hh_sockets.specs.Ports.{Ports}

-- what may be found about the files and ports that a command uses
pub record HostView : Type 1 where
  -- what a path may read as: the bytes of its file, or None if it cannot be read
  pub reads : List ℕ → Option (List ℕ) → Type 0
  -- what is known about ports
  pub ports : Ports

-- nothing is known: a path may read as anything, and anything may come on a port
abbrev pub any_view : HostView
any_view = record { reads = λ _ _. ⊤; ports = record { refuses = λ _. ⊤; brings = λ _ _. ⊤ } }
