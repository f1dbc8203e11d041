-- How the parts of a request count the refusals of the store.
use Rattle.std.specs.Prelude.{◌≡◌, ℕ, Result, Ok, Err}
use Rattle.hh_names.specs.declared.fault.Fault.{Fault}
use Rattle.hh_office.specs.Refusals.{CountsStoreFault}

-- the store counts one refusal if the answer to a part of a request is a fault of the store, and otherwise none
abbrev pub CountsAnswer : {A : Type 0} → Result A Fault → ℕ → ℕ → Type 0
CountsAnswer (Ok x) old new = new ≡ old
CountsAnswer (Err fault) old new = CountsStoreFault fault old new
