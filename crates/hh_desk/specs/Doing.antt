-- What comes of loads and runs at the desk of an office.
use Rattle.std.specs.Prelude.{◌≡◌, ◌⊎◌, ℕ, List, Some, None, IsTrue}
use Rattle.hh_time.specs.Days.{Midnights}
use Rattle.hh_names.specs.Faults.{memory_fault}
use Rattle.hh_requests.specs.declared.request.Action.TheVariants as ask
use Rattle.hh_requests.specs.declared.request.Request.{Request}
use Rattle.hh_requests.specs.declared.reply.Reply.TheVariants as reply
use Rattle.hh_states.specs.States.{State}
use Rattle.hh_http_serve.specs.Machine.{step}
use Rattle.hh_http_serve.specs.Transitions.{Transition}
use Rattle.hh_http_serve.specs.Promises.{Represents, RepresentsNow, is_refused}
use Rattle.hh_http_serve.specs.Views.{OfficeView, midnight_of}
use Rattle.hh_host.specs.Views.{HostView}
use Rattle.hh_script.specs.Steps.{LoadStep, RunStep}
use Rattle.hh_desk.specs.declared.told.Told.{Told}
use Rattle.hh_desk.specs.declared.told.Told.TheVariants.{Replied, Unreadable}
use Rattle.hh_desk.specs.GivingUp.{IsGivenUpWhere}

-- memory was refused
abbrev pub no_memory : Told
no_memory = Replied (reply.Refused memory_fault)

-- what a load asks of the office once its file is read
abbrev pub request_of : LoadStep → List ℕ → Request
request_of load body = record {
  key = load.key;
  action = ask.Load (record { kind = load.kind; name = load.name; body = body });
}

-- what a run asks of the office
abbrev pub request_for : RunStep → Request
request_for run = record { key = run.key; action = ask.Run run.run }

-- the file of a load was read, and the machine answered
abbrev pub IsAnswered : HostView → Midnights → State → LoadStep → Told → State → Type 0
IsAnswered host midnight s load told t =
    (body : List ℕ) × host.reads load.path (Some body)
    × (let transition : Transition = step midnight s load.moment (request_of load body) in (told ≡ Replied transition.reply) × (t ≡ transition.state))

-- What comes of a load in a state, and the state after it: its file cannot be read, it is answered, or it is given up. The store may have
-- failed only if `fails` holds.
abbrev pub LoadDoes : HostView → Type 0 → Midnights → State → LoadStep → Told → State → Type 0
LoadDoes host fails midnight s load Unreadable t = host.reads load.path None × (t ≡ s)
LoadDoes host fails midnight s load (Replied given) t =
    IsAnswered host midnight s load (Replied given) t ⊎ (IsGivenUpWhere fails given × (t ≡ s))

-- What comes of a run in a state, and the state after it: it is answered, or it is given up. The store may have failed only if `fails`
-- holds.
abbrev pub RunDoes : Type 0 → Midnights → State → RunStep → Told → State → Type 0
RunDoes fails midnight s run Unreadable t = ⊥
RunDoes fails midnight s run (Replied given) t =
    (let transition : Transition = step midnight s run.moment (request_for run) in (given ≡ transition.reply) × (t ≡ transition.state))
    ⊎ (IsGivenUpWhere fails given × (t ≡ s))

-- a request was refused
abbrev pub IsRefusal : Told → Type 0
IsRefusal Unreadable = ⊥
IsRefusal (Replied given) = IsTrue (is_refused given)

-- `old` is the office before the call, and `new` after it. The store may have failed only if `fails` holds.
module _ (fails : Type 0) (old new : OfficeView) where
  -- what comes of a load in each state that the office represented
  abbrev pub RunsLoad : HostView → LoadStep → Told → Type 0
  RunsLoad host load told = (s : State) → Represents old s → (t : State) × LoadDoes host fails (midnight_of old) s load told t × RepresentsNow old new t

  -- what comes of a run in each state that the office represented
  abbrev pub OrdersRun : RunStep → Told → Type 0
  OrdersRun run told = (s : State) → Represents old s → (t : State) × RunDoes fails (midnight_of old) s run told t × RepresentsNow old new t

-- a refusal leaves the office as it is
abbrev pub LeavesRefused : OfficeView → OfficeView → Told → Type 0
LeavesRefused old new told = IsRefusal told → new ≡ old
