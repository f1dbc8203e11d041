-- What becomes of a request: a reply, and the state after it.
use Rattle.hh_names.specs.declared.fault.Fault.{Fault}
use Rattle.hh_names.specs.declared.fault.Refusal.{Refusal}
use Rattle.hh_names.specs.Faults.{plain_fault}
use Rattle.hh_requests.specs.declared.reply.Reply.{Reply}
use Rattle.hh_requests.specs.declared.reply.Reply.TheVariants as reply
use Rattle.hh_states.specs.States.{State}

-- what becomes of a request in a state: the reply, and the state after it
pub record Transition : Type 0 where
  pub reply : Reply
  pub state : State

-- a reply that leaves the state as it is
abbrev pub unchanged : State → Reply → Transition
unchanged s r = record { reply = r; state = s }

-- a refusal, which leaves the state as it is
abbrev pub refused : State → Fault → Transition
refused s fault = unchanged s (reply.Refused fault)

-- the refusal of the whole request
abbrev pub refused_for : State → Refusal → Transition
refused_for s why = refused s (plain_fault why)
