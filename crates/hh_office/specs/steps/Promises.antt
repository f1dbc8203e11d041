-- What the parts of a request answer, in each state that the office may represent.
use Rattle.std.specs.Prelude.{◌≡◌, Bool, Result, Ok, Err, MatchBool}
use Rattle.hh_time.specs.Days.{Midnights}
use Rattle.hh_names.specs.declared.fault.Fault.{Fault}
use Rattle.hh_requests.specs.declared.reply.Reply.{Reply}
use Rattle.hh_requests.specs.declared.reply.Reply.TheVariants as reply
use Rattle.hh_states.specs.States.{State}
use Rattle.hh_office.specs.Transitions.{Transition, unchanged}
use Rattle.hh_office.specs.Views.{OfficeView, midnight_of}
use Rattle.hh_office.specs.Promises.{MakesTransition, Represents, is_given_up}

-- the reply to a request that was answered or refused
abbrev pub reply_of : Result Reply Fault → Reply
reply_of (Ok given) = given
reply_of (Err fault) = reply.Refused fault

-- the answer to a part of a request, and the tables after it, make the machine's transition in each state that the office represents
abbrev pub FollowsMachine : OfficeView → OfficeView → Result Reply Fault → (Midnights → State → Transition) → Type 0
FollowsMachine old new result transition = (s : State) → Represents old s → MakesTransition old new (reply_of result) (transition (midnight_of old) s)

-- the office tells what is true in each state that it represents
abbrev pub TellsTruly : OfficeView → Bool → (Midnights → State → Bool) → Type 0
TellsTruly office told is_so = (s : State) → Represents office s → told ≡ is_so (midnight_of office) s

-- an answer is this reply, unless the request was given up
abbrev pub RepliesAs : Result Reply Fault → Reply → Type 0
RepliesAs result expected = MatchBool (is_given_up (reply_of result)) (Unit {0}) (reply_of result ≡ expected)

-- The office stays as it is, and answers what the reply is in each state that it represents, unless the request was given up.
abbrev pub AnswersAsMachine : OfficeView → OfficeView → Result Reply Fault → (Midnights → State → Reply) → Type 0
AnswersAsMachine old new result reply = FollowsMachine old new result (λ midnight s. unchanged s (reply midnight s))
