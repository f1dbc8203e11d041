-- What comes of serving, given what was read, handled and written.
use Rattle.std.proofs.Common.{◌≡◌, ◌≤◌, ◌⊎◌, ℕ, ℤ, List, Bool, true, false, cond, Option, Result, Ok, Err, inl, inr, refl, sym, subst, ap, arith}
use Rattle.std.specs.Prelude.{MatchBool, IsErrAnd}
use Rattle.hh_devices.specs.DeviceChanges.{DeviceChange}
use Rattle.hh_devices.specs.declared.device.DeviceFailed.{DeviceFailed}
use Rattle.hh_names.specs.Faults.{memory_fault}
use Rattle.hh_requests.specs.declared.reply.Reply.{Reply}
use Rattle.hh_requests.specs.declared.reply.Reply.TheVariants as reply
use Rattle.hh_requests.specs.declared.request.Request.{Request}
use Rattle.hh_office.specs.Content.{Content, tables_of}
use Rattle.hh_office.specs.States.{State}
use Rattle.hh_office.specs.Crashes.{CrashStep}
use Rattle.hh_office.specs.Machine.{next, step}
use Rattle.hh_office.specs.PartyViews.{ForbidsOthers, ShowsByView}
use Rattle.hh_office.specs.Promises.{ConservesAfter, HandleStep, RefusalLeaves, RepeatsOnce, Represents, RepresentsAfter, is_given_up}
use Rattle.hh_office.specs.Refusals.{CountsReply, RepresentsSome, is_of_store}
use Rattle.hh_office.specs.StoreFaults.{CountsOneMore}
use Rattle.hh_office.specs.Transitions.{Transition}
use Rattle.hh_office.specs.Views.{Kept, OfficeView, midnight_of}
use Rattle.hh_wire.specs.ReplyText.{reply_text}
use Rattle.hh_wire.specs.refusal.Refused.{Refused}
use Rattle.hh_wire.specs.reply.WriteFault.{WriteFault}
use Rattle.hh_wire.specs.reply.WriteFault.TheVariants as write
use Rattle.hh_wire.specs.Writes.{WritesRefusal, WritesReply}
use Rattle.hh_wire.specs.declared.incoming.Incoming.{Incoming}
use Rattle.hh_wire.specs.declared.incoming.Incoming.TheVariants.{Asked}
use Rattle.hh_http_serve.specs.declared.serve.ServeFault.{ServeFault}
use Rattle.hh_http_serve.specs.declared.serve.ServeFault.TheVariants.{Write}
use Rattle.hh_http_serve.specs.declared.serve.Served.{Served}
use Rattle.hh_http_serve.specs.declared.serve.Served.TheVariants as outcome
use Rattle.hh_http_serve.specs.Crashes.{LeavesHandled, LeavesServed}
use Rattle.hh_http_serve.specs.ServeFaults.{serve_fault}
use Rattle.hh_http_serve.specs.Serves.{IsAnswer, IsReadOf, Serves, RepresentsAfterOne}

-- the store counts no fewer refusals after a reply
counts_up : (b : Bool) (old new : ℕ) → MatchBool b (CountsOneMore old new) (new ≡ old) → old ≤ new
counts_up true old new counts = counts.0
counts_up false old new same = omega (arith, same)

pub reply_up : (given : Reply) (old new : ℕ) → CountsReply given old new → old ≤ new
reply_up (reply.Refused fault) old new counts = counts_up (is_of_store fault.refusal) old new counts
reply_up (reply.Loaded x) old new same = omega (arith, same)
reply_up (reply.Ran x y) old new same = omega (arith, same)
reply_up (reply.Account x) old new same = omega (arith, same)
reply_up (reply.Balance x y) old new same = omega (arith, same)
reply_up (reply.Contracts x) old new same = omega (arith, same)
reply_up (reply.Runs x) old new same = omega (arith, same)

-- the answer is that the reply was not written
passed_on : (result : Result Served ServeFault) (fault : WriteFault) → IsErrAnd result (λ served. served ≡ serve_fault fault) → Err (serve_fault fault) ≡ result
passed_on (Ok served) fault is = absurd is
passed_on (Err served) fault is = ap Err (sym is)

-- the result of writing if it fails
abbrev pub unwritten : WriteFault → Result (Unit {0}) WriteFault
unwritten fault = Err fault

module _ (source : Option (List ℕ)) (old new : OfficeView) (counted counts : ℕ) (moment : ℤ) (device : DeviceChange) where
  -- A reply of the office was written, or not to its end.
  module _ (given : Reply) (is : IsAnswer source old new counted counts moment (Ok given)) where
    pub replied : WritesReply device (reply_text given false) (Ok tt) → Serves source old new counted counts moment device (Ok outcome.Replied)
    replied writes = (given, is, writes.0)

    unreplied : (fault : WriteFault) → WritesReply device (reply_text given false) (Err fault)
        → (given ≡ reply.Refused memory_fault → unwritten fault ≡ Err write.Memory → ⊥) → Serves source old new counted counts moment device (Err (serve_fault fault))
    unreplied write.Write writes wants = (Ok given, reply_text given false, is, refl, writes.0)
    unreplied write.Memory writes wants = (given, is, (λ tells. wants tells refl), writes.0)

    pub not_replied : (fault : WriteFault) (result : Result Served ServeFault) → IsErrAnd result (λ served. served ≡ serve_fault fault)
        → WritesReply device (reply_text given false) (Err fault) → (given ≡ reply.Refused memory_fault → unwritten fault ≡ Err write.Memory → ⊥)
        → Serves source old new counted counts moment device result
    not_replied fault result told writes wants =
        subst (λ (r : Result Served ServeFault). Serves source old new counted counts moment device r) (passed_on result fault told) (unreplied fault writes wants)

  -- The reply to a refused request was written, or not to its end.
  module _ (refused : Refused) (is : IsAnswer source old new counted counts moment (Err refused)) where
    pub refusal_replied : WritesRefusal device refused (Ok tt) → Serves source old new counted counts moment device (Ok outcome.Refused)
    refusal_replied (text, replies, writes, well) = (refused, text, is, replies, writes)

    pub refusal_unreplied : (failed : DeviceFailed) → WritesRefusal device refused (Err failed) → Serves source old new counted counts moment device (Err Write)
    refusal_unreplied failed (text, replies, writes, failures) = (Err refused, text, is, replies, writes)

-- A request was read and handled, at a moment that is written in two ways.
module _ (old new : OfficeView) (moment at : ℤ) (same : at ≡ moment) (request : Request) (given : Reply) (steps : HandleStep old new at request given)
    (stands : RepresentsAfter old new at request given) where
  pub handled : (source : Option (List ℕ)) (read : Incoming) → read ≡ Asked request → IsReadOf source (Ok read)
      → RefusalLeaves old new given → RepeatsOnce old new request given → ConservesAfter old new at request given
      → ShowsByView old request given → ForbidsOthers old request given → (counted counts : ℕ) → (RepresentsSome old → CountsReply given counted counts)
      → IsAnswer source old new counted counts moment (Ok given)
  handled source read is message untouched once sums view foreign counted counts refusals_counted = (
    request,
    subst (λ (i : Incoming). IsReadOf source (Ok i)) is message,
    record {
      step = subst (λ (m : ℤ). HandleStep old new m request given) same steps;
      represents = subst (λ (m : ℤ). RepresentsAfter old new m request given) same stands;
      untouched = untouched;
      once = once;
      sums = subst (λ (m : ℤ). ConservesAfter old new m request given) same sums;
      view = view;
      foreign = foreign;
      refusals_counted = refusals_counted;
    },
  )

  represents_by : (m : ℤ) (s t : State) (reply : Reply) (b : Bool)
      → MatchBool b (new ≡ old) ((given ≡ reply) × (new ≡ record old { content = tables_of (midnight_of old) t })) → Represents new (cond b s (next (midnight_of old) s m request))
      → (new.zone ≡ old.zone) × (Represents new s ⊎ ((r : Request) × Represents new (next (midnight_of old) s m r)))
  represents_by m s t reply true is after = (ap (λ (o : OfficeView). o.zone) is, inl after)
  represents_by m s t reply false comes after = (ap (λ (o : OfficeView). o.zone) comes.1, inr (request, after))

  pub represents_after_one : RepresentsAfterOne old new moment
  represents_after_one = subst (λ (m : ℤ). RepresentsAfterOne old new m) same (λ s before.
      let transition : Transition = step (midnight_of old) s at request in
      represents_by at s transition.state transition.reply (is_given_up given) (steps s before) (stands s before))

-- A request was read and handled, at a moment that is written in two ways, together with what a crash leaves after it.
module _ {T L : Type 0} (is_honest : T → Type 0) (is_open : T → Bool) (may_leave : T → L → Type 0) (holds : L → Content → Type 0) (old new : Kept T)
    (source : Option (List ℕ)) (moment at : ℤ) (same : at ≡ moment) (device : DeviceChange) (request : Request) (given : Reply)
    (read : Incoming) (is : read ≡ Asked request) (message : IsReadOf source (Ok read)) (left : CrashStep is_honest is_open may_leave holds old new at request given) where
  leaves_handled : LeavesHandled is_honest is_open may_leave holds old new source moment given
  leaves_handled = (
    request,
    subst (λ (i : Incoming). IsReadOf source (Ok i)) is message,
    subst (λ (m : ℤ). CrashStep is_honest is_open may_leave holds old new m request given) same left,
  )

  pub leaves_replied : WritesReply device (reply_text given false) (Ok tt) → LeavesServed is_honest is_open may_leave holds old new source moment device (Ok outcome.Replied)
  leaves_replied writes = (given, leaves_handled, writes.0)

  leaves_unreplied : (fault : WriteFault) → WritesReply device (reply_text given false) (Err fault)
      → LeavesServed is_honest is_open may_leave holds old new source moment device (Err (serve_fault fault))
  leaves_unreplied write.Write writes = inl (given, leaves_handled, writes.0)
  leaves_unreplied write.Memory writes = (given, leaves_handled)

  pub leaves_not_replied : (fault : WriteFault) (result : Result Served ServeFault) → IsErrAnd result (λ served. served ≡ serve_fault fault)
      → WritesReply device (reply_text given false) (Err fault) → LeavesServed is_honest is_open may_leave holds old new source moment device result
  leaves_not_replied fault result told writes =
      subst (λ (r : Result Served ServeFault). LeavesServed is_honest is_open may_leave holds old new source moment device r) (passed_on result fault told) (leaves_unreplied fault writes)
