-- What a crash leaves after requests that lead to the same state.
use Rattle.std.proofs.Common.{◌≡◌, Bool, ℤ, subst}
use Rattle.std.specs.Prelude.{◌⊎◌, MatchBool}
use Rattle.hh_requests.specs.declared.reply.Reply.{Reply}
use Rattle.hh_requests.specs.declared.request.Request.{Request}
use Rattle.hh_states.specs.Content.{Content, tables_of}
use Rattle.hh_states.specs.States.{State}
use Rattle.hh_http_serve.specs.Crashes.{CrashStep}
use Rattle.hh_http_serve.specs.Machine.{next}
use Rattle.hh_http_serve.specs.Promises.{is_given_up}
use Rattle.hh_http_serve.specs.Views.{Kept, midnight_of}

-- if two requests lead to the same state, a crash leaves the same after both
pub crash_alike : {T L : Type 0} (is_honest : T → Type 0) (is_open : T → Bool) (may_leave : T → L → Type 0) (holds : L → Content → Type 0) (old new : Kept T) (moment at : ℤ) (asked other : Request) (given : Reply)
    → ((s : State) → next (midnight_of old.seen) s moment asked ≡ next (midnight_of old.seen) s at other)
    → CrashStep is_honest is_open may_leave holds old new moment asked given → CrashStep is_honest is_open may_leave holds old new at other given
crash_alike is_honest is_open may_leave holds old new moment at asked other given same crash honest stood s stands left may =
    let made = λ (t : State). holds left (tables_of (midnight_of old.seen) t) in
    subst (λ (t : State). MatchBool (is_given_up given) (holds left old.seen.content ⊎ made t) (made t)) (same s) (crash honest stood s stands left may)
