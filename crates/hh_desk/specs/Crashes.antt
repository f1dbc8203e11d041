-- What a crash leaves of an office's tables after a request at its desk.
use Rattle.std.specs.Prelude.{◌≡◌, ◌⊎◌, ℕ, List, Some, Bool}
use Rattle.hh_names.specs.Faults.{memory_fault}
use Rattle.hh_requests.specs.declared.reply.Reply.{Reply}
use Rattle.hh_requests.specs.declared.reply.Reply.TheVariants as reply
use Rattle.hh_states.specs.Content.{Content}
use Rattle.hh_http_serve.specs.Crashes.{CrashStep}
use Rattle.hh_http_serve.specs.Views.{Kept}
use Rattle.hh_host.specs.Views.{HostView}
use Rattle.hh_script.specs.Steps.{LoadStep, RunStep}
use Rattle.hh_desk.specs.declared.told.Told.{Told}
use Rattle.hh_desk.specs.declared.told.Told.TheVariants.{Replied, Unreadable}
use Rattle.hh_desk.specs.Doing.{request_for, request_of}

-- `old` is the office before the call, and `new` after it.
module _ {T L : Type 0} (is_honest : T → Type 0) (is_open : T → Bool) (may_leave : T → L → Type 0) (holds : L → Content → Type 0) (old new : Kept T) where
  -- memory was refused before the office was asked, and the office and its tables are as they were
  abbrev pub IsNotAsked : Reply → Type 0
  IsNotAsked given = (given ≡ reply.Refused memory_fault) × (new ≡ old)

  -- If the file of a load was read, the office answered the request, with all that it promises about a crash, or it was not asked. If the
  -- file cannot be read, the office is as it was.
  abbrev pub LoadLeaves : HostView → LoadStep → Told → Type 0
  LoadLeaves host load Unreadable = new ≡ old
  LoadLeaves host load (Replied given) =
      ((body : List ℕ) × host.reads load.path (Some body) × CrashStep is_honest is_open may_leave holds old new load.moment (request_of load body) given)
      ⊎ IsNotAsked given

  -- the office answered the request for a run, with all that it promises about a crash, or it was not asked
  abbrev pub RunLeaves : RunStep → Told → Type 0
  RunLeaves run Unreadable = ⊥
  RunLeaves run (Replied given) = CrashStep is_honest is_open may_leave holds old new run.moment (request_for run) given ⊎ IsNotAsked given
