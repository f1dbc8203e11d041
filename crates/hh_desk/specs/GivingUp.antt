-- What is given up at the desk, and why: memory was refused, or the store refused.
use Rattle.std.specs.Prelude.{◌≡◌, ◌⊎◌}
use Rattle.hh_names.specs.declared.fault.Fault.{Fault}
use Rattle.hh_names.specs.declared.fault.Refusal.TheVariants.{Store}
use Rattle.hh_names.specs.Faults.{memory_fault, plain_fault}
use Rattle.hh_requests.specs.declared.reply.Reply.{Reply}
use Rattle.hh_requests.specs.declared.reply.Reply.TheVariants as reply

-- The store may have failed only if `fails` holds.
module _ (fails : Type 0) where
  -- a refusal gives up: memory was refused (90), or the store refused (91)
  abbrev pub GivesUpWhere : Fault → Type 0
  GivesUpWhere fault = (fault ≡ memory_fault) ⊎ ((fault ≡ plain_fault Store) × fails)

  -- a request was given up
  abbrev pub IsGivenUpWhere : Reply → Type 0
  IsGivenUpWhere (reply.Refused fault) = GivesUpWhere fault
  IsGivenUpWhere _ = ⊥
