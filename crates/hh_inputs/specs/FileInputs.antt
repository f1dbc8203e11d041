-- What a path may read as, if files are opened and read as sources.
use Rattle.std.specs.Prelude.{◌≡◌, ◌⊎◌, ℕ, List, Option, Some, None, Result, Ok, Err, IfSome}
use Rattle.hh_devices.specs.Devices.{Failed}
use Rattle.hh_inputs.specs.declared.inputs.InputFault.{InputFault}
use Rattle.hh_inputs.specs.declared.inputs.InputFault.TheVariants.{Unreadable}

-- `opens` is what opening the path may answer. An open file tells what is left to read of it, and its count of failures.
module _ {File : Type 0} (opens : Result File InputFault → Type 0) (remaining : File → Option (List ℕ)) (failures : File → ℕ) where
  -- the bytes of a file that was opened, or nothing if none was opened or a call of it failed
  abbrev pub ReadsAs : Option (List ℕ) → Type 0
  ReadsAs (Some all) = (file : File) × opens (Ok file) × IfSome (remaining file) (λ known. all ≡ known)
  ReadsAs None = opens (Err Unreadable) ⊎ ((file after : File) × opens (Ok file) × Failed (failures file) (failures after))
