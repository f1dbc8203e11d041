-- What a call changes in a device.
use Rattle.std.specs.Prelude.{◌≡◌, ℕ, List, Option}
use Rattle.hh_devices.specs.Devices.{Failed}

-- what changes in a device: the bytes that it tells, and its count of failures
pub record DeviceChange : Type 0 where
  pub old : Option (List ℕ)
  pub new : Option (List ℕ)
  pub old_failures : ℕ
  pub new_failures : ℕ

-- what changes in a device from one state to another
abbrev pub change : {S : Type 0} → (S → Option (List ℕ)) → (S → ℕ) → S → S → DeviceChange
change taken failures old new = record { old = taken old; new = taken new; old_failures = failures old; new_failures = failures new }

-- the device failed
abbrev pub HasFailed : DeviceChange → Type 0
HasFailed device = Failed device.old_failures device.new_failures

-- the device did not fail
abbrev pub IsWell : DeviceChange → Type 0
IsWell device = device.new_failures ≡ device.old_failures
