-- How many bytes a memory device moves in a call.
use Rattle.std.specs.Prelude.{ℕ, ◌-◌, min, ◌==◌, if◌then◌else◌, Option, Some, None, Result, Ok, Err}
use Rattle.hh_devices.specs.declared.device.DeviceFailed.{DeviceFailed}
use Rattle.hh_devices.specs.declared.pace.Pace.{Pace}

-- at most so many bytes in a call, and no call that fails
abbrev pub any_pace : ℕ → Pace
any_pace piece = record { piece = piece; until_failure = None }

-- a pace with other pieces
abbrev pub in_pieces : ℕ → Pace → Pace
in_pieces piece p = record { piece = piece; until_failure = p.until_failure }

-- a pace with one call that fails, after so many more bytes
abbrev pub failing_after : ℕ → Pace → Pace
failing_after count p = record { piece = p.piece; until_failure = Some count }

-- the answer of a call that may move so many bytes, if a call is to fail after a number of bytes
abbrev pub moved_before : Option ℕ → ℕ → Result ℕ DeviceFailed
moved_before None most = Ok most
moved_before (Some left) most = if left == 0 then Err (record {}) else Ok (min most left)

-- the number of bytes after the call until one is to fail
abbrev pub left_before : Option ℕ → ℕ → Option ℕ
left_before None most = None
left_before (Some left) most = if left == 0 then None else Some (left - most)

-- the answer of a call for so many bytes
abbrev pub moved : Pace → ℕ → Result ℕ DeviceFailed
moved p offered = moved_before p.until_failure (min offered p.piece)

-- the pace after it
abbrev pub paced : Pace → ℕ → Pace
paced p offered = record { piece = p.piece; until_failure = left_before p.until_failure (min offered p.piece) }

-- those of so many bytes that move before a failure
abbrev pub before_failure : Option ℕ → ℕ → ℕ
before_failure None room = room
before_failure (Some left) room = min left room

-- those of so many bytes that move with no failure
abbrev pub assured_within : Pace → ℕ → ℕ
assured_within p room = if p.piece == 0 then 0 else before_failure p.until_failure room

-- the bytes that a call moved
abbrev pub moved_count : Result ℕ DeviceFailed → ℕ
moved_count (Ok n) = n
moved_count (Err e) = 0
