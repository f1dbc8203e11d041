-- What a call of a device does to the bytes that it tells and to its count of failures.
use Rattle.std.specs.Prelude.{◌≡◌, ℕ, ◌+◌, ◌<◌, ◌≤◌, ◌==◌, List, ◌++◌, Option, Result, Ok, Err, MatchBool}
use Rattle.std.specs.Io.KnownBytes.{Appends}

-- the greatest count of failures, at which a device counts no further
abbrev pub most_failures : ℕ
most_failures = 18446744073709551615

-- one more failure was counted; at the greatest count nothing is promised
abbrev pub Failed : ℕ → ℕ → Type 0
Failed old new = old < most_failures → new ≡ old + 1

-- a write took bytes and counts none, or it failed or took none, and counts a failure
abbrev pub Counts : {E : Type 0} → Result ℕ E → ℕ → ℕ → Type 0
Counts (Ok n) old new = MatchBool (n == 0) (Failed old new) (new ≡ old)
Counts (Err e) old new = Failed old new

-- a device that is sure to take more bytes takes some of those that are offered, and stays sure of the rest
abbrev pub Assures : {E : Type 0} → Result ℕ E → ℕ → ℕ → ℕ → Type 0
Assures (Ok n) old new offered = 0 < offered → 0 < old → (0 < n) × (old ≤ new + n)
Assures (Err e) old new offered = 0 < offered → old ≡ 0

-- a call that fails counts one failure, and any other call none
abbrev pub CountsErr : {X E : Type 0} → Result X E → ℕ → ℕ → Type 0
CountsErr (Ok x) old new = new ≡ old
CountsErr (Err e) old new = Failed old new

-- the known bytes have grown, by a front of these
abbrev pub AppendsFront : Option (List ℕ) → Option (List ℕ) → List ℕ → Type 0
AppendsFront old new bytes = (front rest : List ℕ) × (bytes ≡ front ++ rest) × Appends old new front
