-- Where local midnights lie.
use Rattle.std.proofs.Common.{◌≡◌, ◌≤◌, ℕ, ◌*◌, pos, ◌+ℤ◌, ◌-ℤ◌, arith}
use Rattle.jiff.proofs.Family.{civil_nanos-parts, same_time}
use Rattle.jiff.proofs.SpanFacts.{signed_arith}
use Rattle.jiff.specs.Spans.{midnight_of}
use Rattle.jiff.specs.Types.{Date, DateTime, TimeZone}
use Rattle.jiff.specs.Words.{epoch_day, time_nanos, picked_instant, compatible_offset, ambiguous_at, IsBetween, IsOffsetSeconds, IsTimestampNanos}
use Rattle.hh_time.specs.Zone.{start_of}

-- midnight on a clock is one datetime
pub midnight_is : (dt : DateTime) (d : Date) → dt.date ≡ d → time_nanos dt.time ≡ 0 → dt ≡ midnight_of d
midnight_is dt d e z =
    let time = same_time dt.time (midnight_of d).time z in
    λ i. record { date = e i; time = time i }

-- a midnight of 1970 or of the 179 years after it is an instant that `jiff` has
pub is_instant : (zone : TimeZone) (d : Date) (n : ℕ) → epoch_day d ≡ pos n → n ≤ 65_535 → IsTimestampNanos (picked_instant zone (midnight_of d))
is_instant zone d n e h =
    let offset = compatible_offset (ambiguous_at zone (midnight_of d)) in
    let range : IsOffsetSeconds offset.seconds = offset.in_range in
    omega (arith, signed_arith, civil_nanos-parts (midnight_of d))

-- and it is less than 26 hours from midnight in UTC
pub is_near : (zone : TimeZone) (d : Date) (n : ℕ) → epoch_day d ≡ pos n
    → IsBetween (pos (86_400 * n) -ℤ pos 93_600) (pos (86_400 * n) +ℤ pos 93_600) (start_of zone d)
is_near zone d n e =
    let offset = compatible_offset (ambiguous_at zone (midnight_of d)) in
    let range : IsOffsetSeconds offset.seconds = offset.in_range in
    omega (arith, signed_arith, civil_nanos-parts (midnight_of d))
