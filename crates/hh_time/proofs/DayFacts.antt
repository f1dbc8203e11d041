-- How many half hours lie between two local midnights.
use Rattle.std.proofs.Common.{◌≡◌, ◌≤◌, ℕ, ◌+◌, ◌*◌, ℤ, pos, ◌+ℤ◌, ◌-ℤ◌, to_z, of_z, w64, FitsSigned, true, refl, arith, rules}
use Rattle.std.proofs.lemmas.Int.{to_z-of_z}
use Rattle.jiff.proofs.SpanFacts.{signed_arith}
use Rattle.jiff.specs.Words.{IsBetween}
use Rattle.hh_time.specs.Days.{Midnights, half_hours, is_accepted, count_of}

-- the difference of two such instants doesn't wrap
gap : (a b : ℤ) → IsBetween (pos 0) (pos 5_000_000_000) a → IsBetween (pos 0) (pos 5_000_000_000) b
    → to_z w64 (of_z w64 (to_z w64 (of_z w64 b) -ℤ to_z w64 (of_z w64 a))) ≡ b -ℤ a
gap a b ha hb =
    let fa : FitsSigned w64 a = omega (arith, signed_arith) in
    let fb : FitsSigned w64 b = omega (arith, signed_arith) in
    let f : FitsSigned w64 (b -ℤ a) = omega (arith, signed_arith) in
    rw (to_z-of_z w64 a fa, to_z-of_z w64 b fb) (to_z-of_z w64 (b -ℤ a) f)

-- an accepted date has as many periods as there are half hours from its midnight to the next
pub count_is : (midnight : Midnights) (d : ℕ) (start end : ℤ) → 11_323 ≤ d → d ≤ 47_481
    → start ≡ midnight d → end ≡ midnight (d + 1) → IsBetween (pos 0) (pos 5_000_000_000) start
    → IsBetween (pos (86_400 * (d + 1)) -ℤ pos 93_600) (pos (86_400 * (d + 1)) +ℤ pos 93_600) end
    → half_hours (to_z w64 (of_z w64 (to_z w64 (of_z w64 end) -ℤ to_z w64 (of_z w64 start)))) ≡ count_of midnight d
count_is midnight d start end low high s e near far =
    let accepted : is_accepted d ≡ true = grind (arith, rules) in
    let within : IsBetween (pos 0) (pos 5_000_000_000) end = (omega (arith, signed_arith), omega (arith, signed_arith)) in
    rw (accepted, gap start end near within, s, e) refl
