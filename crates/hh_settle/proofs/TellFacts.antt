-- How a stop with status 2 is told.
use Rattle.std.proofs.Common.{◌≡◌, ◌∙◌, ◌++◌, ℕ, List, Option, Some, None, ap, refl, arith}
use Rattle.std.specs.Io.KnownBytes.{Appends}
use Rattle.std.proofs.lemmas.List.{append_assoc}
use Rattle.hh_devices.specs.DeviceChanges.{DeviceChange}
use Rattle.hh_settle.specs.declared.stop.Stop.{Stop}
use Rattle.hh_settle.specs.declared.stop.Stop.TheVariants as stop
use Rattle.hh_settle.specs.Stops.{Tells, TellsBadLine, stop_status}
use Rattle.hh_settle.specs.steps.Stops.{IsBadLineAnd, TellsStop}

-- it is a script's line that is off its form, and the line's number is told
pub bad_line_and_told : (device : DeviceChange) (s : Stop) → stop_status s ≡ 2 → TellsStop device s → IsBadLineAnd (TellsBadLine device) s
bad_line_and_told device (stop.Refused e) two told = absurd (omega arith)
bad_line_and_told device stop.File two told = absurd (omega arith)
bad_line_and_told device stop.Output two told = absurd (omega arith)
bad_line_and_told device stop.Exists two told = absurd (omega arith)
bad_line_and_told device stop.NoFile two told = absurd (omega arith)
bad_line_and_told device stop.NoSocket two told = absurd (omega arith)
bad_line_and_told device stop.NoClock two told = absurd (omega arith)
bad_line_and_told device (stop.Line number) two told = absurd (omega arith)
bad_line_and_told device (stop.BadLine line word) two told = (line, word, refl, told)

-- a stop with status 1 is told by its line
pub one_and_told : (device : DeviceChange) (s : Stop) → stop_status s ≡ 1 → TellsStop device s → Tells device s
one_and_told device (stop.Refused e) one told = told
one_and_told device stop.File one told = told
one_and_told device stop.Output one told = told
one_and_told device stop.Exists one told = told
one_and_told device stop.NoFile one told = told
one_and_told device stop.NoSocket one told = told
one_and_told device stop.NoClock one told = told
one_and_told device (stop.Line number) one told = told
one_and_told device (stop.BadLine line word) one told = absurd (omega arith)

-- if one text was written and then another, both were written, one after the other
pub appends_more : (before between after : Option (List ℕ)) (text line : List ℕ) → Appends before between text → Appends between after line → Appends before after (text ++ line)
appends_more None between after text line first second = tt
appends_more (Some xs) None after text line first second = absurd first
appends_more (Some xs) (Some ys) None text line first second = absurd second
appends_more (Some xs) (Some ys) (Some zs) text line first second = second ∙ ap (λ bytes. bytes ++ line) first ∙ append_assoc xs text line
