-- How wrong words and a line of a script off its form are told.
use Rattle.std.specs.Prelude.{◌≡◌, ◌==◌, ℕ, Bool, List, length, if◌then◌else◌}
use Rattle.hh_devices.specs.DeviceChanges.{DeviceChange}
use Rattle.hh_script.specs.declared.bad_word.BadWord.{BadWord}
use Rattle.hh_settle.specs.declared.stop.Stop.{Stop}
use Rattle.hh_settle.specs.declared.stop.Stop.TheVariants as stop
use Rattle.hh_host.specs.Views.{HostView}
use Rattle.hh_kept_office.specs.Places.{Places}
use Rattle.hh_words.specs.Lines.{Line, usage}
use Rattle.hh_settle.specs.Stops.{HasStatusOne, StopsLine, Tells, TellsBadLine, UnlessExplained}

-- a stop is a line of a script off its form, and `told` holds for the line and the word
abbrev pub IsBadLineAnd : (ℕ → BadWord → Type 0) → Stop → Type 0
IsBadLineAnd told s = (line : ℕ) × (word : BadWord) × (s ≡ stop.BadLine line word) × told line word

-- the reason of a stop is told
abbrev pub TellsStop : DeviceChange → Stop → Type 0
TellsStop device (stop.BadLine line word) = TellsBadLine device line word
TellsStop device s = Tells device s

-- what is told about wrong words: the text, or how the program is used if the text is empty
abbrev pub told_text : List ℕ → List ℕ
told_text text = if length text == 0 then usage else text

-- a line stops for a reason of which `holds` is true, and `out` is the change of the output
abbrev pub StopsAnd : HostView → Places → Bool → Line → DeviceChange → (Stop → Type 0) → Type 0
StopsAnd host places strict line out holds = (s : Stop) × StopsLine host places strict out line s × holds s

-- a stop has status 1 and is told, unless explanations are asked for
abbrev pub IsToldOne : Bool → DeviceChange → Stop → Type 0
IsToldOne explain err s = HasStatusOne s × UnlessExplained explain (Tells err s)

-- a stop is a line of a script off its form and is told, unless explanations are asked for
abbrev pub IsToldBadLine : Bool → DeviceChange → Stop → Type 0
IsToldBadLine explain err = IsBadLineAnd (λ line word. UnlessExplained explain (TellsBadLine err line word))
