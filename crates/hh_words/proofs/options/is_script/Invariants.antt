use Rattle.std.proofs.Common.{◌≡◌, length, map, string_bytes}
use Rattle.hh_words.specs.Options.{is_script}
use Rattle.hh_words.proofs.options.is_script.Given as goal

-- the answer depends on the words that are left
abbrev pub invariant-loop-word : goal.invariant-loop-word
invariant-loop-word l = is_script (map string_bytes l.fn.words) ≡ is_script (map string_bytes l.rest)

abbrev pub decreases-loop-word : goal.decreases-loop-word
decreases-loop-word l = length l.rest
