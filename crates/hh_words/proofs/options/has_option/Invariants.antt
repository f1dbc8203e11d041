use Rattle.std.proofs.Common.{◌≡◌, length, map, string_bytes}
use Rattle.std.specs.Str.{bytes_eq}
use Rattle.hh_words.specs.Options.{has_option}
use Rattle.hh_words.proofs.options.has_option.Given as goal

-- the answer depends on the words that are left
abbrev pub invariant-loop-word : goal.invariant-loop-word
invariant-loop-word l = has_option (λ word. bytes_eq word l.fn.option) (map string_bytes l.fn.words) ≡ has_option (λ word. bytes_eq word l.fn.option) (map string_bytes l.rest)

abbrev pub decreases-loop-word : goal.decreases-loop-word
decreases-loop-word l = length l.rest
