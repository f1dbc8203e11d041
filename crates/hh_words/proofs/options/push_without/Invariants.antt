use Rattle.std.proofs.Common.{◌≡◌, ◌++◌, length, map, string_bytes}
use Rattle.hh_words.specs.Options.{is_taken, without}
use Rattle.hh_words.proofs.options.push_without.Given as goal

-- what is left of the words is still to be added
abbrev pub invariant-loop-word : goal.invariant-loop-word
invariant-loop-word l = map string_bytes l.fn.left.items ++ without (is_taken l.fn.script) (map string_bytes l.fn.words)
    ≡ map string_bytes l.left.items ++ without (is_taken l.fn.script) (map string_bytes l.rest)

abbrev pub decreases-loop-word : goal.decreases-loop-word
decreases-loop-word l = length l.rest
