use Rattle.std.proofs.Common.{◌≡◌, ◌++◌, length, map, string_bytes}
use Rattle.hh_words.specs.KeyFiles.{words_with}
use Rattle.hh_words.specs.steps.KeyTexts.{texts_of}
use Rattle.hh_words.proofs.key_files.push_with.Given as goal

-- what is left of the words is still to be added
abbrev pub invariant-loop-word : goal.invariant-loop-word
invariant-loop-word l = map string_bytes l.fn.keyed.items ++ words_with (texts_of l.fn.option) l.fn.key (map string_bytes l.fn.words)
    ≡ map string_bytes l.keyed.items ++ words_with (texts_of l.fn.option) l.fn.key (map string_bytes l.rest)

abbrev pub decreases-loop-word : goal.decreases-loop-word
decreases-loop-word l = length l.rest
