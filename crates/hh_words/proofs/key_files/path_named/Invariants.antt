use Rattle.std.proofs.Common.{◌≡◌, length, map, string_bytes}
use Rattle.hh_words.specs.KeyFiles.{path_named}
use Rattle.hh_words.specs.steps.KeyTexts.{texts_of}
use Rattle.hh_words.proofs.key_files.path_named.Given as goal

-- the answer depends on the words that are left
abbrev pub invariant-loop-word : goal.invariant-loop-word
invariant-loop-word l = path_named (texts_of l.fn.option) (map string_bytes l.fn.words) ≡ path_named (texts_of l.fn.option) (map string_bytes l.rest)

abbrev pub decreases-loop-word : goal.decreases-loop-word
decreases-loop-word l = length l.rest
