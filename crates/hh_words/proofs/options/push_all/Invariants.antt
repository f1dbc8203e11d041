use Rattle.std.proofs.Common.{◌≡◌, ◌++◌, map, string_bytes, take}
use Rattle.hh_words.proofs.options.push_all.Given as goal

-- the words so far come after those before
abbrev pub invariant-loop-word : goal.invariant-loop-word
invariant-loop-word l = map string_bytes l.left.items ≡ map string_bytes l.fn.left.items ++ map string_bytes (take l.word-index l.words)
