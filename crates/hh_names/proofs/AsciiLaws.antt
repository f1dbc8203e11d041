-- Texts of bytes below 128.
use Rattle.std.proofs.Common.{◌≡◌, ℕ, zero, suc, ◌<◌, List, [], ◌∷◌, Bool, true, arith}
use Rattle.std.proofs.lemmas.Bool.{and_parts}
use Rattle.std.specs.Prelude.{IsAscii}
use Rattle.std.specs.List.{list_all}

-- a text is ASCII if each of its bytes passes a test that only bytes below 128 pass
pub all_ascii : (test : ℕ → Bool) → ((b : ℕ) → test b ≡ true → b < 128) → (text : List ℕ) → list_all test text ≡ true → IsAscii text
all_ascii test below [] h i = omega arith
all_ascii test below (b ∷ rest) h zero = below b (and_parts (test b) (list_all test rest) h).0
all_ascii test below (b ∷ rest) h (suc i) = all_ascii test below rest (and_parts (test b) (list_all test rest) h).1 i
