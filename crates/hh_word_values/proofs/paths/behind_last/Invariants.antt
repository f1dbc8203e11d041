use Rattle.std.proofs.Common.{◌≡◌, ℕ, ◌-◌, ◌<◌, ◌≤◌, get_or}
use Rattle.hh_word_values.proofs.paths.behind_last.Given as goal

abbrev pub invariant-loop-place : goal.invariant-loop-place
invariant-loop-place l = record {
  inside : l.start ≤ l.place;
  later : (k : ℕ) → l.start ≤ k → k < l.place → get_or l.text k 0 ≡ l.byte → ⊥;
  last : 0 < l.start → get_or l.text (l.start - 1) 0 ≡ l.byte;
}
