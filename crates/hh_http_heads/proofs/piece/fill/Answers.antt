use Rattle.std.proofs.Common.{◌≡◌, ◌∙◌, ℕ, ◌+◌, ◌-◌, ◌≤◌, ◌<◌, List, ◌++◌, length, take, Option, Some, None, Result, Ok, Err, IfOk, ap, arith}
use Rattle.std.specs.Io.KnownBytes.{Consumes, IsAtEnd, ReadConsumes}
use borrow.Rule.Slice.PartMut.{put_mid}
use Rattle.hh_http_heads.proofs.FrontLemmas.{read_more}
use Rattle.hh_http_heads.proofs.piece.fill.Goals as goal

-- what a read into the room adds, by its outcome
read_adds : {E : Type 0} (r : Result ℕ E) (mid new : Option (List ℕ)) (a k : ℕ) (xs ys : List ℕ)
    → ReadConsumes mid new r ys → IfOk r (λ n. n ≤ length ys) → a ≤ length xs
    → IfOk r (λ n. (before : Option (List ℕ)) → Consumes before mid (take a xs) → Consumes before new (take (a + n) (put_mid a k xs ys)))
read_adds (Ok n) mid new a k xs ys read within fits =
    λ old before. read_more old mid new a k n xs ys before read.0 fits within
read_adds (Err e) mid new a k xs ys read within fits = tt

-- the length of the room does not change
within : {E : Type 0} (r : Result ℕ E) (old new : List ℕ) → length new ≡ length old → IfOk r (λ n. n ≤ length old) → IfOk r (λ n. n ≤ length new)
within (Ok n) old new kept h = omega arith
within (Err e) old new kept h = tt

pub returns-clause-read : goal.returns-clause-read
returns-clause-read g c =
    read_adds c.read.result (g.S.Source.remaining c.args.source.now) (g.S.Source.remaining c.read.new.self)
    c.args.filled (length c.args.buffer.now - c.args.filled) c.args.buffer.now c.read.new.buffer
    c.read.ensures.bytes (within _ _ _ c.read.auto.buffer c.read.ensures.count) (omega arith)

-- if a read gave nothing, nothing was left
at_end : (mid new : Option (List ℕ)) (n : ℕ) (ys : List ℕ) → Consumes mid new (take n ys) → IsAtEnd new → n ≡ 0 → IsAtEnd mid
at_end None new n ys taken end none = tt
at_end (Some xs) None n ys taken end none = absurd taken
at_end (Some xs) (Some rest) n ys taken end none = taken ∙ ap (λ (k : ℕ). take k ys ++ rest) none ∙ end

read_ends : {E : Type 0} (r : Result ℕ E) (mid new : Option (List ℕ)) (ys : List ℕ) → ReadConsumes mid new r ys → 0 < length ys
    → IfOk r (λ n. n ≡ 0 → IsAtEnd mid)
read_ends (Ok n) mid new ys read room = λ none. at_end mid new n ys read.0 (read.1 none room) none
read_ends (Err e) mid new ys read room = tt

pub returns-clause-end : goal.returns-clause-end
returns-clause-end g c =
    read_ends c.read.result (g.S.Source.remaining c.args.source.now) (g.S.Source.remaining c.read.new.self) c.read.new.buffer c.read.ensures.bytes
    (omega (arith, c.read.auto.buffer))
