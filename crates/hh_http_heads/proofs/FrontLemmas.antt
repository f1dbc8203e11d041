-- The beginning of bytes that come in pieces.
use Rattle.std.proofs.Common.{◌≡◌, ◌≢◌, ◌∙◌, ℕ, zero, suc, ◌+◌, ◌≤◌, ◌<◌, List, [], ◌∷◌, ◌++◌, length, take, drop, Option, Some, None, IfSome, All, IsTrue, IsAscii, inl, codes, refl, sym, ap, subst, arith}
use Rattle.std.proofs.KnownBytes.{Consumes-trans}
use Rattle.std.proofs.Math.Seq.{take-append-add}
use Rattle.std.proofs.lemmas.List.{length-append, length-take, length-take-le, take-append-drop, take-append-le, take_at, append-nil}
use Rattle.std.specs.Io.KnownBytes.{Consumes, IsAtEnd}
use borrow.Rule.Slice.PartMut.{put_mid, post_of}
use Rattle.std.proofs.lemmas.Str.{IsUtf8-from_ascii}
use Rattle.httparse.specs.Grammar.{LineEnd, RequestHead, print_request, is_token_byte, is_uri_byte, HasNoRequest, IsRequestHead, MayBecomeRequest}
use Rattle.httparse.specs.Spans.{RequestOverflows}
use Rattle.hh_http_heads.specs.Fronts.{HasNoFront}

-- no bytes are no head, but a head may still come
pub none_at_first : HasNoRequest []
unfolding print_request
none_at_first head rest is =
    let long : length (print_request head ++ rest) ≡ 0 = ap length (sym is.1) in
    let some : 0 < length (print_request head) = simp length-append (omega arith) in
    omega (arith, length-append (print_request head) rest)

all_of_one : (Is : ℕ → Type 0) (b : ℕ) → Is b → All Is (b ∷ [])
all_of_one Is b is zero d below = is
all_of_one Is b is (suc k) d below = absurd (omega arith)

one_ascii : (b : ℕ) → b < 128 → IsAscii (b ∷ [])
one_ascii b below zero = below
one_ascii b below (suc i) = omega arith

abbrev shortest : RequestHead
shortest = record { blank = []; method = codes "A"; target = codes "/"; minor = 0; line_end = LineEnd.lf; fields = []; last = LineEnd.lf }

is_shortest : IsRequestHead shortest
unfolding is_token_byte
is_shortest =
    let some : 0 < 1 = omega arith in record {
      method = (some, all_of_one (λ b. IsTrue (is_token_byte b)) 65 refl);
      target = (some, all_of_one (λ b. IsTrue (is_uri_byte b)) 47 refl);
      target_text = IsUtf8-from_ascii (codes "/") (one_ascii 47 (omega arith));
      minor = omega arith;
      fields = λ k d below. absurd (omega arith);
    }

pub may_at_first : MayBecomeRequest []
may_at_first = inl (print_request shortest ++ [], shortest, (is_shortest, refl))

-- no head with few enough headers begins with the bytes, whatever follows
overflow_has_none : (front more : List ℕ) → RequestOverflows 32 front → HasNoFront (front ++ more)
overflow_has_none front more over head rest is =
    let many : 32 < length head.fields = over more head rest is.reads in
    let few = is.few in
    omega arith

-- if as many bytes as a head may have contain no head, no head begins with them
full_has_none : (front more : List ℕ) → length front ≡ 8192 → HasNoRequest front → HasNoFront (front ++ more)
full_has_none front more full none head rest is =
    let short = is.short in
    let at : length (print_request head) ≤ length front = omega arith in
    let text : front ++ more ≡ print_request head ++ rest = is.reads.1 in
    let begins : take (length (print_request head)) front ≡ print_request head =
    sym (take-append-le _ front more at) ∙ ap (λ (t : List ℕ). take (length (print_request head)) t) text ∙ take_at (print_request head) rest _ refl in
    none head (drop (length (print_request head)) front)
    (is.reads.0, sym (take-append-drop _ front) ∙ ap (λ (t : List ℕ). t ++ drop (length (print_request head)) front) begins)

-- a buffer after a read of n bytes after its first a
take_read : (a k n : ℕ) (xs ys : List ℕ) → a ≤ length xs → n ≤ length ys → take (a + n) (put_mid a k xs ys) ≡ take a xs ++ take n ys
take_read a k n xs ys fits room =
    let at : length (take a xs) ≡ a = length-take-le a xs fits in
    ap (λ (m : ℕ). take (m + n) (put_mid a k xs ys)) (sym at) ∙ take-append-add (take a xs) (ys ++ post_of a k xs) n
    ∙ ap (λ (t : List ℕ). take a xs ++ t) (take-append-le n ys (post_of a k xs) room)

-- what was read so far, after one more read
pub read_more : (old mid new : Option (List ℕ)) (a k n : ℕ) (xs ys : List ℕ)
    → Consumes old mid (take a xs) → Consumes mid new (take n ys) → a ≤ length xs → n ≤ length ys
    → Consumes old new (take (a + n) (put_mid a k xs ys))
read_more old mid new a k n xs ys x y fits room =
    subst (λ (t : List ℕ). Consumes old new t) (sym (take_read a k n xs ys fits room)) (Consumes-trans old mid new (take a xs) (take n ys) x y)

-- some bytes were read, so there are some
some_read : (bytes front rest : List ℕ) → bytes ≡ front ++ rest → 0 < length front → bytes ≢ []
some_read bytes front rest text some none =
    let long : length bytes ≡ length front + length rest = ap length text ∙ length-append front rest in
    let empty : length bytes ≡ 0 = ap length none in
    omega arith

-- the parser refuses what was read
pub refused_front : (old new : Option (List ℕ)) (buffer : List ℕ) (read : ℕ) → Consumes old new (take read buffer) → 0 < read → read ≤ length buffer
    → RequestOverflows 32 (take read buffer) → IfSome old (λ bytes. (bytes ≢ []) × HasNoFront bytes)
refused_front None new buffer read taken some fits over = tt
refused_front (Some bytes) None buffer read taken some fits over = absurd taken
refused_front (Some bytes) (Some rest) buffer read taken some fits over = (
  some_read bytes (take read buffer) rest taken (omega (arith, length-take read buffer)),
  subst HasNoFront (sym taken) (overflow_has_none (take read buffer) rest over),
)

-- the buffer is full
pub full_front : (old new : Option (List ℕ)) (buffer : List ℕ) (read : ℕ) → Consumes old new (take read buffer) → read ≡ 8192 → read ≤ length buffer
    → HasNoRequest (take read buffer) → IfSome old (λ bytes. (bytes ≢ []) × HasNoFront bytes)
full_front None new buffer read taken full fits none = tt
full_front (Some bytes) None buffer read taken full fits none = absurd taken
full_front (Some bytes) (Some rest) buffer read taken full fits none = (
  some_read bytes (take read buffer) rest taken (omega (arith, length-take read buffer)),
  subst HasNoFront (sym taken) (full_has_none (take read buffer) rest (omega (arith, length-take read buffer)) none),
)

-- the source ended within a head
pub end_front : (old new : Option (List ℕ)) (buffer : List ℕ) (read : ℕ) → Consumes old new (take read buffer) → IsAtEnd new → 0 < read → read ≤ length buffer
    → HasNoRequest (take read buffer) → IfSome old (λ bytes. (bytes ≢ []) × HasNoFront bytes)
end_front None new buffer read taken end some fits none = tt
end_front (Some bytes) None buffer read taken end some fits none = absurd taken
end_front (Some bytes) (Some rest) buffer read taken end some fits none =
    let all : bytes ≡ take read buffer = taken ∙ ap (λ (t : List ℕ). take read buffer ++ t) end ∙ append-nil (take read buffer) in (
      some_read bytes (take read buffer) rest taken (omega (arith, length-take read buffer)),
      subst HasNoFront (sym all) (λ head more is. none head more is.reads),
    )
