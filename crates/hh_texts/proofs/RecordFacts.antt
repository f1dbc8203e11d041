-- The records of a text, one after another.
use Rattle.std.proofs.Common.{◌≡◌, ℕ, zero, suc, ◌+◌, ◌<◌, ◌≤◌, Bool, true, false, cond, List, [], ◌∷◌, ◌++◌, length, Option, Some, None, MatchBool, IsSome, refl, sym, ap, arith, add-one, Bor, unwrap_or}
use Rattle.std.proofs.lemmas.Bool.Decides.{nat_tests}
use Rattle.csv.specs.Machine.{Read, next_record, step, is_end, ends_at_end, fields_after, field_after}
use Rattle.csv.specs.Reading.{default_config, records_from, records_next, ReadRecord, ReadsNext, NextIs, pending_of}
use Rattle.csv.specs.declared.parser.State.{State}
use Rattle.csv.specs.declared.parser.State.TheVariants as st
use Rattle.csv.specs.declared.reader.Reader.{Reader}
use Rattle.hh_texts.specs.Records.{records_left, left_of, unread, IsReading}

-- 1 in the middle of a record, which the end of the text ends
abbrev open_ends : State → ℕ
open_ends s = cond (ends_at_end s) 1 0

open_ends-le : (s : State) → open_ends s ≤ 1
open_ends-le s = elim (ends_at_end s) as (λ b. cond b 1 0 ≤ 1) [ true ↦ omega arith | false ↦ omega arith ]

-- after a byte that ends a record, no record is open
quiet : (s : State) (c : ℕ) → is_end (step default_config s c).1 ≡ true → open_ends (step default_config s c).0 ≡ 0
quiet st.StartRecord c h = grind (arith, nat_tests)
quiet st.StartField c h = grind (arith, nat_tests)
quiet st.InField c h = grind (arith, nat_tests)
quiet st.InQuoted c h = grind (arith, nat_tests)
quiet st.AfterQuote c h = grind (arith, nat_tests)
quiet st.InEscape c h = cc h
quiet st.InComment c h = grind (arith, nat_tests)
quiet st.AfterCr c h = grind (arith, nat_tests)

next_record-shorter : (s : State) (fields : List (List ℕ)) (field xs : List ℕ) (q : Read) → next_record default_config s fields field xs ≡ Some q
    → length q.2 + open_ends q.1 < length xs + open_ends s
unfolding next_record
next_record-shorter s fields field [] q h = at_end (ends_at_end s) h
  where
    at_end : (b : Bool) → cond b (Some (fields ++ (field ∷ []), st.StartRecord, [])) None ≡ Some q → length q.2 + open_ends q.1 < 0 + cond b 1 0
    at_end true e = let t : q ≡ (fields ++ (field ∷ []), st.StartRecord, []) = cc e in rw t (omega arith)
    at_end false e = cc e
next_record-shorter s fields field (c ∷ rest) q h =
    go (is_end (step default_config s c).1) refl h (λ k. next_record-shorter (step default_config s c).0 _ _ rest q k)
  where
    go : (b : Bool) → is_end (step default_config s c).1 ≡ b
        → cond b (Some (fields_after (step default_config s c).1 fields field, (step default_config s c).0, rest))
        (next_record default_config (step default_config s c).0 (fields_after (step default_config s c).1 fields field) (field_after (step default_config s c).1 c field) rest) ≡ Some q
        → (next_record default_config (step default_config s c).0 (fields_after (step default_config s c).1 fields field) (field_after (step default_config s c).1 c field) rest ≡ Some q
        → length q.2 + open_ends q.1 < length rest + open_ends (step default_config s c).0)
        → length q.2 + open_ends q.1 < suc (length rest) + open_ends s
    go true e k f =
        let t : q ≡ (fields_after (step default_config s c).1 fields field, (step default_config s c).0, rest) = cc k in
        let z = quiet s c e in rw t (omega arith)
    go false e k f =
        let shorter = f k in
        omega (arith, open_ends-le (step default_config s c).0)

records_from-spent : (n : ℕ) (s : State) (xs : List ℕ) → length xs + open_ends s ≤ 0 → records_from default_config n s xs ≡ []
unfolding records_from next_record
records_from-spent zero s xs h = refl
records_from-spent (suc n) s (x ∷ xs) h = absurd (omega arith)
records_from-spent (suc n) s [] h = go (ends_at_end s) h
  where
    go : (b : Bool) → 0 + cond b 1 0 ≤ 0 → records_next (records_from default_config n) (cond b (Some (([] ++ ([] ∷ []), st.StartRecord, []))) None) ≡ []
    go true e = absurd (omega arith)
    go false e = refl

-- more turns than the text needs find nothing more
records_from-turns : (n m : ℕ) (s : State) (xs : List ℕ) → length xs + open_ends s ≤ n → length xs + open_ends s ≤ m
    → records_from default_config n s xs ≡ records_from default_config m s xs
unfolding records_from
records_from-turns zero m s xs hn hm = sym (records_from-spent m s xs hn)
records_from-turns (suc n) zero s xs hn hm = records_from-spent (suc n) s xs hm
records_from-turns (suc n) (suc m) s xs hn hm =
    go (next_record default_config s [] [] xs) (λ q e.
    let shorter = next_record-shorter s [] [] xs q e in
    records_from-turns n m q.1 q.2 (omega arith) (omega arith))
  where
    go : (o : Option Read) → ((q : Read) → o ≡ Some q → records_from default_config n q.1 q.2 ≡ records_from default_config m q.1 q.2)
        → records_next (records_from default_config n) o ≡ records_next (records_from default_config m) o
    go None f = refl
    go (Some q) f = ap (λ rows. q.0 ∷ rows) (f q refl)

pub records_left-more : (s : State) (xs : List ℕ) (q : Read) → next_record default_config s [] [] xs ≡ Some q
    → records_left s xs ≡ q.0 ∷ records_left q.1 q.2
unfolding records_from
records_left-more s xs q h =
    let shorter = next_record-shorter s [] [] xs q h in
    let small = open_ends-le s in
    let one = open_ends-le q.1 in
    rw (add-one, h) (ap (λ rows. q.0 ∷ rows) (records_from-turns (length xs) (length q.2 + 1) q.1 q.2 (omega arith) (omega arith)))

pub records_left-end : (s : State) (xs : List ℕ) → next_record default_config s [] [] xs ≡ None → records_left s xs ≡ []
unfolding records_from
records_left-end s xs h = rw (add-one, h) refl

-- a read shows the first of the records that are left
left-read : (cfg : _) (s s2 : State) (old new : Option (List ℕ)) (found : Bool) (fields : List (List ℕ)) → cfg ≡ default_config → IsSome old → ReadsNext cfg s old new found fields s2
    → MatchBool found (records_left s (unwrap_or old []) ≡ fields ∷ records_left s2 (unwrap_or new [])) (records_left s (unwrap_or old []) ≡ [])
left-read cfg s s2 None new found fields e known r = cc known
left-read cfg s s2 (Some xs) None found fields e known r = absurd r
left-read cfg s s2 (Some xs) (Some ys) found fields e known r = go (next_record default_config s [] [] xs) refl found (rw e at r)
  where
    go : (o : Option Read) → next_record default_config s [] [] xs ≡ o → (b : Bool) → NextIs o b fields s2 ys
        → MatchBool b (records_left s xs ≡ fields ∷ records_left s2 ys) (records_left s xs ≡ [])
    go None k false h = records_left-end s xs k
    go None k true h = cc h
    go (Some q) k true h = rw (h.1, h.2, h.3) (records_left-more s xs q k)
    go (Some q) k false h = cc h.0

pub left_of-read : (old new : Reader (Bor (List ℕ))) (found : Bool) (fields : List (List ℕ)) → IsReading old → ReadRecord (λ s. Some s.now) old new found fields
    → MatchBool found (left_of old ≡ fields ∷ left_of new) (left_of old ≡ [])
left_of-read old new found fields h r =
    let same : unread new ≡ pending_of (Some new.rdr.now) new = rw r.1 refl in
    let k = left-read old.config old.state new.state (unread old) (pending_of (Some new.rdr.now) new) found fields h.config h.known r.0 in
    rw (← same) at k
