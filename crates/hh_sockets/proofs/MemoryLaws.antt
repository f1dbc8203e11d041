-- What comes of awaiting connections in memory, one after the other.
use Rattle.std.proofs.Common.{◌≡◌, ◌<◌, ◌-◌, ℕ, List, [], ◌∷◌, ◌++◌, length, map, take, drop, slice_index_or, ap, sym, subst, ◌∙◌, Some, None, arith, Bor}
use Rattle.std.proofs.lemmas.List.{append_assoc, take_all}
use Rattle.hh_sockets.specs.Arrivals.{Arrival, Exchange}
use Rattle.hh_sockets.specs.Memory.{AreFirstOf, AreOver, IsOver}

-- one more connection did not come
over_none : (brought : List (List ℕ)) (arrivals : List Arrival) → AreOver brought arrivals → AreOver brought (arrivals ++ None ∷ [])
over_none [] [] over = over
over_none (bytes ∷ brought) [] none = absurd none
over_none [] (None ∷ arrivals) over = over_none [] arrivals over
over_none (bytes ∷ brought) (None ∷ arrivals) over = over_none (bytes ∷ brought) arrivals over
over_none [] (Some e ∷ arrivals) none = absurd none
over_none (bytes ∷ brought) (Some e ∷ arrivals) (begins, over) = (begins, over_none brought arrivals over)

-- one more connection came
over_more : (brought : List (List ℕ)) (arrivals : List Arrival) (more : List ℕ) (e : Exchange) → AreOver brought arrivals → IsOver more e
    → AreOver (brought ++ more ∷ []) (arrivals ++ Some e ∷ [])
over_more [] [] more e over new = (new, tt)
over_more (bytes ∷ brought) [] more e none new = absurd none
over_more [] (None ∷ arrivals) more e over new = over_more [] arrivals more e over new
over_more (bytes ∷ brought) (None ∷ arrivals) more e over new = over_more (bytes ∷ brought) arrivals more e over new
over_more [] (Some x ∷ arrivals) more e none new = absurd none
over_more (bytes ∷ brought) (Some x ∷ arrivals) more e (begins, over) new = (begins, over_more brought arrivals more e over new)

-- What came last is replaced by another exchange over the same connection.
module _ (e f : Exchange) (alike : (bytes : List ℕ) → IsOver bytes e → IsOver bytes f) where
  over_last : (brought : List (List ℕ)) (arrivals : List Arrival) → AreOver brought (arrivals ++ Some e ∷ []) → AreOver brought (arrivals ++ Some f ∷ [])
  over_last [] [] none = absurd none
  over_last (bytes ∷ brought) [] (begins, over) = (alike bytes begins, over)
  over_last [] (None ∷ arrivals) over = over_last [] arrivals over
  over_last (bytes ∷ brought) (None ∷ arrivals) over = over_last (bytes ∷ brought) arrivals over
  over_last [] (Some x ∷ arrivals) none = absurd none
  over_last (bytes ∷ brought) (Some x ∷ arrivals) (begins, over) = (begins, over_last brought arrivals over)

  pub first_last : (all rest : List (List ℕ)) (arrivals : List Arrival) → AreFirstOf all (arrivals ++ Some e ∷ []) rest → AreFirstOf all (arrivals ++ Some f ∷ []) rest
  first_last all rest arrivals (brought, is, over) = (brought, is, over_last brought arrivals over)

pub first_none : (all rest : List (List ℕ)) (arrivals : List Arrival) → AreFirstOf all arrivals rest → AreFirstOf all (arrivals ++ None ∷ []) rest
first_none all rest arrivals (brought, is, over) = (brought, is, over_none brought arrivals over)

first_more : (all rest : List (List ℕ)) (arrivals : List Arrival) (more : List ℕ) (e : Exchange) → IsOver more e → AreFirstOf all arrivals (more ∷ rest)
    → AreFirstOf all (arrivals ++ Some e ∷ []) rest
first_more all rest arrivals more e new (brought, is, over) =
    (brought ++ more ∷ [], is ∙ sym (append_assoc brought (more ∷ []) rest), over_more brought arrivals more e over new)

-- the first of some connections, and those after it
pub first_and_rest : (connections : List (Bor (List ℕ))) (other : Bor (List ℕ)) → 0 < length connections
    → map (λ (bytes : Bor (List ℕ)). bytes.now) connections
    ≡ (slice_index_or connections 0 other).now ∷ map (λ (bytes : Bor (List ℕ)). bytes.now) (take (length connections - 1) (drop 1 connections))
first_and_rest [] other some = absurd (omega (arith, some))
first_and_rest (x ∷ connections) other some =
    let few : length (x ∷ connections) - 1 ≡ length connections = omega arith in
    ap (λ rest. x.now ∷ map (λ (bytes : Bor (List ℕ)). bytes.now) rest)
    (sym (ap (λ n. take n connections) few ∙ take_all (length connections) connections (omega arith)))

-- a listener hands over the first of some connections, and those after it are still to come
pub accepted : (all next rest : List (List ℕ)) (arrivals : List Arrival) (bytes : List ℕ) (e : Exchange) → IsOver bytes e
    → next ≡ bytes ∷ rest → AreFirstOf all arrivals next → AreFirstOf all (arrivals ++ Some e ∷ []) rest
accepted all next rest arrivals bytes e begins is first =
    first_more all rest arrivals bytes e begins (subst (AreFirstOf all arrivals) is first)
