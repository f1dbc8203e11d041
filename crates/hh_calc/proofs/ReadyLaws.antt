-- What is tested before a period is settled: the accounts are in order, and all that are referred to are among them.
use Rattle.std.proofs.Common.{◌≡◌, ℕ, ◌+◌, ◌<◌, ◌≤◌, refl, subst, length, get_or, take, true, false}
use Rattle.std.specs.Prelude.{[], ◌∷◌, List, All, IsTrue, ◌↔◌}
use Rattle.std.specs.declared.cmp.Ordering.{Ordering}
use Rattle.std.specs.declared.cmp.Ordering.TheVariants.{Less}
use Rattle.std.specs.Cmp.{IsTotalOrder}
use Rattle.std.specs.List.Sorted.{IsStrictlySortedBy}
use Rattle.std.proofs.lemmas.List.{take_all}
use Rattle.std.proofs.lemmas.List.Elements.{All-more}
use Rattle.std.proofs.lemmas.Map.Keys.{sorted_from_all_adjacent}

-- a test that passed, and one that failed
pub passed : (P : Type 0) → P → IsTrue true ↔ P
passed P here = (λ _. here, λ _. refl)

pub failed : (P : Type 0) → (P → ⊥) → IsTrue false ↔ P
failed P never = (λ e. cc e, λ here. absurd (never here))

-- keys rise if each is below the next
pub in_order : {K : Type 0} {R : K → K → Ordering} (o : IsTotalOrder R) (keys : List K) → ((k : ℕ) (d : K) → k + 1 < length keys → R (get_or keys k d) (get_or keys (k + 1) d) ≡ Less) → IsStrictlySortedBy R keys
unfolding IsStrictlySortedBy
in_order o [] up = record {}
in_order o (key ∷ keys) up = sorted_from_all_adjacent o (key ∷ keys) key (λ k. up k key)

-- if all elements so far have a property, and the next has it, then so do all with the next
pub one_more : {X : Type 0} (P : X → Type 0) (xs : List X) (i : ℕ) (x : X) → i < length xs → x ≡ get_or xs i x → All P (take i xs) → P x → All P (take (i + 1) xs)
one_more P xs i x inside is before here = All-more P xs i x inside before (subst P is here)

-- at the end, all elements have it
pub all_of : {X : Type 0} (P : X → Type 0) (xs : List X) (i : ℕ) → length xs ≤ i → All P (take i xs) → All P xs
all_of P xs i end before = subst (All P) (take_all i xs end) before

-- equal values have the same property
pub carried : {A B : Type 0} (P : A → B → Type 0) (a a' : A) (b b' : B) → a ≡ a' → b ≡ b' → P a b → P a' b'
carried P a a' b b' e f before = subst (P a') f (subst (λ x. P x b) e before)
