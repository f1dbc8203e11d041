-- Texts that are cut at a byte: the first part and the rest.
use Rattle.std.proofs.Common.{◌≡◌, ℕ, ◌+◌, ◌-◌, ◌<◌, ◌≤◌, List, [], ◌∷◌, length, take, drop, Bool, true, false, cond, refl, sym, ap, subst, ◌∙◌, arith, Option, Some, None}
use Rattle.std.specs.Prelude.{nat_lt, position, IfNone}
use Rattle.std.specs.List.{position_or_len, slice_split}
use Rattle.std.proofs.lemmas.Bool.Decides.{nat_tests}
use Rattle.std.proofs.lemmas.List.{take_rest}
use Rattle.std.proofs.lemmas.List.Splits.{slice_split_first, slice_split_none}
use Rattle.std.proofs.lemmas.List.Sums.{fails_before_first}

pub if_none : {A : Type 0} (o : Option A) (P : Type 0) → P → IfNone o P
if_none None P here = here
if_none (Some x) P here = tt

module _ (p : ℕ → Bool) (text : List ℕ) where
  -- the first part ends at the first byte that passes
  cut : (end : ℕ) → Some end ≡ position p text → (end < length text) × (slice_split p text ≡ take end text ∷ slice_split p (drop (end + 1) text))
  cut end is = elim (nat_lt (position_or_len p text) (length text)) as (λ b. nat_lt (position_or_len p text) (length text) ≡ b → Some end ≡ cond b (Some (position_or_len p text)) None
      → (end < length text) × (slice_split p text ≡ take end text ∷ slice_split p (drop (end + 1) text))) [
        | true ↦ λ t same.
            let there : end ≡ position_or_len p text = cc in
            let inside : position_or_len p text < length text = grind (arith, nat_tests) in
            subst (λ n. (n < length text) × (slice_split p text ≡ take n text ∷ slice_split p (drop (n + 1) text))) (sym there) (inside, slice_split_first p text 0 inside)
        | false ↦ λ t same. cc
      ] refl is

  pub cut_parts : (end : ℕ) → Some end ≡ position p text → slice_split p text ≡ take end text ∷ slice_split p (take (length text - (end + 1)) (drop (end + 1) text))
  cut_parts end is = (cut end is).1 ∙ ap (λ rest. take end text ∷ slice_split p rest) (sym (take_rest text (end + 1)))

  -- if no byte passes, the text is the only part
  pub uncut : None ≡ position p text → slice_split p text ≡ text ∷ []
  uncut is = elim (nat_lt (position_or_len p text) (length text)) as (λ b. nat_lt (position_or_len p text) (length text) ≡ b → None ≡ cond b (Some (position_or_len p text)) None
      → slice_split p text ≡ text ∷ []) [
        | true ↦ λ t same. cc
        | false ↦ λ t same.
            let past : length text ≤ position_or_len p text = grind (arith, nat_tests) in
            slice_split_none p text (λ k d in'. fails_before_first p text k d (omega arith))
      ] refl is
