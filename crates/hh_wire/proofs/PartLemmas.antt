-- The parts of a path, one after the other.
use Rattle.std.proofs.Common.{◌≡◌, ◌∙◌, ℕ, ◌+◌, ◌-◌, ◌<◌, ◌≤◌, List, [], ◌∷◌, length, take, drop, Bool, true, false, cond, Option, Some, None, refl, sym, ap, subst, arith, length-drop}
use Rattle.std.specs.Prelude.{◌==◌, nat_lt, position, IfNone}
use Rattle.std.specs.List.{position_or_len}
use Rattle.std.proofs.lemmas.Bool.Decides.{nat_tests}
use Rattle.std.proofs.lemmas.List.{take_all}
use Rattle.std.proofs.lemmas.List.Splits.{length-slice_split, slice_split_first, slice_split_none}
use Rattle.std.proofs.lemmas.List.Sums.{fails_before_first}
use Rattle.hh_wire.specs.Routes.{parts_of}

abbrev is_slash : ℕ → Bool
is_slash b = b == 47

-- all that is after a place
the_rest : (n : ℕ) (text : List ℕ) → take (length text - n) (drop n text) ≡ drop n text
the_rest n text = take_all (length text - n) (drop n text) (omega (arith, length-drop n text))

pub if_none : {A : Type 0} (o : Option A) (P : Type 0) → P → IfNone o P
if_none None P here = here
if_none (Some x) P here = tt

module _ (path : List ℕ) where
  -- the first part ends at the first slash
  cut : (end : ℕ) → Some end ≡ position is_slash path → (end < length path) × (parts_of path ≡ take end path ∷ parts_of (drop (end + 1) path))
  cut end is = elim (nat_lt (position_or_len is_slash path) (length path)) as (λ b. nat_lt (position_or_len is_slash path) (length path) ≡ b
      → Some end ≡ cond b (Some (position_or_len is_slash path)) None → (end < length path) × (parts_of path ≡ take end path ∷ parts_of (drop (end + 1) path))) [
        | true ↦ λ t same.
            let there : end ≡ position_or_len is_slash path = cc in
            let inside : position_or_len is_slash path < length path = grind (arith, nat_tests) in
            subst (λ n. (n < length path) × (parts_of path ≡ take n path ∷ parts_of (drop (n + 1) path))) (sym there) (inside, slice_split_first is_slash path 0 inside)
        | false ↦ λ t same. cc
      ] refl is

  pub cut_part : (end : ℕ) → Some end ≡ position is_slash path → parts_of path ≡ take end path ∷ parts_of (take (length path - (end + 1)) (drop (end + 1) path))
  cut_part end is = (cut end is).1 ∙ ap (λ rest. take end path ∷ parts_of rest) (sym (the_rest (end + 1) path))

  -- if there is no slash, the path has only one part
  pub uncut : None ≡ position is_slash path → parts_of path ≡ path ∷ []
  uncut is = elim (nat_lt (position_or_len is_slash path) (length path)) as (λ b. nat_lt (position_or_len is_slash path) (length path) ≡ b
      → None ≡ cond b (Some (position_or_len is_slash path)) None → parts_of path ≡ path ∷ []) [
        | true ↦ λ t same. cc
        | false ↦ λ t same.
            let past : length path ≤ position_or_len is_slash path = grind (arith, nat_tests) in
            slice_split_none is_slash path (λ k d in'. fails_before_first is_slash path k d (omega arith))
      ] refl is

  -- there is at least one part
  pub some_part : 0 < length (parts_of path)
  some_part = omega (arith, length-slice_split is_slash path)
