-- The lines of a script, one after the other.
use Rattle.std.proofs.Common.{◌≡◌, ℕ, ◌+◌, ◌-◌, ◌<◌, List, [], ◌∷◌, ◌++◌, length, take, drop, map, Bool, true, false, cond, refl, sym, ap, ◌∙◌, arith, Option, Some, None}
use Rattle.std.specs.Prelude.{◌==◌, position, is_none}
use Rattle.std.specs.List.{onto_first, position_from, slice_split}
use Rattle.std.proofs.lemmas.List.{append-nil, append_assoc, drop_all, length_push, map-append, take_rest}
use Rattle.std.proofs.lemmas.Bool.Decides.{nat_tests}
use Rattle.hh_script.specs.Steps.{step_of, step_value}
use Rattle.hh_script.specs.declared.script_line.ScriptLine.{ScriptLine}
use Rattle.hh_script.specs.Script.{all_values, but_empty_last, first_bad_line, is_bad_line, lines_of, onto, script_value, unless_empty}
use Rattle.hh_script.proofs.LineFacts.{cut_parts, uncut}

abbrev is_end : ℕ → Bool
is_end b = b == 10

-- a part with others after it is kept
behind_part : (part : List ℕ) (b : ℕ) (parts : List (List ℕ)) → but_empty_last (part ∷ onto_first b parts) ≡ part ∷ but_empty_last (onto_first b parts)
behind_part part b [] = refl
behind_part part b (next ∷ parts) = refl

keeps_part : (part rest : List ℕ) → but_empty_last (part ∷ slice_split is_end rest) ≡ part ∷ but_empty_last (slice_split is_end rest)
keeps_part part [] = refl
keeps_part part (b ∷ rest) = elim (is_end b) as (λ t. but_empty_last (part ∷ cond t ([] ∷ slice_split is_end rest) (onto_first b (slice_split is_end rest)))
    ≡ part ∷ but_empty_last (cond t ([] ∷ slice_split is_end rest) (onto_first b (slice_split is_end rest)))) [
      | true ↦ refl
      | false ↦ behind_part part b (slice_split is_end rest)
    ]

only_part : (text : List ℕ) → 0 < length text → unless_empty text ≡ text ∷ []
only_part [] some = absurd (omega arith)
only_part (b ∷ text) some = refl

-- the first line and the others
pub lines_of-cut : (bytes : List ℕ) (end : ℕ) → Some end ≡ position is_end bytes → lines_of bytes ≡ take end bytes ∷ lines_of (take (length bytes - (end + 1)) (drop (end + 1) bytes))
unfolding lines_of
lines_of-cut bytes end is = ap but_empty_last (cut_parts is_end bytes end is) ∙ keeps_part (take end bytes) (take (length bytes - (end + 1)) (drop (end + 1) bytes))

pub lines_of-uncut : (bytes : List ℕ) → None ≡ position is_end bytes → 0 < length bytes → lines_of bytes ≡ bytes ∷ lines_of (take (length bytes - length bytes) (drop (length bytes) bytes))
unfolding lines_of
lines_of-uncut bytes is some =
    let none : [] ≡ take (length bytes - length bytes) (drop (length bytes) bytes) = sym (take_rest bytes (length bytes) ∙ drop_all (length bytes) bytes (omega arith)) in
    ap but_empty_last (uncut is_end bytes is) ∙ only_part bytes some ∙ ap (λ l. bytes ∷ but_empty_last (slice_split is_end l)) none

pub no_lines : (rest : List ℕ) → rest ≡ [] → lines_of rest ≡ []
unfolding lines_of
no_lines rest none = ap (λ l. but_empty_last (slice_split is_end l)) none

-- values before others, if all of these are there
abbrev pub all_behind : {A : Type 0} → List A → Option (List A) → Option (List A)
all_behind front None = None
all_behind front (Some xs) = Some (front ++ xs)

all_behind-onto : {A : Type 0} (front : List A) (x : A) (others : Option (List A)) → all_behind front (onto (Some x) others) ≡ all_behind (front ++ x ∷ []) others
all_behind-onto front x None = refl
all_behind-onto front x (Some xs) = ap Some (sym (append_assoc front (x ∷ []) xs))

-- What was read so far, and what the rest has.
pub record IsReadTo (bytes rest : List ℕ) (lines : List ScriptLine) : Type 0 where
  pub values : script_value bytes ≡ all_behind (map step_of lines) (script_value rest)
  pub off : first_bad_line bytes ≡ position_from is_bad_line (length lines + 1) (lines_of rest)

-- One more line.
pub read_more : (bytes rest : List ℕ) (lines : List ScriptLine) → IsReadTo bytes rest lines → (text more : List ℕ) (line : ScriptLine) (now : List ScriptLine) → lines_of rest ≡ text ∷ lines_of more
    → Some (step_of line) ≡ step_value text → now ≡ lines ++ line ∷ [] → IsReadTo bytes more now
read_more bytes rest lines so_far text more line now is value last = record {
  values = so_far.values ∙ ap (λ ls. all_behind (map step_of lines) (all_values step_value ls)) is
      ∙ ap (λ v. all_behind (map step_of lines) (onto v (script_value more))) (sym value)
      ∙ all_behind-onto (map step_of lines) (step_of line) (script_value more)
      ∙ ap (λ ls. all_behind ls (script_value more)) (sym (map-append step_of lines (line ∷ [])) ∙ ap (map step_of) (sym last));
  off = so_far.off ∙ ap (position_from is_bad_line (length lines + 1)) is
      ∙ ap (λ v. cond (is_none v) (Some (length lines + 1)) (position_from is_bad_line (length lines + 1 + 1) (lines_of more))) (sym value)
      ∙ ap (λ n. position_from is_bad_line (n + 1) (lines_of more)) (sym (ap length last ∙ length_push lines line));
}

-- At the end all is read.
pub read_all : (bytes rest : List ℕ) (lines : List ScriptLine) → IsReadTo bytes rest lines → rest ≡ [] → script_value bytes ≡ Some (map step_of lines)
read_all bytes rest lines so_far none =
    so_far.values ∙ ap (λ ls. all_behind (map step_of lines) (all_values step_value ls)) (no_lines rest none) ∙ ap Some (append-nil (map step_of lines))

-- a list whose length is tested as 0 is empty
pub nothing_left : (rest : List ℕ) (b : Bool) → b ≡ (length rest == 0) → b ≡ true → rest ≡ []
nothing_left [] b is holds = refl
nothing_left (x ∷ rest) b is holds =
    let none : length (x ∷ rest) ≡ 0 = grind (arith, nat_tests) in
    absurd (omega arith)
