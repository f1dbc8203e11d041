-- Texts that grow piece by piece.
use Rattle.std.proofs.Common.{◌≡◌, ℕ, ◌+◌, ◌<◌, List, [], ◌∷◌, ◌++◌, length, get_or, take, sym, ap, ◌∙◌}
use Rattle.std.specs.List.{flat_map}
use Rattle.std.proofs.lemmas.List.{append-nil, append_assoc, take_more}
use Rattle.std.proofs.lemmas.List.Concat.{flat_map-append}

-- one piece after another
and_then : (start middle end first second : List ℕ) → middle ≡ start ++ first → end ≡ middle ++ second → end ≡ start ++ (first ++ second)
and_then start middle end first second e f = f ∙ ap (λ t. t ++ second) e ∙ append_assoc start first second

-- the line of one more row
pub lines_more : {X : Type 0} (line : X → List ℕ) (rows : List X) (i : ℕ) (row : X) → i < length rows → row ≡ get_or rows i row
    → (start text new : List ℕ) → text ≡ start ++ flat_map line (take i rows) → new ≡ text ++ line row
    → new ≡ start ++ flat_map line (take (i + 1) rows)
lines_more line rows i row inside is start text new so_far e =
    and_then start text new (flat_map line (take i rows)) (line row) so_far e
    ∙ ap (λ lines. start ++ lines) (
    ap (λ r. flat_map line (take i rows) ++ line r) is
    ∙ sym (ap (flat_map line) (take_more rows i row inside) ∙ flat_map-append line (take i rows) (get_or rows i row ∷ []) ∙ ap (λ last. flat_map line (take i rows) ++ last) (append-nil (line (get_or rows i row)))))
