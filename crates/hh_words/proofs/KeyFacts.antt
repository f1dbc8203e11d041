-- The rest of a text after another text.
use Rattle.std.proofs.Common.{◌≡◌, ◌∙◌, sym, ap, refl, ℕ, List, Option, Some, None, Bor, true, false, drop, length, option_map, if◌then◌else◌}
use Rattle.std.proofs.Math.Dec.{eqb}
use Rattle.std.proofs.lemmas.Bool.Decides.{Decides-eqb}
use Rattle.std.proofs.lemmas.Slice.Eq.{starts_is}
use Rattle.std.proofs.lemmas.Str.Pattern.{starts_text}
use Rattle.std.specs.List.{starts_with}
use Rattle.std.specs.Option.{MatchOption}
use Rattle.std.specs.Str.Pattern.{FindsTextPrefix, StripsPrefix}
use Rattle.hh_words.specs.KeyFiles.{behind}

-- as `strip_prefix` gives it
pub behind_stripped : (front word : List ℕ) (r : Option (Bor (List ℕ))) → MatchOption r (FindsTextPrefix front word None) (λ x. StripsPrefix (FindsTextPrefix front) word x.now)
    → option_map (λ text. text.now) r ≡ behind front word
behind_stripped front word None none = ap (λ b. if b then Some (drop (length front) word) else None) (starts_text false front word none)
behind_stripped front word (Some x) h =
    let starts : true ≡ starts_with eqb word front = sym ((starts_is Decides-eqb word front _ refl).1 _ h.1.1) in
    ap Some (h.2 ∙ ap (λ n. drop n word) h.1.0) ∙ ap (λ b. if b then Some (drop (length front) word) else None) starts
