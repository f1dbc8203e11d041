-- Fields of the lines of reports.
use Rattle.std.proofs.Common.{◌≡◌, ℕ, ◌-◌, ◌/◌, ◌^◌, ◌++◌, ℤ, pos, negsuc, suc, List, [], ◌∷◌, length, replicate, ap, ◌∙◌, arith, append-nil, append_assoc, length-append}
use Rattle.std.specs.Fmt.{decimal}
use Rattle.hh_num.specs.Fixed.{fixed_text, flush_right}
use Rattle.hh_reports.specs.Fields.{pence_text, flush_left}

-- a text of any length fills a width of 0
pub fills_none : (text : List ℕ) → flush_right 0 text ≡ text
unfolding flush_right
fills_none text = let none : 0 - length text ≡ 0 = omega arith in ap (λ n. replicate n 32 ++ text) none

-- a number without decimals
pub text_of_whole : (pence : ℤ) → fixed_text 0 pence ≡ pence_text pence
unfolding pence_text
text_of_whole (pos n) = let whole : n / 10 ^ 0 ≡ n = omega arith in ap (λ m. decimal m ++ []) whole ∙ append-nil (decimal n)
text_of_whole (negsuc n) =
    let whole : suc n / 10 ^ 0 ≡ suc n = omega arith in
    ap (λ m. 45 ∷ (decimal m ++ [])) whole ∙ ap (λ ds. 45 ∷ ds) (append-nil (decimal (suc n)))

-- blanks are written behind a name
pub name_filled : (old new name : List ℕ) (width : ℕ) → new ≡ old ++ name → new ++ replicate (width - (length new - length old)) 32 ≡ old ++ flush_left width name
unfolding flush_left
name_filled old new name width is =
    let long : length new - length old ≡ length name = rw is (omega (arith, length-append old name)) in
    ap (λ n. new ++ replicate (width - n) 32) long ∙ ap (λ xs. xs ++ replicate (width - length name) 32) is ∙ append_assoc old name _
