-- Words without any of the options that are removed are kept as they are.
use Rattle.std.proofs.Common.{◌≡◌, ◌∙◌, ◌&&◌, ◌||◌, ap, refl, sym, Bool, true, false, not, List, [], ◌∷◌, Option, Some, None, codes, drop, length, option_and_then, option_map, if◌then◌else◌}
use Rattle.std.proofs.Math.Bool.{true≢false}
use Rattle.std.proofs.Math.Dec.{eqb}
use Rattle.std.specs.List.{list_all, starts_with}
use Rattle.std.specs.Option.{option_or}
use Rattle.std.specs.Str.{bytes_eq}
use Rattle.clap.specs.Words.{Text}
use Rattle.hh_words.specs.KeyFiles.{KeyOption, behind, file_with_key, names_file, operator_key, path_at, path_named, shown_key}
use Rattle.hh_words.specs.Options.{has_option, is_end, is_explain, is_script, is_strict, is_taken, without, words_left}
use Rattle.hh_words.specs.PlainWords.{is_file_option, is_key_option, is_option, has_no_option}

-- what two tests say together

plain_first : (a rest : Bool) → (not a && rest) ≡ true → (a ≡ false) × (rest ≡ true)
plain_first true rest h = absurd (true≢false (sym h))
plain_first false rest h = (refl, h)

neither : (a b : Bool) → (a || b) ≡ false → (a ≡ false) × (b ≡ false)
neither true b h = absurd (true≢false h)
neither false b h = (refl, h)

no_explain : (word : Text) → is_option word ≡ false → is_explain word ≡ false
no_explain word h = (neither (is_explain word) (is_strict word || is_key_option word) h).0

no_strict : (word : Text) → is_option word ≡ false → is_strict word ≡ false
no_strict word h =
    (neither (is_strict word) (is_key_option word) ((neither (is_explain word) (is_strict word || is_key_option word) h).1)).0

no_key : (word : Text) → is_option word ≡ false → is_key_option word ≡ false
no_key word h =
    (neither (is_strict word) (is_key_option word) ((neither (is_explain word) (is_strict word || is_key_option word) h).1)).1

both_false : (a b : Bool) → b ≡ false → (a && b) ≡ false
both_false true b h = h
both_false false b h = refl

not_taken : (script : Bool) (word : Text) → is_option word ≡ false → is_taken script word ≡ false
not_taken true word h = ap (λ a. a || is_strict word) (no_explain word h) ∙ no_strict word h
not_taken false word h = ap (λ a. a || false) (no_explain word h)

-- words, one after the other

abbrev no_options : List Text → Bool
no_options words = list_all (λ word. not (is_option word)) words

passes_on : (e a rest : Bool) → a ≡ false → rest ≡ false → (if e then false else if a then true else rest) ≡ false
passes_on true a rest is none = refl
passes_on false true rest is none = absurd (true≢false is)
passes_on false false rest is none = none

has_none : (test : Text → Bool) → ((word : Text) → is_option word ≡ false → test word ≡ false) → (words : List Text) → no_options words ≡ true
    → has_option test words ≡ false
has_none test fails [] h = refl
has_none test fails (word ∷ words) h =
    let first = plain_first (is_option word) (no_options words) h in
    passes_on (is_end word) (test word) (has_option test words) (fails word first.0) (has_none test fails words first.1)

stays : (e a : Bool) (word : Text) (words rest : List Text) → a ≡ false → rest ≡ words → (if e then word ∷ words else if a then rest else word ∷ rest) ≡ word ∷ words
stays true a word words rest is same = refl
stays false true word words rest is same = absurd (true≢false is)
stays false false word words rest is same = ap (λ l. word ∷ l) same

without_none : (test : Text → Bool) → ((word : Text) → is_option word ≡ false → test word ≡ false) → (words : List Text) → no_options words ≡ true
    → without test words ≡ words
without_none test fails [] h = refl
without_none test fails (word ∷ words) h =
    let first = plain_first (is_option word) (no_options words) h in
    stays (is_end word) (test word) word words (without test words) (fails word first.0) (without_none test fails words first.1)

-- neither option is asked for
pub plain_explain : (words : List Text) → has_no_option words ≡ true → has_option is_explain (drop 1 words) ≡ false
plain_explain words h = has_none is_explain no_explain (drop 1 words) h

pub plain_strict : (words : List Text) → has_no_option words ≡ true → (is_script (drop 1 words) && has_option is_strict (drop 1 words)) ≡ false
plain_strict words h = both_false (is_script (drop 1 words)) (has_option is_strict (drop 1 words)) (has_none is_strict no_strict (drop 1 words) h)

-- and all words are kept
pub plain_left : (words : List Text) → has_no_option words ≡ true → words_left words ≡ words
plain_left [] h = refl
plain_left (name ∷ words) h = ap (λ l. name ∷ l) (without_none (is_taken (is_script words)) (not_taken (is_script words)) words h)

-- words that name no file

not_behind : (option : KeyOption) (word : Text) → starts_with eqb word option.path ≡ false → behind option.path word ≡ None
not_behind option word h = ap (λ b. if b then Some (drop (length option.path) word) else None) h

not_named : (option : KeyOption) (word next : Text) → bytes_eq word option.file ≡ false → names_file option word next ≡ false
not_named option word next h = ap (λ b. b && (bytes_eq next (codes "-") || not (starts_with eqb next (codes "-")))) h

no_path : (option : KeyOption) (word : Text) (words : List Text) → is_file_option option word ≡ false → path_at option word words ≡ None
no_path option word [] h = not_behind option word (neither (bytes_eq word option.file) (starts_with eqb word option.path) h).1
no_path option word (next ∷ words) h =
    let both = neither (bytes_eq word option.file) (starts_with eqb word option.path) h in
    ap (λ b. if b then Some next else behind option.path word) (not_named option word next both.0) ∙ not_behind option word both.1

goes_on : (e : Bool) (path rest : Option Text) → path ≡ None → rest ≡ None → (if e then None else option_or path rest) ≡ None
goes_on true path rest is none = refl
goes_on false path rest is none = ap (λ p. option_or p rest) is ∙ none

names_none : (option : KeyOption) → ((word : Text) → is_option word ≡ false → is_file_option option word ≡ false) → (words : List Text) → no_options words ≡ true
    → path_named option words ≡ None
names_none option fails [] h = refl
names_none option fails (word ∷ words) h =
    let first = plain_first (is_option word) (no_options words) h in
    goes_on (is_end word) (path_at option word words) (path_named option words) (no_path option word words (fails word first.0)) (names_none option fails words first.1)

no_shown : (word : Text) → is_option word ≡ false → is_file_option shown_key word ≡ false
no_shown word h = (neither (is_file_option shown_key word) (is_file_option operator_key word) (no_key word h)).0

no_operator : (word : Text) → is_option word ≡ false → is_file_option operator_key word ≡ false
no_operator word h = (neither (is_file_option shown_key word) (is_file_option operator_key word) (no_key word h)).1

by_command : (shown operator : Bool) (words : List Text) → no_options words ≡ true
    → option_and_then (λ option. path_named option words) (if shown then Some shown_key else if operator then Some operator_key else None) ≡ None
by_command true operator words h = names_none shown_key no_shown words h
by_command false true words h = names_none operator_key no_operator words h
by_command false false words h = refl

-- no file with a key is named
pub plain_names_none : (words : List Text) → has_no_option words ≡ true → file_with_key words ≡ None
plain_names_none [] h = refl
plain_names_none (name ∷ []) h = refl
plain_names_none (name ∷ command ∷ words) h =
    by_command (bytes_eq command (codes "load") || bytes_eq command (codes "run") || bytes_eq command (codes "report"))
    (bytes_eq command (codes "init") || bytes_eq command (codes "script")) words (plain_first (is_option command) (no_options words) h).1

-- if the view of a value is None, so is the value
pub none_seen : {A B : Type 0} (f : A → B) (r : Option A) → option_map f r ≡ None → r ≡ None
none_seen f None h = refl
none_seen f (Some x) h = absurd (cc h)
