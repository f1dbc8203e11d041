-- The columns of single values are codecs.
use Rattle.std.proofs.Common.{◌≡◌, ◌==◌, ℕ, ℤ, List, [], ◌∷◌, Bool, true, false, cond, Some, None, refl, sym, ap, ◌∙◌}
use Rattle.std.specs.Prelude.{⊤}
use Rattle.std.specs.List.{find}
use Rattle.std.specs.Str.{bytes_eq}
use Rattle.std.proofs.lemmas.Bool.{eq-eqb, eqb-true}
use Rattle.std.proofs.lemmas.Slice.Eq.{bytes_eq-Decides}
use Rattle.hh_num.specs.Ranges.{is_between}
use Rattle.hh_time.specs.Days.{is_accepted}
use Rattle.hh_names.specs.declared.account.Side.{Side}
use Rattle.hh_names.specs.declared.account.Side.TheVariants.{Production, Consumption}
use Rattle.hh_names.specs.Accounts.{side_number}
use Rattle.hh_names.specs.Words.{is_operator_key, is_word, is_capital_or_digit}
use Rattle.hh_rows.specs.declared.file_kind.FileKind.{FileKind}
use Rattle.hh_rows.specs.declared.file_kind.FileKind.TheVariants.{Parties, Units, Meters, Prices, Contracts, Reallocations}
use Rattle.hh_rows.specs.Kinds.{all_kinds, kind_value, kind_word}
use Rattle.hh_runs.specs.declared.run_kind.RunKind.{RunKind}
use Rattle.hh_runs.specs.declared.run_kind.RunKind.TheVariants.{SF, R1, R2, R3, RF, DF}
use Rattle.hh_runs.specs.RunKinds.{all_run_kinds, run_kind_number}
use Rattle.hh_keyed_rows.specs.Codecs.{IsCodec, coded, nat_column}
use Rattle.hh_keyed_rows.specs.Fields.{account_columns, counterparties_columns, date_column, file_kind_column, is_period_number, lead_minutes_column, mark_column, mark_number, number_column, numbered, only_number, operator_key_column, period_column, range_columns, run_kind_column, settlement_period_columns, side_column, units_column, word_column}
use Rattle.hh_keyed_rows.proofs.CodecLaws.{both_codec, coded_codec, int_codec, nat_codec, none_is_not_some, same_some, text_codec, via_codec, within_codec}

pub number_codec : (most : ℕ) → IsCodec (number_column most)
number_codec most = within_codec _ _ nat_codec

pub date_codec : IsCodec date_column
date_codec = within_codec is_accepted _ nat_codec

pub period_codec : IsCodec period_column
period_codec = within_codec is_period_number _ nat_codec

pub units_codec : (least most : ℤ) → IsCodec (units_column least most)
units_codec least most = within_codec (is_between least most) _ int_codec

pub word_codec : (allows : ℕ → Bool) (least most : ℕ) → IsCodec (word_column allows least most)
word_codec allows least most = within_codec (is_word allows least most) _ text_codec

pub operator_key_codec : IsCodec operator_key_column
operator_key_codec = within_codec is_operator_key _ text_codec

found_passes : {X : Type 0} (p : X → Bool) (xs : List X) (x : X) → find p xs ≡ Some x → p x ≡ true
found_passes p [] x is = absurd (none_is_not_some is)
found_passes p (y ∷ ys) x is = by_test (found_passes p ys x) (p y) refl is
  where
    by_test : (find p ys ≡ Some x → p x ≡ true) → (b : Bool) → p y ≡ b → cond b (Some y) (find p ys) ≡ Some x → p x ≡ true
    by_test later true passes is = sym (ap p (same_some is)) ∙ passes
    by_test later false fails is = later is

numbered_codec : {A : Type 0} (number : A → ℕ) (all : List A) → ((a : A) → numbered number all (number a) ≡ Some a) → IsCodec (coded number (numbered number all) nat_column)
numbered_codec number all there =
    coded_codec number (numbered number all) there (λ n a is. eqb-true n (number a) (found_passes (λ a. n == number a) all a is)) _ nat_codec

pub side_codec : IsCodec side_column
side_codec = numbered_codec side_number (Production ∷ Consumption ∷ []) there
  where
    there : (side : Side) → numbered side_number (Production ∷ Consumption ∷ []) (side_number side) ≡ Some side
    there Production = refl
    there Consumption = refl

pub mark_codec : IsCodec mark_column
mark_codec = numbered_codec mark_number (false ∷ true ∷ []) there
  where
    there : (mark : Bool) → numbered mark_number (false ∷ true ∷ []) (mark_number mark) ≡ Some mark
    there true = refl
    there false = refl

pub run_kind_codec : IsCodec run_kind_column
run_kind_codec = numbered_codec run_kind_number all_run_kinds there
  where
    there : (kind : RunKind) → numbered run_kind_number all_run_kinds (run_kind_number kind) ≡ Some kind
    there SF = refl
    there R1 = refl
    there R2 = refl
    there R3 = refl
    there RF = refl
    there DF = refl

pub file_kind_codec : IsCodec file_kind_column
unfolding kind_value
file_kind_codec = coded_codec kind_word kind_value there here _ text_codec
  where
    there : (kind : FileKind) → kind_value (kind_word kind) ≡ Some kind
    there Parties = refl
    there Units = refl
    there Meters = refl
    there Prices = refl
    there Contracts = refl
    there Reallocations = refl

    here : (word : List ℕ) (kind : FileKind) → kind_value word ≡ Some kind → word ≡ kind_word kind
    here word kind is = (bytes_eq-Decides word (kind_word kind)).0 (found_passes (λ kind. bytes_eq word (kind_word kind)) all_kinds kind is)

pub lead_minutes_codec : IsCodec lead_minutes_column
lead_minutes_codec = number_codec 1440

pub only_number_codec : (n : ℕ) → IsCodec (only_number n)
only_number_codec n = coded_codec (λ _. n) (λ m. cond (m == n) (Some tt) None) (λ _. ap (λ b. cond b (Some tt) None) (eq-eqb n n refl)) here _ nat_codec
  where
    here : (m : ℕ) (one : ⊤) → cond (m == n) (Some tt) None ≡ Some one → m ≡ n
    here m one is = by_test (m == n) refl is
      where
        by_test : (b : Bool) → (m == n) ≡ b → cond b (Some tt) None ≡ Some one → m ≡ n
        by_test true same is = eqb-true m n same
        by_test false other is = absurd (none_is_not_some is)

pub account_codec : IsCodec account_columns
account_codec = via_codec _ _ (λ a. refl) (λ p. refl) _ (both_codec _ _ (word_codec is_capital_or_digit 1 10) side_codec)

pub settlement_period_codec : IsCodec settlement_period_columns
settlement_period_codec = via_codec _ _ (λ k. refl) (λ p. refl) _ (both_codec _ _ date_codec period_codec)

pub range_codec : IsCodec range_columns
range_codec = within_codec _ _ (via_codec _ _ (λ r. refl) (λ p. refl) _ (both_codec _ _ date_codec date_codec))

pub counterparties_codec : IsCodec counterparties_columns
counterparties_codec = via_codec _ _ (λ c. refl) (λ p. refl) _ (both_codec _ _ account_codec account_codec)
