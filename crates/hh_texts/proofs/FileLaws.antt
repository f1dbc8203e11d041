-- The rows that are read from a file of a kind are rows of that kind.
use Rattle.std.proofs.Common.{◌≡◌, ℕ, ◌+◌, ◌-◌, ◌≤◌, Vec, Bool, true, false, cond, List, [], ◌∷◌, length, Option, Some, None, Result, Ok, Err, refl, subst, arith, lit≤, ltb, eqb}
use Rattle.std.specs.Prelude.{ℤ, find, pos, int_le, nat_le, nat_lt, slice_index, take, drop, unsigned_abs, option_map, option_and_then, IfOk, IsTrue}
use Rattle.std.specs.List.{AllByRecursion}
use Rattle.std.specs.declared.alloc.Global.{Global}
use Rattle.std.proofs.lemmas.Bool.{and_parts, ltb-false}
use Rattle.std.proofs.lemmas.Bool.Decides.{nat_tests}
use Rattle.std.proofs.lemmas.Int.{ints}
use Rattle.std.proofs.lemmas.Option.{same_Some}
use Rattle.hh_num.specs.Fixed.{fixed_value, kept_if}
use Rattle.hh_num.specs.Quantities.{Measure, multiplier_value, multipliers, percent_value, percentages, price_value, prices, value_in, volume_value, volumes}
use Rattle.hh_num.specs.Ranges.{IsBetween, fixed_between, is_between}
use Rattle.hh_time.specs.DateText.{date_value}
use Rattle.hh_time.specs.Days.{is_accepted, last_date}
use Rattle.hh_time.proofs.AcceptedLaws.{accepted-number}
use Rattle.hh_time.proofs.DateTextLaws.{text_of_value}
use Rattle.hh_names.specs.declared.account.Account.{Account}
use Rattle.hh_names.specs.declared.account.Side.{Side}
use Rattle.hh_names.specs.declared.fault.Fault.{Fault}
use Rattle.hh_names.specs.declared.fault.Refusal.TheVariants.{BadRecord, FileTooLarge, TooManyRows}
use Rattle.hh_names.specs.Faults.{IsOutcomeOrNoMemory, faults, plain_fault, row_fault}
use Rattle.hh_names.specs.Accounts.{account_from, account_value, side_value}
use Rattle.hh_names.specs.Fields.{period_value, yes_no_value}
use Rattle.hh_names.specs.Words.{access_key_value, is_word, party_value, reference_value, unit_value, word_value}
use Rattle.hh_rows.specs.DateRanges.{Range, last_date_value, range_between, range_to_value}
use Rattle.hh_rows.specs.RowKinds.{IsFileOf, IsRowOf, most_bytes, most_rows}
use Rattle.hh_rows.specs.Values.{IsAccount, IsPeriod, IsQuantity, IsRange}
use Rattle.hh_rows.specs.declared.file_kind.FileKind.{FileKind}
use Rattle.hh_rows.specs.declared.file_kind.FileKind.TheVariants as kind
use Rattle.hh_rows.specs.declared.rows.Row.{Row}
use Rattle.hh_rows.specs.declared.rows.Row.TheVariants as row
use Rattle.hh_texts.specs.Fields.{field, in_column, ◌>>=◌}
use Rattle.hh_texts.specs.Files.{contract_row, file_rows, kind_forms, meter_row, party_row, price_row, reallocation_row, unit_row}
use Rattle.hh_texts.specs.Records.{records_of}
use Rattle.hh_texts.specs.Rows.{FileForm, at_row, form_under, row_with, rows_by, rows_from, rows_of, rows_under, same_fields}

-- the value of a test that passes
kept_by : {A : Type 0} (b : Bool) (x y : A) → cond b (Some x) None ≡ Some y → (b ≡ true) × (x ≡ y)
kept_by true x y e = (refl, same_Some x y e)
kept_by false x y e = cc e

-- a word that is read is in its grammar
word_reads : (allows : ℕ → Bool) (least most : ℕ) (text word : List ℕ) → word_value allows least most text ≡ Some word → IsTrue (is_word allows least most word)
word_reads allows least most text word e =
    let kept = kept_by (is_word allows least most text) text word e in
    subst (λ w. IsTrue (is_word allows least most w)) kept.1 kept.0

-- a number that is read lies between its bounds
between_reads : (decimals : ℕ) (low high : ℤ) (text : List ℕ) (z : ℤ) → fixed_between decimals low high text ≡ Some z → IsBetween low high z
between_reads decimals low high text z e = go (fixed_value decimals text) e
  where
    go : (o : Option ℤ) → kept_if (is_between low high) o ≡ Some z → IsBetween low high z
    go None k = cc k
    go (Some v) k =
        let kept = kept_by (is_between low high v) v z k in
        let parts = and_parts (int_le low v) (int_le v high) kept.0 in
        subst (λ w. IsBetween low high w) kept.1 (grind (arith, ints), grind (arith, ints))

quantity_reads : (measure : Measure) (text : List ℕ) (z : ℤ) → value_in measure text ≡ Some z → IsQuantity measure z
quantity_reads measure text z e = between_reads measure.decimals measure.least measure.most text z e

-- a date that is read is accepted
date_reads : (text : List ℕ) (d : ℕ) → date_value text ≡ Some d → IsTrue (is_accepted d)
date_reads text d e =
    let (x, accepted, same, number) = text_of_value text d e in
    let range = (accepted-number x).0 accepted in
    grind (arith, ints, nat_tests)

-- the number of a Settlement Period that is read is 1 to 50
period_reads : (text : List ℕ) (p : ℕ) → period_value text ≡ Some p → (1 ≤ p) × (p ≤ 50)
unfolding period_value
period_reads text p e = go (fixed_between 0 (pos 1) (pos 50) text) refl e
  where
    go : (o : Option ℤ) → fixed_between 0 (pos 1) (pos 50) text ≡ o → option_map unsigned_abs o ≡ Some p → (1 ≤ p) × (p ≤ 50)
    go None k h = cc h
    go (Some z) k h =
        let within = between_reads 0 (pos 1) (pos 50) text z k in
        let same : unsigned_abs z ≡ p = same_Some _ _ h in
        subst (λ n. (1 ≤ n) × (n ≤ 50)) same (omega (arith, ints), omega (arith, ints))

-- a range that is read goes from its first date to an accepted one that is not before it
range_reads : (from : ℕ) (text : List ℕ) (range : Range) → IsTrue (is_accepted from) → range_to_value from text ≡ Some range → IsRange range
unfolding range_to_value
range_reads from text range first e = go (last_date_value text) refl e
  where
    last : (b : Bool) (d : ℕ) → cond b (Some last_date) (date_value text) ≡ Some d → IsTrue (is_accepted d)
    last true d k = subst (λ n. IsTrue (is_accepted n)) (same_Some last_date d k) refl
    last false d k = date_reads text d k

    go : (o : Option ℕ) → last_date_value text ≡ o → option_and_then (range_between from) o ≡ Some range → IsRange range
    go None k h = cc h
    go (Some to) k h =
        let kept = kept_by (nat_le from to) (record { from = from; to = to }) range h in
        subst IsRange kept.1 (record { from = first; to = last (eqb (length text) 0) to k; rising = grind (arith, nat_tests) })

-- an account that is read is one of a party whose id is in its grammar
account_reads : (text : List ℕ) (a : Account) → account_value text ≡ Some a → IsAccount a
unfolding account_value
account_reads text a e = whole (nat_lt (length text) 2) e
  where
    front : List ℕ
    front = take (length text - 2) text

    named : (side : Option Side) (party : Option (List ℕ)) → party_value front ≡ party → account_from side party ≡ Some a → IsAccount a
    named None party k h = cc h
    named (Some side) None k h = cc h
    named (Some side) (Some party) k h = subst IsAccount (same_Some _ _ h) (word_reads _ 1 10 front party k)

    dashed : (b : Bool) → cond b (account_from (side_value (drop (length text - 1) text)) (party_value front)) None ≡ Some a → IsAccount a
    dashed true h = named (side_value (drop (length text - 1) text)) (party_value front) refl h
    dashed false h = cc h

    whole : (b : Bool) → cond b None (cond (eqb (slice_index text (length text - 2)) 45) (account_from (side_value (drop (length text - 1) text)) (party_value front)) None) ≡ Some a → IsAccount a
    whole true h = cc h
    whole false h = dashed (eqb (slice_index text (length text - 2)) 45) h

-- a Settlement Period that is read
period_at : (date_text period_text : List ℕ) (date period : ℕ) → date_value date_text ≡ Some date → period_value period_text ≡ Some period
    → IsPeriod (record { date = date; period = period })
period_at date_text period_text date period is_date is_period =
    let number = period_reads period_text period is_period in
    record { date = date_reads date_text date is_date; first = number.0; last = number.1 }

-- a row that is read is the one that is made of its columns
abbrev read_as : Row → Result Row ℕ
read_as x = Ok x

made : (P : Row → Type 0) (x r : Row) → read_as x ≡ read_as r → P x → P r
made P x r e holds = let same : x ≡ r = cc e in subst P same holds

-- If each row made of columns that read has a property, so has the row that a record reads as: for three columns,
three_read : {A B C : Type 0} (P : Row → Type 0) (a : Option A) (b : Option B) (c : Option C) (make : A → B → C → Row)
    → ((x : A) (y : B) (z : C) → a ≡ Some x → b ≡ Some y → c ≡ Some z → P (make x y z))
    → (r : Row) → (in_column 1 a >>= λ x. in_column 2 b >>= λ y. in_column 3 c >>= λ z. read_as (make x y z)) ≡ Ok r → P r
three_read P None b c make holds r e = cc e
three_read P (Some x) None c make holds r e = cc e
three_read P (Some x) (Some y) None make holds r e = cc e
three_read P (Some x) (Some y) (Some z) make holds r e = made P (make x y z) r e (holds x y z refl refl refl)

-- for four, of which the third is read by the value of the second,
four_read : {A B C D : Type 0} (P : Row → Type 0) (a : Option A) (b : Option B) (c : B → Option C) (d : Option D) (make : A → C → D → Row)
    → ((x : A) (y : B) (z : C) (u : D) → a ≡ Some x → b ≡ Some y → c y ≡ Some z → d ≡ Some u → P (make x z u))
    → (r : Row) → (in_column 1 a >>= λ x. in_column 2 b >>= λ y. in_column 3 (c y) >>= λ z. in_column 4 d >>= λ u. read_as (make x z u)) ≡ Ok r → P r
four_read P None b c d make holds r e = cc e
four_read P (Some x) None c d make holds r e = cc e
four_read P (Some x) (Some y) c d make holds r e = third (c y) refl e
  where
    third : (o : Option _) → c y ≡ o → (in_column 3 o >>= λ z. in_column 4 d >>= λ u. read_as (make x z u)) ≡ Ok r → P r
    third None is k = cc k
    third (Some z) is k = fourth d refl k
      where
        fourth : (o : Option _) → d ≡ o → (in_column 4 o >>= λ u. read_as (make x z u)) ≡ Ok r → P r
        fourth None is_none k = cc k
        fourth (Some u) is_last k = made P (make x z u) r k (holds x y z u refl refl is is_last)

-- and for six, of which the sixth is read by the value of the fifth.
six_read : {A B C D E F : Type 0} (P : Row → Type 0) (a : Option A) (b : Option B) (c : Option C) (d : Option D) (e : Option E) (f : E → Option F)
    (make : A → B → C → D → E → F → Row)
    → ((x : A) (y : B) (z : C) (u : D) (v : E) (w : F) → a ≡ Some x → b ≡ Some y → c ≡ Some z → d ≡ Some u → e ≡ Some v → f v ≡ Some w → P (make x y z u v w))
    → (r : Row)
    → (in_column 1 a >>= λ x. in_column 2 b >>= λ y. in_column 3 c >>= λ z. in_column 4 d >>= λ u. in_column 5 e >>= λ v. in_column 6 (f v) >>= λ w. read_as (make x y z u v w))
    ≡ Ok r → P r
six_read P None b c d e f make holds r k = cc k
six_read P (Some x) None c d e f make holds r k = cc k
six_read P (Some x) (Some y) None d e f make holds r k = cc k
six_read P (Some x) (Some y) (Some z) None e f make holds r k = cc k
six_read P (Some x) (Some y) (Some z) (Some u) None f make holds r k = cc k
six_read P (Some x) (Some y) (Some z) (Some u) (Some v) f make holds r k = sixth (f v) refl k
  where
    sixth : (o : Option _) → f v ≡ o → (in_column 6 o >>= λ w. read_as (make x y z u v w)) ≡ Ok r → P r
    sixth None is h = cc h
    sixth (Some w) is h = made P (make x y z u v w) r h (holds x y z u v w refl refl refl refl refl is)

-- A record of each kind reads as a row of the kind.
module _ (fields : List (List ℕ)) where
  party_reads : (r : Row) → party_row fields ≡ Ok r → IsRowOf kind.Parties r
  unfolding party_row
  party_reads =
      four_read (IsRowOf kind.Parties) (party_value (field fields 0)) (date_value (field fields 1)) (λ from. range_to_value from (field fields 2)) (access_key_value (field fields 3))
      (λ party range key. row.Party (record { party = party; registration = record { range = range; key = key } }))
      (λ party from range key is_party is_from is_range is_key. record {
        of_kind = refl;
        valued = record {
          party = word_reads _ 1 10 _ party is_party;
          registration = record { range = range_reads from _ range (date_reads _ from is_from) is_range; key = word_reads _ 8 64 _ key is_key };
        };
      })

  unit_reads : (r : Row) → unit_row fields ≡ Ok r → IsRowOf kind.Units r
  unfolding unit_row
  unit_reads =
      six_read (IsRowOf kind.Units) (unit_value (field fields 0)) (party_value (field fields 1)) (side_value (field fields 2)) (yes_no_value (field fields 3)) (date_value (field fields 4))
      (λ from. range_to_value from (field fields 5))
      (λ unit party side interconnector from range. row.Unit (record { unit = unit; registration = record { lead = record { party = party; side = side }; interconnector = interconnector; range = range } }))
      (λ unit party side interconnector from range is_unit is_party is_side is_interconnector is_from is_range. record {
        of_kind = refl;
        valued = record {
          unit = word_reads _ 1 16 _ unit is_unit;
          registration = record { lead = word_reads _ 1 10 _ party is_party; range = range_reads from _ range (date_reads _ from is_from) is_range };
        };
      })

  meter_reads : (r : Row) → meter_row fields ≡ Ok r → IsRowOf kind.Meters r
  unfolding meter_row
  meter_reads =
      six_read (IsRowOf kind.Meters) (unit_value (field fields 0)) (date_value (field fields 1)) (period_value (field fields 2)) (volume_value (field fields 3)) (multiplier_value (field fields 4))
      (λ _. volume_value (field fields 5))
      (λ unit date period metered tlm balancing.
      row.Meter (record { key = record { unit = unit; at = record { date = date; period = period } }; reading = record { metered = metered; tlm = tlm; balancing = balancing } }))
      (λ unit date period metered tlm balancing is_unit is_date is_period is_metered is_tlm is_balancing. record {
        of_kind = refl;
        valued = record {
          key = record { unit = word_reads _ 1 16 _ unit is_unit; at = period_at _ _ date period is_date is_period };
          reading = record {
            metered = quantity_reads volumes _ metered is_metered;
            tlm = quantity_reads multipliers _ tlm is_tlm;
            balancing = quantity_reads volumes _ balancing is_balancing;
          };
        };
      })

  price_reads : (r : Row) → price_row fields ≡ Ok r → IsRowOf kind.Prices r
  unfolding price_row
  price_reads =
      three_read (IsRowOf kind.Prices) (date_value (field fields 0)) (period_value (field fields 1)) (price_value (field fields 2))
      (λ date period price. row.Price (record { at = record { date = date; period = period }; price = price }))
      (λ date period price is_date is_period is_price. record {
        of_kind = refl;
        valued = record { at = period_at _ _ date period is_date is_period; price = quantity_reads prices _ price is_price };
      })

  contract_reads : (r : Row) → contract_row fields ≡ Ok r → IsRowOf kind.Contracts r
  unfolding contract_row
  contract_reads =
      six_read (IsRowOf kind.Contracts) (reference_value (field fields 0)) (account_value (field fields 1)) (account_value (field fields 2)) (date_value (field fields 3)) (period_value (field fields 4))
      (λ _. volume_value (field fields 5))
      (λ reference seller buyer date period volume.
      row.Contract (record { key = record { reference = reference; at = record { date = date; period = period } }; contract = record { counterparties = record { seller = seller; buyer = buyer }; volume = volume } }))
      (λ reference seller buyer date period volume is_reference is_seller is_buyer is_date is_period is_volume. record {
        of_kind = refl;
        valued = record {
          key = record { reference = word_reads _ 1 20 _ reference is_reference; at = period_at _ _ date period is_date is_period };
          counterparties = record { seller = account_reads _ seller is_seller; buyer = account_reads _ buyer is_buyer };
          volume = quantity_reads volumes _ volume is_volume;
        };
      })

  reallocation_reads : (r : Row) → reallocation_row fields ≡ Ok r → IsRowOf kind.Reallocations r
  unfolding reallocation_row
  reallocation_reads =
      six_read (IsRowOf kind.Reallocations) (unit_value (field fields 0)) (account_value (field fields 1)) (date_value (field fields 2)) (period_value (field fields 3)) (percent_value (field fields 4))
      (λ _. volume_value (field fields 5))
      (λ unit account date period percent fixed.
      row.Reallocation (record { key = record { unit_period = record { unit = unit; at = record { date = date; period = period } }; account = account }; reallocation = record { percent = percent; fixed = fixed } }))
      (λ unit account date period percent fixed is_unit is_account is_date is_period is_percent is_fixed. record {
        of_kind = refl;
        valued = record {
          key = record {
            unit_period = record { unit = word_reads _ 1 16 _ unit is_unit; at = period_at _ _ date period is_date is_period };
            account = account_reads _ account is_account;
          };
          reallocation = record { percent = quantity_reads percentages _ percent is_percent; fixed = quantity_reads volumes _ fixed is_fixed };
        };
      })

-- the rows from number n on have the property, and are not too many
abbrev AreFew : {X : Type 0} → (X → Type 0) → ℕ → List X → Type 0
AreFew P n xs = (length xs + n ≤ most_rows + 1) × AllByRecursion P xs

-- If each row that a record reads as has a property, so have the rows of records, and they are not too many.
module _ {X : Type 0} (P : X → Type 0) (row_of : List (List ℕ) → Result X ℕ) (reads : (fields : List (List ℕ)) (x : X) → row_of fields ≡ Ok x → P x) where
  one_more : (n : ℕ) (front : Result X ℕ) (behind : Result (List X) Fault) (xs : List X) → ((x : X) → front ≡ Ok x → P x)
      → ((ys : List X) → behind ≡ Ok ys → AreFew P (n + 1) ys) → row_with (at_row n front) behind ≡ Ok xs → AreFew P n xs
  one_more n (Err c) behind xs first others e = cc e
  one_more n (Ok x) (Err fault) xs first others e = cc e
  one_more n (Ok x) (Ok ys) xs first others e =
      let rest = others ys refl in
      let same : x ∷ ys ≡ xs = cc e in
      subst (AreFew P n) same (omega arith, (first x refl, rest.1))

  -- the rows of the records after a number, which is not past the last row
  abbrev Behind : ℕ → ℕ → List (List (List ℕ)) → Type 0
  Behind columns n records = n ≤ most_rows → (ys : List X) → rows_from columns row_of (n + 1) records ≡ Ok ys → AreFew P (n + 1) ys

  from_reads : (columns n : ℕ) (records : List (List (List ℕ))) (xs : List X) → n ≤ most_rows + 1 → rows_from columns row_of n records ≡ Ok xs → AreFew P n xs
  unfolding rows_from
  from_reads columns n [] xs few e = let none : [] ≡ xs = cc e in subst (AreFew P n) none (omega arith, tt)
  from_reads columns n (fields ∷ records) xs few e = past (λ room ys k. from_reads columns (n + 1) records ys (omega arith) k) (ltb most_rows n) refl e
    where
      of_columns : Behind columns n records → (b : Bool) → n ≤ most_rows
          → cond b (row_with (at_row n (row_of fields)) (rows_from columns row_of (n + 1) records)) (Err (row_fault BadRecord n)) ≡ Ok xs → AreFew P n xs
      of_columns others true room h = one_more n (row_of fields) (rows_from columns row_of (n + 1) records) xs (reads fields) (others room) h
      of_columns others false room h = cc h

      past : Behind columns n records → (b : Bool) → ltb most_rows n ≡ b
          → cond b (Err (plain_fault TooManyRows)) (cond (eqb (length fields) columns) (row_with (at_row n (row_of fields)) (rows_from columns row_of (n + 1) records)) (Err (row_fault BadRecord n))) ≡ Ok xs
          → AreFew P n xs
      past others true is h = cc h
      past others false is h = of_columns others (eqb (length fields) columns) (ltb-false most_rows n is) h

-- If each row that a record of each of these forms reads as has a property, so have the rows of a file of one of the forms, and they
-- are not too many.
module _ {X : Type 0} (P : X → Type 0) where
  -- each row that a record of a form reads as has the property
  abbrev Reads : FileForm X → Type 0
  Reads form = (fields : List (List ℕ)) (x : X) → form.row fields ≡ Ok x → P x

  -- a form that is found among several has it if each of them has it
  found_reads : (test : FileForm X → Bool) (forms : List (FileForm X)) (form : FileForm X) → AllByRecursion Reads forms → find test forms ≡ Some form → Reads form
  found_reads test [] form all e = cc e
  found_reads test (f ∷ forms) form all e =
      elim (test f) as (λ b. cond b (Some f) (find test forms) ≡ Some form → Reads form) [
        | true ↦ λ here. let same : f ≡ form = cc here in subst Reads same all.0
        | false ↦ λ later. found_reads test forms form all.1 later
      ] e

  module _ (forms : List (FileForm X)) (reads : AllByRecursion Reads forms) where
    under_reads : (records : List (List (List ℕ))) (xs : List X) → rows_under forms records ≡ Ok xs → AreFew P 1 xs
    unfolding rows_under
    under_reads [] xs e = cc e
    under_reads (first ∷ records) xs e = go (form_under first forms) refl e
      where
        go : (o : Option (FileForm X)) → form_under first forms ≡ o → rows_by o records ≡ Ok xs → AreFew P 1 xs
        go None is h = cc h
        go (Some form) is h =
            from_reads P form.row (found_reads (λ f. same_fields first f.header) forms form reads is) (length form.header) 1 records xs (lit≤ tt) h

    all_read : (bytes : List ℕ) (xs : List X) → rows_of forms bytes ≡ Ok xs → (length bytes ≤ most_bytes) × (length xs ≤ most_rows) × AllByRecursion P xs
    unfolding rows_of
    all_read bytes xs e = go (ltb most_bytes (length bytes)) refl e
      where
        go : (b : Bool) → ltb most_bytes (length bytes) ≡ b → cond b (Err (plain_fault FileTooLarge)) (rows_under forms (records_of bytes)) ≡ Ok xs
            → (length bytes ≤ most_bytes) × (length xs ≤ most_rows) × AllByRecursion P xs
        go true is h = cc h
        go false is h = let few = under_reads (records_of bytes) xs h in (ltb-false most_bytes (length bytes) is, omega arith, few.1)

-- the row that a record reads as under each form of a kind is a row of the kind
forms_read : (k : FileKind) → AllByRecursion (Reads (IsRowOf k)) (kind_forms k)
forms_read kind.Parties = (party_reads, tt)
forms_read kind.Units = (unit_reads, tt)
forms_read kind.Meters = (meter_reads, tt)
forms_read kind.Prices = (price_reads, tt)
forms_read kind.Contracts = (contract_reads, tt)
forms_read kind.Reallocations = (reallocation_reads, tt)

-- a file of a kind that reads has no more bytes and rows than it may have, and its rows are of the kind
pub file_reads : (k : FileKind) (body : List ℕ) (rows : List Row) → file_rows k body ≡ Ok rows → IsFileOf k body rows
file_reads k body rows e =
    let read = all_read (IsRowOf k) (kind_forms k) (forms_read k) body rows e in
    record { small = read.0; few = read.1; each = read.2 }

-- this holds for what reading the file gives
pub read_fits : (k : FileKind) (body : List ℕ) (result : Result (Vec Row Global) Fault) → IsOutcomeOrNoMemory faults (λ (rows : Vec Row Global). rows.items) result (file_rows k body)
    → IfOk result (λ (rows : Vec Row Global). IsFileOf k body rows.items)
read_fits k body (Err fault) gives = tt
read_fits k body (Ok rows) gives = file_reads k body rows.items gives
