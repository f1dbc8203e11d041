-- What is written by a codec is read, and nothing else.
use Rattle.std.proofs.Common.{◌≡◌, ℕ, ℤ, pos, negsuc, List, [], ◌∷◌, ◌++◌, ◌+◌, length, Bool, true, false, Option, Some, None, refl, sym, ap, ◌∙◌, append-nil, length-append, cond}
use Rattle.std.specs.Prelude.{option_map, option_and_then}
use Rattle.std.specs.List.{list_all}
use Rattle.std.proofs.lemmas.List.{append_assoc}
use Rattle.std.proofs.lemmas.Bool.{and_from, and_parts}
use Rattle.sqlite_value.specs.declared.value.Value.{Value}
use Rattle.sqlite_value.specs.declared.value.Value.TheVariants.{Null, Int, Real, Text, Blob}
use Rattle.sqlite_value.specs.Order.{Row}
use Rattle.hh_keyed_rows.specs.Codecs.{Codec, IsCodec, is_discrete, at_front, int_in, nat_in, text_in, blob_in, int_column, nat_column, text_column, blob_column, both, via, coded, within}
use Rattle.hh_keyed_rows.specs.KeyedRows.{columns_of, entry_in, stored_entry, whole}

pub same_some : {A : Type 0} {a b : A} → Some a ≡ Some b → a ≡ b
same_some e = cc

-- a value that was read, and what is left
abbrev got : {A : Type 0} → A → Row → Option (A × Row)
got a rest = Some (a, rest)

pub none_is_not_some : {A : Type 0} {a : A} → ◌≡◌ {A = Option A} None (Some a) → ⊥
none_is_not_some e = cc

-- ---- one column

module _ {A : Type 0} (read : Value → Option A) (write : A → Value) (only : (v : Value) (a : A) → read v ≡ Some a → v ≡ write a) where
  only_front : (row : Row) (a : A) (rest : Row) → at_front read row ≡ got a rest → row ≡ write a ∷ rest
  only_front [] a rest is = absurd (none_is_not_some is)
  only_front (v ∷ more) a rest is =
      (elim (read v) as (λ o. (read v ≡ o) → option_map (λ (a : A). (a, more)) o ≡ got a rest → v ∷ more ≡ write a ∷ rest) [
        | None ↦ λ at e. absurd (none_is_not_some e)
        | Some b ↦ λ at e.
            let p : b ≡ a = ap (λ (x : A × Row). x.0) (same_some e) in
            let q : more ≡ rest = ap (λ (x : A × Row). x.1) (same_some e) in
            let r : v ≡ write a = only v b at ∙ ap write p in
            λ i. r i ∷ q i
      ]) refl is

pub int_codec : IsCodec int_column
int_codec = record {
  back = λ a rest fits. refl;
  only = only_front int_in Int is_int;
  fitting = λ row a rest is. refl;
  apart = λ a b same. cc same;
  wide = λ a. refl;
  plain = λ a. refl;
}
  where
    is_int : (v : Value) (a : ℤ) → int_in v ≡ Some a → v ≡ Int a
    is_int Null a e = absurd (none_is_not_some e)
    is_int (Int n) a e = ap Int (same_some e)
    is_int (Real x) a e = absurd (none_is_not_some e)
    is_int (Text t) a e = absurd (none_is_not_some e)
    is_int (Blob b) a e = absurd (none_is_not_some e)

pub nat_codec : IsCodec nat_column
nat_codec = record {
  back = λ a rest fits. refl;
  only = only_front nat_in (λ n. Int (pos n)) is_nat;
  fitting = λ row a rest is. refl;
  apart = λ a b same. cc same;
  wide = λ a. refl;
  plain = λ a. refl;
}
  where
    is_nat : (v : Value) (a : ℕ) → nat_in v ≡ Some a → v ≡ Int (pos a)
    is_nat Null a e = absurd (none_is_not_some e)
    is_nat (Int (pos n)) a e = ap (λ n. Int (pos n)) (same_some e)
    is_nat (Int (negsuc n)) a e = absurd (none_is_not_some e)
    is_nat (Real x) a e = absurd (none_is_not_some e)
    is_nat (Text t) a e = absurd (none_is_not_some e)
    is_nat (Blob b) a e = absurd (none_is_not_some e)

pub text_codec : IsCodec text_column
text_codec = record {
  back = λ a rest fits. refl;
  only = only_front text_in Text is_text;
  fitting = λ row a rest is. refl;
  apart = λ a b same. cc same;
  wide = λ a. refl;
  plain = λ a. refl;
}
  where
    is_text : (v : Value) (a : List ℕ) → text_in v ≡ Some a → v ≡ Text a
    is_text Null a e = absurd (none_is_not_some e)
    is_text (Int n) a e = absurd (none_is_not_some e)
    is_text (Real x) a e = absurd (none_is_not_some e)
    is_text (Text t) a e = ap Text (same_some e)
    is_text (Blob b) a e = absurd (none_is_not_some e)

pub blob_codec : IsCodec blob_column
blob_codec = record {
  back = λ a rest fits. refl;
  only = only_front blob_in Blob is_blob;
  fitting = λ row a rest is. refl;
  apart = λ a b same. cc same;
  wide = λ a. refl;
  plain = λ a. refl;
}
  where
    is_blob : (v : Value) (a : List ℕ) → blob_in v ≡ Some a → v ≡ Blob a
    is_blob Null a e = absurd (none_is_not_some e)
    is_blob (Int n) a e = absurd (none_is_not_some e)
    is_blob (Real x) a e = absurd (none_is_not_some e)
    is_blob (Text t) a e = absurd (none_is_not_some e)
    is_blob (Blob b) a e = ap Blob (same_some e)

-- ---- of codecs

pub all_append : {X : Type 0} (p : X → Bool) (xs ys : List X) → list_all p xs ≡ true → list_all p ys ≡ true → list_all p (xs ++ ys) ≡ true
all_append p [] ys h k = k
all_append p (x ∷ xs) ys h k =
    let two = and_parts (p x) (list_all p xs) h in
    and_from (p x) (list_all p (xs ++ ys)) two.0 (all_append p xs ys two.1 k)

-- two lists with first parts of the same length
same_parts : {X : Type 0} (xs ys us vs : List X) → length xs ≡ length ys → xs ++ us ≡ ys ++ vs → (xs ≡ ys) × (us ≡ vs)
same_parts [] [] us vs long same = (refl, same)
same_parts [] (y ∷ ys) us vs long same = absurd (cc long)
same_parts (x ∷ xs) [] us vs long same = absurd (cc long)
same_parts (x ∷ xs) (y ∷ ys) us vs long same =
    let first : x ≡ y = cc same in
    let more = same_parts xs ys us vs (cc long) (cc same) in
    ((λ i. first i ∷ more.0 i), more.1)

module _ {A B : Type 0} (c : Codec A) (d : Codec B) (is_c : IsCodec c) (is_d : IsCodec d) where
  abbrev next_of : A × Row → Option ((A × B) × Row)
  next_of x = option_map (λ y. ((x.0, y.0), y.1)) (d.read x.1)

  both_back : (p : A × B) (rest : Row) → (both c d).fits p ≡ true → (both c d).read ((both c d).write p ++ rest) ≡ got p rest
  both_back p rest fit =
      let fits = and_parts (c.fits p.0) (d.fits p.1) fit in
      ap (λ row. option_and_then next_of (c.read row)) (append_assoc (c.write p.0) (d.write p.1) rest)
      ∙ ap (option_and_then next_of) (is_c.back p.0 (d.write p.1 ++ rest) fits.0)
      ∙ ap (option_map (λ y. ((p.0, y.0), y.1))) (is_d.back p.1 rest fits.1)

  both_read : (row : Row) (p : A × B) (rest : Row) → (both c d).read row ≡ got p rest → (middle : Row) × (c.read row ≡ got p.0 middle) × (d.read middle ≡ got p.1 rest)
  both_read row p rest is = by_first (c.read row) refl is
    where
      by_second : (a : A) (middle : Row) (o : Option (B × Row)) → c.read row ≡ got a middle → d.read middle ≡ o → option_map (λ y. ((a, y.0), y.1)) o ≡ got p rest
          → (middle : Row) × (c.read row ≡ got p.0 middle) × (d.read middle ≡ got p.1 rest)
      by_second a middle None first at is = absurd (none_is_not_some is)
      by_second a middle (Some y) first at is =
          let one : a ≡ p.0 = ap (λ (z : (A × B) × Row). z.0.0) (same_some is) in
          let two : y.0 ≡ p.1 = ap (λ (z : (A × B) × Row). z.0.1) (same_some is) in
          let left : y.1 ≡ rest = ap (λ (z : (A × B) × Row). z.1) (same_some is) in
          (middle, first ∙ ap (λ a. got a middle) one, at ∙ (λ i. got (two i) (left i)))

      by_first : (o : Option (A × Row)) → c.read row ≡ o → option_and_then next_of o ≡ got p rest
          → (middle : Row) × (c.read row ≡ got p.0 middle) × (d.read middle ≡ got p.1 rest)
      by_first None at is = absurd (none_is_not_some is)
      by_first (Some x) at is = by_second x.0 x.1 (d.read x.1) at refl is

  both_only : (row : Row) (p : A × B) (rest : Row) → (both c d).read row ≡ got p rest → row ≡ (both c d).write p ++ rest
  both_only row p rest is =
      let it = both_read row p rest is in
      is_c.only row p.0 it.0 it.1 ∙ ap (λ more. c.write p.0 ++ more) (is_d.only it.0 p.1 rest it.2)
      ∙ sym (append_assoc (c.write p.0) (d.write p.1) rest)

  both_fitting : (row : Row) (p : A × B) (rest : Row) → (both c d).read row ≡ got p rest → (both c d).fits p ≡ true
  both_fitting row p rest is =
      let it = both_read row p rest is in
      and_from (c.fits p.0) (d.fits p.1) (is_c.fitting row p.0 it.0 it.1) (is_d.fitting it.0 p.1 rest it.2)

  both_apart : (p q : A × B) → (both c d).write p ≡ (both c d).write q → p ≡ q
  both_apart p q same =
      let parts = same_parts (c.write p.0) (c.write q.0) (d.write p.1) (d.write q.1) (is_c.wide p.0 ∙ sym (is_c.wide q.0)) same in
      let one = is_c.apart p.0 q.0 parts.0 in
      let two = is_d.apart p.1 q.1 parts.1 in
      λ i. (one i, two i)

  pub both_codec : IsCodec (both c d)
  both_codec = record {
    back = both_back;
    only = both_only;
    fitting = both_fitting;
    apart = both_apart;
    wide = λ p. length-append (c.write p.0) (d.write p.1) ∙ (λ i. is_c.wide p.0 i + is_d.wide p.1 i);
    plain = λ p. all_append is_discrete (c.write p.0) (d.write p.1) (is_c.plain p.0) (is_d.plain p.1);
  }

module _ {A B : Type 0} (code : B → A) (named : A → Option B) (there : (b : B) → named (code b) ≡ Some b) (here : (a : A) (b : B) → named a ≡ Some b → a ≡ code b)
    (c : Codec A) (is_c : IsCodec c) where
  coded_read : (row : Row) (b : B) (rest : Row) → (coded code named c).read row ≡ got b rest → c.read row ≡ got (code b) rest
  coded_read row b rest is = by_code (c.read row) refl is
    where
      by_name : (a : A) (left : Row) (o : Option B) → c.read row ≡ got a left → named a ≡ o → option_map (λ (b : B). (b, left)) o ≡ got b rest → c.read row ≡ got (code b) rest
      by_name a left None at name is = absurd (none_is_not_some is)
      by_name a left (Some found) at name is =
          let p : found ≡ b = ap (λ (z : B × Row). z.0) (same_some is) in
          let q : left ≡ rest = ap (λ (z : B × Row). z.1) (same_some is) in
          let r : a ≡ code b = here a b (name ∙ ap (λ b. Some b) p) in
          at ∙ (λ i. got (r i) (q i))

      by_code : (o : Option (A × Row)) → c.read row ≡ o → option_and_then (λ (x : A × Row). option_map (λ (b : B). (b, x.1)) (named x.0)) o ≡ got b rest → c.read row ≡ got (code b) rest
      by_code None at is = absurd (none_is_not_some is)
      by_code (Some x) at is = by_name x.0 x.1 (named x.0) at refl is

  pub coded_codec : IsCodec (coded code named c)
  coded_codec = record {
    back = λ b rest fit. ap (option_and_then (λ (x : A × Row). option_map (λ (b : B). (b, x.1)) (named x.0))) (is_c.back (code b) rest fit)
        ∙ ap (option_map (λ (b : B). (b, rest))) (there b);
    only = λ row b rest is. is_c.only row (code b) rest (coded_read row b rest is);
    fitting = λ row b rest is. is_c.fitting row (code b) rest (coded_read row b rest is);
    apart = λ a b same. same_some (sym (there a) ∙ ap named (is_c.apart (code a) (code b) same) ∙ there b);
    wide = λ b. is_c.wide (code b);
    plain = λ b. is_c.plain (code b);
  }

module _ {A B : Type 0} (to : A → B) (from : B → A) (there : (b : B) → to (from b) ≡ b) (here : (a : A) → from (to a) ≡ a) (c : Codec A) (is_c : IsCodec c) where
  via_read : (row : Row) (b : B) (rest : Row) → (via to from c).read row ≡ got b rest → c.read row ≡ got (from b) rest
  via_read row b rest is = by_code (c.read row) refl is
    where
      by_code : (o : Option (A × Row)) → c.read row ≡ o → option_map (λ (x : A × Row). (to x.0, x.1)) o ≡ got b rest → c.read row ≡ got (from b) rest
      by_code None at is = absurd (none_is_not_some is)
      by_code (Some x) at is =
          let p : to x.0 ≡ b = ap (λ (z : B × Row). z.0) (same_some is) in
          let q : x.1 ≡ rest = ap (λ (z : B × Row). z.1) (same_some is) in
          let a : x.0 ≡ from b = sym (here x.0) ∙ ap from p in
          at ∙ (λ i. got (a i) (q i))

  pub via_codec : IsCodec (via to from c)
  via_codec = record {
    back = λ b rest fit. ap (option_map (λ (x : A × Row). (to x.0, x.1))) (is_c.back (from b) rest fit) ∙ ap (λ b. got b rest) (there b);
    only = λ row b rest is. is_c.only row (from b) rest (via_read row b rest is);
    fitting = λ row b rest is. is_c.fitting row (from b) rest (via_read row b rest is);
    apart = λ a b same. sym (there a) ∙ ap to (is_c.apart (from a) (from b) same) ∙ there b;
    wide = λ b. is_c.wide (from b);
    plain = λ b. is_c.plain (from b);
  }

module _ {A : Type 0} (in_range : A → Bool) (c : Codec A) (is_c : IsCodec c) where
  abbrev kept_of : A × Row → Option (A × Row)
  kept_of x = cond (in_range x.0) (Some x) None

  within_read : (row : Row) (a : A) (rest : Row) → (within in_range c).read row ≡ got a rest → (c.read row ≡ got a rest) × (in_range a ≡ true)
  within_read row a rest is = by_value (c.read row) refl is
    where
      by_range : (x : A × Row) (b : Bool) → c.read row ≡ Some x → in_range x.0 ≡ b → cond b (Some x) None ≡ got a rest → (c.read row ≡ got a rest) × (in_range a ≡ true)
      by_range x true at range is = (at ∙ is, sym (ap (λ (z : A × Row). in_range z.0) (same_some is)) ∙ range)
      by_range x false at range is = absurd (none_is_not_some is)

      by_value : (o : Option (A × Row)) → c.read row ≡ o → option_and_then kept_of o ≡ got a rest → (c.read row ≡ got a rest) × (in_range a ≡ true)
      by_value None at is = absurd (none_is_not_some is)
      by_value (Some x) at is = by_range x (in_range x.0) at refl is

  within_back : (a : A) (rest : Row) → (within in_range c).fits a ≡ true → (within in_range c).read (c.write a ++ rest) ≡ got a rest
  within_back a rest fit =
      let fits = and_parts (c.fits a) (in_range a) fit in
      ap (option_and_then kept_of) (is_c.back a rest fits.0) ∙ ap (λ b. cond b (got a rest) None) fits.1

  pub within_codec : IsCodec (within in_range c)
  within_codec = record {
    back = within_back;
    only = λ row a rest is. is_c.only row a rest (within_read row a rest is).0;
    fitting = λ row a rest is. let it = within_read row a rest is in and_from (c.fits a) (in_range a) (is_c.fitting row a rest it.0) it.1;
    apart = is_c.apart;
    wide = is_c.wide;
    plain = is_c.plain;
  }

-- ---- the entry of a row

module _ {K V : Type 0} (key : Codec K) (value : Codec V) (is_key : IsCodec key) (is_value : IsCodec value) where
  pub written_in : (k : K) (v : V) → key.fits k ≡ true → value.fits v ≡ true → entry_in key value (columns_of key value (k, v)) ≡ Some (k, v)
  written_in k v fit_key fit_value =
      ap (λ row. option_and_then (λ x. whole x.0 x.1) ((both key value).read row)) (sym (append-nil (columns_of key value (k, v))))
      ∙ ap (option_and_then (λ (x : (K × V) × Row). whole x.0 x.1)) ((both_codec key value is_key is_value).back (k, v) [] (and_from (key.fits k) (value.fits v) fit_key fit_value))

  pub entry_written : (id : Value) (k : K) (v : V) → key.fits k ≡ true → value.fits v ≡ true → stored_entry key value (id ∷ columns_of key value (k, v)) ≡ Some (k, v)
  entry_written id k v = written_in k v

  entry_read : (columns : Row) (e : K × V) → entry_in key value columns ≡ Some e → (both key value).read columns ≡ got e []
  entry_read columns e is = by_read ((both key value).read columns) refl is
    where
      by_rest : (p : K × V) (rest : Row) → (both key value).read columns ≡ got p rest → whole p rest ≡ Some e → (both key value).read columns ≡ got e []
      by_rest p [] at f = at ∙ ap (λ q. got q []) (same_some f)
      by_rest p (v ∷ rest) at f = absurd (none_is_not_some f)

      by_read : (o : Option ((K × V) × Row)) → (both key value).read columns ≡ o → option_and_then (λ (x : (K × V) × Row). whole x.0 x.1) o ≡ Some e → (both key value).read columns ≡ got e []
      by_read None at f = absurd (none_is_not_some f)
      by_read (Some x) at f = by_rest x.0 x.1 at f

  pub read_only : (columns : Row) (e : K × V) → entry_in key value columns ≡ Some e → columns ≡ columns_of key value e
  read_only columns e is = (both_codec key value is_key is_value).only columns e [] (entry_read columns e is) ∙ append-nil (columns_of key value e)

  pub entry_only : (id : Value) (columns : Row) (e : K × V) → stored_entry key value (id ∷ columns) ≡ Some e → columns ≡ columns_of key value e
  entry_only id columns e is = read_only columns e is

  pub entry_fits : (columns : Row) (e : K × V) → entry_in key value columns ≡ Some e → (key.fits e.0 ≡ true) × (value.fits e.1 ≡ true)
  entry_fits columns e is = and_parts (key.fits e.0) (value.fits e.1) ((both_codec key value is_key is_value).fitting columns e [] (entry_read columns e is))
