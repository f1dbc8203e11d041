-- Values of a type as columns of a row, and back.
use Rattle.std.specs.Prelude.{◌≡◌, ◌+◌, ◌++◌, ℕ, zero, suc, ℤ, pos, List, [], ◌∷◌, length, Bool, true, false, ◌&&◌, Option, Some, None, option_map, option_and_then, if◌then◌else◌}
use Rattle.std.specs.List.{list_all}
use Rattle.sqlite_value.specs.declared.value.Value.{Value}
use Rattle.sqlite_value.specs.declared.value.Value.TheVariants.{Null, Int, Real, Text, Blob}
use Rattle.sqlite_value.specs.Order.{Row}

-- `width` columns that are written for a value, and read from the front of a row. Only values that fit are read.
pub record Codec (A : Type 0) : Type 0 where
  pub width : ℕ
  pub fits : A → Bool
  pub write : A → Row
  pub read : Row → Option (A × Row)

-- a value of SQL that is equal only to itself: no NULL and no real number
abbrev pub is_discrete : Value → Bool
is_discrete Null = false
is_discrete (Int n) = true
is_discrete (Real x) = false
is_discrete (Text t) = true
is_discrete (Blob b) = true

-- What is written for a value that fits is read as that value, and nothing else is read. Two values have different columns.
pub record IsCodec {A : Type 0} (c : Codec A) : Type 0 where
  pub back : (a : A) (rest : Row) → c.fits a ≡ true → c.read (c.write a ++ rest) ≡ Some (a, rest)
  pub only : (row : Row) (a : A) (rest : Row) → c.read row ≡ Some (a, rest) → row ≡ c.write a ++ rest
  pub fitting : (row : Row) (a : A) (rest : Row) → c.read row ≡ Some (a, rest) → c.fits a ≡ true
  pub apart : (a b : A) → c.write a ≡ c.write b → a ≡ b
  pub wide : (a : A) → length (c.write a) ≡ c.width
  pub plain : (a : A) → list_all is_discrete (c.write a) ≡ true

-- ---- one column

-- what the first column of a row is read as, and the columns after it
abbrev pub at_front : {A : Type 0} → (Value → Option A) → Row → Option (A × Row)
at_front read [] = None
at_front read (v ∷ rest) = option_map (λ a. (a, rest)) (read v)

abbrev pub int_in : Value → Option ℤ
int_in (Int n) = Some n
int_in _ = None

abbrev pub nat_in : Value → Option ℕ
nat_in (Int (pos n)) = Some n
nat_in _ = None

abbrev pub text_in : Value → Option (List ℕ)
text_in (Text t) = Some t
text_in _ = None

abbrev pub blob_in : Value → Option (List ℕ)
blob_in (Blob b) = Some b
blob_in _ = None

-- a whole number
abbrev pub int_column : Codec ℤ
int_column = record { width = 1; fits = λ _. true; write = λ n. Int n ∷ []; read = at_front int_in }

-- a whole number that is not negative
abbrev pub nat_column : Codec ℕ
nat_column = record { width = 1; fits = λ _. true; write = λ n. Int (pos n) ∷ []; read = at_front nat_in }

-- a text by its bytes
abbrev pub text_column : Codec (List ℕ)
text_column = record { width = 1; fits = λ _. true; write = λ t. Text t ∷ []; read = at_front text_in }

-- bytes
abbrev pub blob_column : Codec (List ℕ)
blob_column = record { width = 1; fits = λ _. true; write = λ b. Blob b ∷ []; read = at_front blob_in }

-- ---- codecs made from codecs

-- two codecs, one after the other
abbrev pub both : {A B : Type 0} → Codec A → Codec B → Codec (A × B)
both c d = record {
  width = c.width + d.width;
  fits = λ p. c.fits p.0 && d.fits p.1;
  write = λ p. c.write p.0 ++ d.write p.1;
  read = λ row. option_and_then (λ x. option_map (λ y. ((x.0, y.0), y.1)) (d.read x.1)) (c.read row);
}

-- the codec of another type with the same values
abbrev pub via : {A B : Type 0} → (A → B) → (B → A) → Codec A → Codec B
via to from c = record {
  width = c.width;
  fits = λ b. c.fits (from b);
  write = λ b. c.write (from b);
  read = λ row. option_map (λ x. (to x.0, x.1)) (c.read row);
}

-- the codec of a type whose values have codes
abbrev pub coded : {A B : Type 0} → (B → A) → (A → Option B) → Codec A → Codec B
coded code named c = record {
  width = c.width;
  fits = λ b. c.fits (code b);
  write = λ b. c.write (code b);
  read = λ row. option_and_then (λ x. option_map (λ b. (b, x.1)) (named x.0)) (c.read row);
}

-- a codec for only the values in a range
abbrev pub within : {A : Type 0} → (A → Bool) → Codec A → Codec A
within in_range c = record {
  width = c.width;
  fits = λ a. c.fits a && in_range a;
  write = c.write;
  read = λ row. option_and_then (λ x. if in_range x.0 then Some x else None) (c.read row);
}

-- the places of a key's columns, from the first
abbrev pub places_from : ℕ → ℕ → List ℕ
places_from at zero = []
places_from at (suc count) = at ∷ places_from (suc at) count
