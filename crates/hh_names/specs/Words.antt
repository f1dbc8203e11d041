-- Words of one alphabet: ids of parties and units, references, access keys and names of files.
use Rattle.std.specs.Prelude.{ℕ, ◌-◌, ◌++◌, take, drop, replicate, Bool, not, ◌&&◌, ◌||◌, ◌==◌, nat_le, List, length, Option, Some, None, codes, bytes_eq, if◌then◌else◌}
use Rattle.std.specs.Char.{is_ascii_digit, is_ascii_uppercase, is_ascii_alphanumeric}
use Rattle.std.specs.List.{list_all, take_while}

-- least to most bytes, each of them allowed
unfoldable pub is_word : (ℕ → Bool) → ℕ → ℕ → List ℕ → Bool
is_word allows least most text = nat_le least (length text) && nat_le (length text) most && list_all allows text

-- the text as a word, if it is one
abbrev pub word_value : (ℕ → Bool) → ℕ → ℕ → List ℕ → Option (List ℕ)
word_value allows least most text = if is_word allows least most text then Some text else None

-- the bytes of a party's id
abbrev pub is_capital_or_digit : ℕ → Bool
is_capital_or_digit b = is_ascii_uppercase b || is_ascii_digit b

-- the bytes of a unit's id: those of a party's, an underscore and a dash
abbrev pub is_unit_byte : ℕ → Bool
is_unit_byte b = is_capital_or_digit b || b == 95 || b == 45

-- the bytes of a reference: letters, digits, an underscore and a dash
abbrev pub is_reference_byte : ℕ → Bool
is_reference_byte b = is_ascii_alphanumeric b || b == 95 || b == 45

-- the bytes of an access key
abbrev pub is_letter_or_digit : ℕ → Bool
is_letter_or_digit = is_ascii_alphanumeric

-- the bytes of a file's name: letters, digits, a point, an underscore and a dash
abbrev pub is_file_name_byte : ℕ → Bool
is_file_name_byte b = is_ascii_alphanumeric b || b == 46 || b == 95 || b == 45

-- whether a text is the id of a party or of a unit, a reference, an access key or the name of a file
abbrev pub is_party_id : List ℕ → Bool
is_party_id = is_word is_capital_or_digit 1 10

abbrev pub is_unit_id : List ℕ → Bool
is_unit_id = is_word is_unit_byte 1 16

abbrev pub is_reference : List ℕ → Bool
is_reference = is_word is_reference_byte 1 20

abbrev pub is_access_key : List ℕ → Bool
is_access_key = is_word is_letter_or_digit 8 64

abbrev pub is_file_name : List ℕ → Bool
is_file_name = is_word is_file_name_byte 1 64

-- a text as an id, a reference or a key, if it is one
abbrev pub party_value : List ℕ → Option (List ℕ)
party_value = word_value is_capital_or_digit 1 10

abbrev pub unit_value : List ℕ → Option (List ℕ)
unit_value = word_value is_unit_byte 1 16

abbrev pub reference_value : List ℕ → Option (List ℕ)
reference_value = word_value is_reference_byte 1 20

abbrev pub access_key_value : List ℕ → Option (List ℕ)
access_key_value = word_value is_letter_or_digit 8 64

-- the operator's key: op- and 8 to 61 letters or digits
unfoldable pub is_operator_key : List ℕ → Bool
is_operator_key text = bytes_eq (take 3 text) (codes "op-") && is_word is_letter_or_digit 8 61 (drop 3 text)

abbrev pub operator_key_value : List ℕ → Option (List ℕ)
operator_key_value text = if is_operator_key text then Some text else None

-- a byte of a word: the filling is zero
abbrev pub is_not_zero : ℕ → Bool
is_not_zero b = not (b == 0)

-- the word in a buffer: the bytes before the first zero
abbrev pub word_in : List ℕ → List ℕ
word_in buffer = take_while is_not_zero buffer

-- a word in a buffer of this length, filled up with zeros
abbrev pub padded : ℕ → List ℕ → List ℕ
padded most text = text ++ replicate (most - length text) 0
