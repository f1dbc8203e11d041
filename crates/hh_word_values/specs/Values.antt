-- What words of a command mean: moments, keys, paths and the names of files at paths.
use Rattle.std.specs.Prelude.{ℕ, ℤ, ◌==◌, List, Option, Some, None, if◌then◌else◌}
use Rattle.std.specs.List.{after_last}
use Rattle.std.specs.Str.{is_utf8}
use Rattle.hh_num.specs.Fixed.{fixed_value, fits_i64, kept_if}
use Rattle.hh_names.specs.Words.{access_key_value, is_file_name_byte, operator_key_value, word_value}

-- a moment: a whole number of seconds
abbrev pub moment_value : List ℕ → Option ℤ
moment_value word = kept_if fits_i64 (fixed_value 0 word)

-- the first of two values that is there
abbrev pub either : {A : Type 0} → Option A → Option A → Option A
either (Some x) other = Some x
either None other = other

-- a key that is shown: the operator's or a party's
unfoldable pub shown_key_value : List ℕ → Option (List ℕ)
shown_key_value word = either (operator_key_value word) (access_key_value word)

-- the path that a word is
abbrev pub path_value : List ℕ → Option (List ℕ)
path_value word = if is_utf8 word then Some word else None

-- the name of the file at a path: what follows the last `/`
unfoldable pub path_name : List ℕ → Option (List ℕ)
path_name path = word_value is_file_name_byte 1 64 (after_last (λ b. b == 47) path)
