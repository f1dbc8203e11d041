-- The options that name a file with a key. They are replaced before `clap` reads the words. From a word `--` on none of them counts.
use Rattle.std.specs.Prelude.{◌++◌, ◌==◌, ◌-◌, ◌||◌, ◌&&◌, Bool, not, List, [], ◌∷◌, Option, Some, None, codes, drop, is_some, length, take, if◌then◌else◌, option_and_then}
use Rattle.std.specs.List.{before_first, ends_with, starts_with}
use Rattle.std.specs.Option.{option_or}
use Rattle.std.specs.Prelude.{eqb}
use Rattle.std.specs.Str.{bytes_eq, is_utf8}
use Rattle.clap.specs.Words.{Text}
use Rattle.hh_words.specs.Options.{is_end}

-- the option by which a command is given a key: the text before the key (`--key=`), the option that names a file with the key
-- (`--key-file`), and the text before the file's path (`--key-file=`)
pub record KeyOption : Type 0 where
  pub key : Text
  pub file : Text
  pub path : Text

-- the key that is shown
abbrev pub shown_key : KeyOption
shown_key = record { key = codes "--key="; file = codes "--key-file"; path = codes "--key-file=" }

-- the key of the operator of a new office
abbrev pub operator_key : KeyOption
operator_key = record { key = codes "--operator-key="; file = codes "--operator-key-file"; path = codes "--operator-key-file=" }

abbrev pub key_option : Text → Option KeyOption
key_option command =
    if bytes_eq command (codes "load") || bytes_eq command (codes "run") || bytes_eq command (codes "report") then Some shown_key
    else if bytes_eq command (codes "init") || bytes_eq command (codes "script") then Some operator_key
    else None

-- the rest of a word after a text, if it begins with that
abbrev pub behind : Text → Text → Option Text
behind front word = if starts_with eqb word front then Some (drop (length front) word) else None

-- two words name a file; as in `clap`, the path does not begin with `-`, unless it is only that
abbrev pub names_file : KeyOption → Text → Text → Bool
names_file option word next = bytes_eq word option.file && (bytes_eq next (codes "-") || not (starts_with eqb next (codes "-")))

-- the path that a word names, by itself or together with the word after it
abbrev pub path_at : KeyOption → Text → List Text → Option Text
path_at option word [] = behind option.path word
path_at option word (next ∷ words) = if names_file option word next then Some next else behind option.path word

-- the path of the first file that words name, before a word `--`
abbrev pub path_named : KeyOption → List Text → Option Text
path_named option [] = None
path_named option (word ∷ words) = if is_end word then None else option_or (path_at option word words) (path_named option words)

-- the same, by the option of the command after the program's own name
abbrev pub file_with_key : List Text → Option Text
file_with_key (name ∷ command ∷ words) = option_and_then (λ option. path_named option words) (key_option command)
file_with_key _ = None

-- a word, or the key if the word names a file by itself
abbrev pub word_with : KeyOption → Text → Text → Text
word_with option key word = if is_some (behind option.path word) then option.key ++ key else word

-- the words, with the key in the place of each file that is named before a word `--`
abbrev pub words_with : KeyOption → Text → List Text → List Text
words_with option key [] = []
words_with option key (word ∷ []) = word_with option key word ∷ []
words_with option key (word ∷ next ∷ words) =
    if is_end word then word ∷ next ∷ words
    else if names_file option word next then (option.key ++ key) ∷ words_with option key words
    else word_with option key word ∷ words_with option key (next ∷ words)

abbrev pub words_by : Option KeyOption → Text → List Text → List Text
words_by None key words = words
words_by (Some option) key words = words_with option key words

-- the same, by the option of the command after the program's own name
abbrev pub with_key : Text → List Text → List Text
with_key key (name ∷ command ∷ words) = name ∷ command ∷ words_by (key_option command) key words
with_key key words = words

-- the first line of a file, without the LF or CRLF after it
abbrev pub first_line : Text → Text
first_line bytes = let line = before_first (λ b. b == 10) bytes in if ends_with eqb line (13 ∷ []) then take (length line - 1) line else line

-- the text of these bytes, or an empty text if they are not text (UTF-8)
abbrev pub text_or_nothing : Text → Text
text_or_nothing bytes = if is_utf8 bytes then bytes else []

-- the key in a file: the first line, if that is text
abbrev pub key_written : Text → Text
key_written bytes = text_or_nothing (first_line bytes)
