-- Words without any of the options that are removed.
use Rattle.std.specs.Prelude.{◌||◌, Bool, List, drop, eqb, not}
use Rattle.std.specs.List.{list_all, starts_with}
use Rattle.std.specs.Str.{bytes_eq}
use Rattle.clap.specs.Words.{Text}
use Rattle.hh_words.specs.KeyFiles.{KeyOption, operator_key, shown_key}
use Rattle.hh_words.specs.Options.{is_explain, is_strict}

-- `--key-file` and `--key-file=PATH`, or the same for the operator's key
abbrev pub is_file_option : KeyOption → Text → Bool
is_file_option option word = bytes_eq word option.file || starts_with eqb word option.path

abbrev pub is_key_option : Text → Bool
is_key_option word = is_file_option shown_key word || is_file_option operator_key word

-- a word that is one of the options
abbrev pub is_option : Text → Bool
is_option word = is_explain word || (is_strict word || is_key_option word)

-- none of the words after the program's own name is one of the options
abbrev pub has_no_option : List Text → Bool
has_no_option words = list_all (λ word. not (is_option word)) (drop 1 words)
