-- The options `--explain` and `--strict`, which are removed before `clap` reads the words. From a word `--` on neither counts.
use Rattle.std.specs.Prelude.{◌&&◌, ◌||◌, Bool, true, false, not, List, [], ◌∷◌, codes, drop, find, if◌then◌else◌}
use Rattle.std.specs.Option.{option_map_or}
use Rattle.std.specs.Str.{bytes_eq}
use Rattle.clap.specs.Words.{Text}

abbrev pub is_end : Text → Bool
is_end word = bytes_eq word (codes "--")

abbrev pub is_explain : Text → Bool
is_explain word = bytes_eq word (codes "--explain")

abbrev pub is_strict : Text → Bool
is_strict word = bytes_eq word (codes "--strict")

-- whether words include an option before a word `--`
abbrev pub has_option : (Text → Bool) → List Text → Bool
has_option is_option [] = false
has_option is_option (word ∷ words) =
    if is_end word then false else if is_option word then true else has_option is_option words

-- the words without an option that comes before a word `--`
abbrev pub without : (Text → Bool) → List Text → List Text
without is_option [] = []
without is_option (word ∷ words) =
    if is_end word then word ∷ words else if is_option word then without is_option words else word ∷ without is_option words

-- whether the command is `script`: the first word after the program's own name that is not `--explain`
abbrev pub is_script : List Text → Bool
is_script words = option_map_or (λ word. bytes_eq word (codes "script")) (find (λ word. not (is_explain word)) words) false

-- whether refusals are to be explained; any command may ask for that
abbrev pub asks_explain : List Text → Bool
asks_explain words = has_option is_explain (drop 1 words)

-- whether a script is to stop at the first line that is refused or fails; only `script` may ask for that
abbrev pub asks_strict : List Text → Bool
asks_strict words = is_script (drop 1 words) && has_option is_strict (drop 1 words)

-- a word that is removed, from a script or from another command
abbrev pub is_taken : Bool → Text → Bool
is_taken script word = is_explain word || (script && is_strict word)

-- the words that are kept, after the program's own name
abbrev pub words_left : List Text → List Text
words_left [] = []
words_left (name ∷ words) = name ∷ without (is_taken (is_script words)) words
