-- Kinds of file, and the words that name them.
use Rattle.std.specs.Prelude.{ℕ, List, [], ◌∷◌, Option, codes, bytes_eq}
use Rattle.std.specs.List.{find}
use Rattle.hh_rows.specs.declared.file_kind.FileKind.{FileKind}
use Rattle.hh_rows.specs.declared.file_kind.FileKind.TheVariants.{Parties, Units, Meters, Prices, Contracts, Reallocations}

abbrev pub all_kinds : List FileKind
all_kinds = Parties ∷ Units ∷ Meters ∷ Prices ∷ Contracts ∷ Reallocations ∷ []

-- the word that names a kind
abbrev pub kind_word : FileKind → List ℕ
kind_word Parties = codes "parties"
kind_word Units = codes "units"
kind_word Meters = codes "meters"
kind_word Prices = codes "prices"
kind_word Contracts = codes "contracts"
kind_word Reallocations = codes "reallocations"

-- the kind that a word names
unfoldable pub kind_value : List ℕ → Option FileKind
kind_value word = find (λ kind. bytes_eq word (kind_word kind)) all_kinds
