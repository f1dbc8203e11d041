-- The fields of the lines of reports, and the lines that are made of them.
use Rattle.std.specs.Prelude.{ℕ, ◌-◌, ℤ, List, [], ◌∷◌, ◌++◌, length, replicate}
use Rattle.std.specs.Fmt.{signed_decimal}
use Rattle.std.specs.List.{join_with_byte}
use Rattle.hh_num.specs.Fixed.{fixed_text}
use Rattle.hh_calc.specs.declared.result.AccountRow.{AccountRow}

-- energy in MWh, with 10 decimals
unfoldable pub energy_text : ℤ → List ℕ
energy_text ticks = fixed_text 10 ticks

-- cash in pence
unfoldable pub pence_text : ℤ → List ℕ
pence_text pence = signed_decimal pence

-- a text, with so many blanks behind it that it fills a width
unfoldable pub flush_left : ℕ → List ℕ → List ℕ
flush_left width text = text ++ replicate (width - length text) 32

-- fields with a blank between each two
unfoldable pub spaced_line : List (List ℕ) → List ℕ
spaced_line fields = join_with_byte 32 fields ++ 10 ∷ []

-- fields with a comma between each two
unfoldable pub comma_line : List (List ℕ) → List ℕ
comma_line fields = join_with_byte 44 fields ++ 10 ∷ []

-- the energies of a row, in the order of the columns
abbrev pub energies_of : AccountRow → List ℤ
energies_of row = row.credited ∷ row.balancing ∷ row.contracts ∷ row.imbalance ∷ []

-- the cash of a row, in the order of the columns
abbrev pub cash_of : AccountRow → List ℤ
cash_of row = row.charge ∷ row.share ∷ []
