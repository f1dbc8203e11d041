-- The office's table that the rows of a database table represent.
use Rattle.std.specs.Prelude.{◌++◌, List, [], ◌∷◌, filter_map, Option, Some, None, option_and_then}
use Rattle.std.specs.declared.cmp.Ordering.{Ordering}
use Rattle.hh_tables.specs.Tables.{Table, in_key_order}
use Rattle.sqlite_value.specs.Order.{Row}
use Rattle.hh_keyed_rows.specs.Codecs.{Codec, both}

-- what was read, if no column is left
abbrev pub whole : {A : Type 0} → A → Row → Option A
whole a [] = Some a
whole a (v ∷ rest) = None

-- The key and the value that columns are read as. The columns of the key come first. It is None if they are off their form or range.
abbrev pub entry_in : {K V : Type 0} → Codec K → Codec V → Row → Option (K × V)
entry_in key value columns = option_and_then (λ x. whole x.0 x.1) ((both key value).read columns)

-- the columns of a key and its value
abbrev pub columns_of : {K V : Type 0} → Codec K → Codec V → K × V → Row
columns_of key value e = key.write e.0 ++ value.write e.1

-- the key and the value of a row of a tree, which begins with its rowid
abbrev pub stored_entry : {K V : Type 0} → Codec K → Codec V → Row → Option (K × V)
stored_entry key value [] = None
stored_entry key value (id ∷ columns) = entry_in key value columns

-- the table that rows represent, in the order of the keys; rows that don't read as an entry are left out
abbrev pub table_in : {K V : Type 0} → (K → K → Ordering) → (Row → Option (K × V)) → List Row → Table K V
table_in R entry rows = in_key_order R (filter_map entry rows)
