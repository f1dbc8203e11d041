-- The schema of an office's database: seventeen tables, each with a unique index on its key. Version 1 had the first sixteen.
use Rattle.std.specs.Prelude.{ℕ, ◌+◌, true, false, List, [], ◌∷◌, ◌++◌, map, None, codes}
use Rattle.sqlite_value.specs.declared.value.Value.TheVariants.{Null}
use Rattle.sqlite_value.specs.declared.keys.Collation.TheVariants.{Binary}
use Rattle.sqlite_schema.specs.declared.schema.Column.{Column}
use Rattle.sqlite_schema.specs.declared.schema.Index.{Index}
use Rattle.sqlite_schema.specs.declared.schema.Kind.{Kind}
use Rattle.sqlite_schema.specs.declared.schema.Kind.TheVariants.{Integer, Text, Blob}
use Rattle.sqlite_schema.specs.declared.schema.Schema.{Schema}
use Rattle.sqlite_schema.specs.declared.schema.Table.{Table}

-- a column that is NOT NULL, of a STRICT table
abbrev pub present : List ℕ → Kind → Column
present name kind =
    record { name = name; kind = kind; is_strict = true; not_null = true; default = Null; collation = Binary }

-- a table of such columns, kept in this tree, whose key has the columns at these places
abbrev pub keyed : List ℕ → ℕ → List Column → List ℕ → Table
keyed name tree columns places = record {
  name = name;
  tree = tree;
  columns = columns;
  key = None;
  primary = places;
  uniques = places ∷ [];
  orders = record { digits = 0 } ∷ [];
  checks = [];
  references = [];
  computed = [];
  stamps = record { places = []; terms = []; formats = [] };
  is_counted = false;
}

-- the unique index on a table's key, which is kept in the tree after the table's
abbrev pub key_index : Table → Index
key_index table = record {
  name = codes "sqlite_autoindex_" ++ table.name ++ codes "_1";
  tree = table.tree + 1;
  table = table.tree;
  columns = table.primary;
  order = record { digits = 0 };
  is_unique = true;
}

-- ---- what is set up, registered and in force

abbrev pub settings_table : Table
settings_table = keyed (codes "settings") 0
    (present (codes "id") Integer ∷ present (codes "version") Integer ∷ present (codes "lead_minutes") Integer ∷
    present (codes "operator_key") Text ∷ [])
    (1 ∷ [])

abbrev pub parties_table : Table
parties_table = keyed (codes "parties") 2
    (present (codes "party") Text ∷ present (codes "day_from") Integer ∷ present (codes "day_to") Integer ∷
    present (codes "access_key") Text ∷ [])
    (1 ∷ [])

abbrev pub units_table : Table
units_table = keyed (codes "units") 4
    (present (codes "unit") Text ∷ present (codes "party") Text ∷ present (codes "side") Integer ∷
    present (codes "interconnector") Integer ∷ present (codes "day_from") Integer ∷
    present (codes "day_to") Integer ∷ [])
    (1 ∷ [])

abbrev pub meters_table : Table
meters_table = keyed (codes "meters") 6
    (present (codes "unit") Text ∷ present (codes "day") Integer ∷ present (codes "period") Integer ∷
    present (codes "metered") Integer ∷ present (codes "tlm") Integer ∷ present (codes "balancing") Integer ∷ [])
    (1 ∷ 2 ∷ 3 ∷ [])

abbrev pub prices_table : Table
prices_table = keyed (codes "prices") 8
    (present (codes "day") Integer ∷ present (codes "period") Integer ∷ present (codes "price") Integer ∷ [])
    (1 ∷ 2 ∷ [])

abbrev pub refs_table : Table
refs_table = keyed (codes "refs") 10
    (present (codes "reference") Text ∷ present (codes "seller") Text ∷ present (codes "seller_side") Integer ∷
    present (codes "buyer") Text ∷ present (codes "buyer_side") Integer ∷ [])
    (1 ∷ [])

abbrev pub contracts_table : Table
contracts_table = keyed (codes "contracts") 12
    (present (codes "reference") Text ∷ present (codes "day") Integer ∷ present (codes "period") Integer ∷
    present (codes "kwh") Integer ∷ [])
    (1 ∷ 2 ∷ 3 ∷ [])

abbrev pub reallocations_table : Table
reallocations_table = keyed (codes "reallocations") 14
    (present (codes "unit") Text ∷ present (codes "party") Text ∷ present (codes "side") Integer ∷
    present (codes "day") Integer ∷ present (codes "period") Integer ∷ present (codes "percent") Integer ∷
    present (codes "fixed") Integer ∷ [])
    (1 ∷ 2 ∷ 3 ∷ 4 ∷ 5 ∷ [])

-- ---- the accepted files, and the runs

abbrev pub files_table : Table
files_table = keyed (codes "files") 16
    (present (codes "kind") Text ∷ present (codes "name") Text ∷ present (codes "body") Blob ∷
    present (codes "applied") Integer ∷ present (codes "late") Integer ∷ [])
    (1 ∷ 2 ∷ [])

abbrev pub runs_table : Table
runs_table = keyed (codes "runs") 18
    (present (codes "day") Integer ∷ present (codes "kind") Integer ∷ present (codes "periods") Integer ∷
    present (codes "accounts") Integer ∷ present (codes "residual") Integer ∷ present (codes "postings") Integer ∷
    [])
    (1 ∷ 2 ∷ [])

abbrev pub results_table : Table
results_table = keyed (codes "results") 20
    (present (codes "day") Integer ∷ present (codes "kind") Integer ∷ present (codes "period") Integer ∷
    present (codes "party") Text ∷ present (codes "side") Integer ∷ present (codes "credited") Integer ∷
    present (codes "balancing") Integer ∷ present (codes "contracts") Integer ∷
    present (codes "imbalance") Integer ∷ present (codes "charge") Integer ∷ present (codes "share") Integer ∷ [])
    (1 ∷ 2 ∷ 3 ∷ 4 ∷ 5 ∷ [])

abbrev pub credits_table : Table
credits_table = keyed (codes "credits") 22
    (present (codes "day") Integer ∷ present (codes "kind") Integer ∷ present (codes "period") Integer ∷
    present (codes "unit") Text ∷ present (codes "party") Text ∷ present (codes "side") Integer ∷
    present (codes "credited") Integer ∷ [])
    (1 ∷ 2 ∷ 3 ∷ 4 ∷ 5 ∷ 6 ∷ [])

abbrev pub postings_table : Table
postings_table = keyed (codes "postings") 24
    (present (codes "day") Integer ∷ present (codes "kind") Integer ∷ present (codes "party") Text ∷
    present (codes "side") Integer ∷ present (codes "pence") Integer ∷ [])
    (1 ∷ 2 ∷ 3 ∷ 4 ∷ [])

-- ---- beside the content: positions of accounts, Settlement Periods that a change touched, and marks

abbrev pub positions_table : Table
positions_table = keyed (codes "positions") 26
    (present (codes "day") Integer ∷ present (codes "period") Integer ∷ present (codes "party") Text ∷
    present (codes "side") Integer ∷ present (codes "kwh") Integer ∷ present (codes "lost") Integer ∷ [])
    (1 ∷ 2 ∷ 3 ∷ 4 ∷ [])

abbrev pub touched_table : Table
touched_table = keyed (codes "touched") 28
    (present (codes "day") Integer ∷ present (codes "period") Integer ∷ [])
    (1 ∷ 2 ∷ [])

abbrev pub marks_table : Table
marks_table = keyed (codes "marks") 30
    (present (codes "id") Integer ∷ present (codes "positions") Integer ∷ [])
    (1 ∷ [])

-- ---- who led a unit on a date, since version 2

abbrev pub leads_table : Table
leads_table = keyed (codes "leads") 32
    (present (codes "unit") Text ∷ present (codes "day_from") Integer ∷ present (codes "party") Text ∷
    present (codes "side") Integer ∷ present (codes "day_to") Integer ∷ [])
    (1 ∷ 2 ∷ [])

-- ---- the schema

-- the tables of version 1, in the order in which they are made
abbrev pub tables_of_one : List Table
tables_of_one =
    settings_table ∷ parties_table ∷ units_table ∷ meters_table ∷ prices_table ∷ refs_table ∷ contracts_table ∷
    reallocations_table ∷ files_table ∷ runs_table ∷ results_table ∷ credits_table ∷ postings_table ∷
    positions_table ∷ touched_table ∷ marks_table ∷ []

-- the tables of an office, in the order in which they are made
abbrev pub office_tables : List Table
office_tables = tables_of_one ++ leads_table ∷ []

-- that of an empty database
abbrev pub nothing : Schema
nothing = record { tables = []; indexes = []; views = [] }

-- that of a database with these tables and their key indexes
abbrev pub schema_with : List Table → Schema
schema_with tables = record { tables = tables; indexes = map key_index tables; views = [] }

-- that of a database of version 1
abbrev pub office_of_one : Schema
office_of_one = schema_with tables_of_one

-- that of an office's database
abbrev pub office : Schema
office = schema_with office_tables
