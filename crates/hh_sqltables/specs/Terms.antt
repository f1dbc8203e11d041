-- The terms of the statements on a table, for a table of any form.
use Rattle.std.specs.Prelude.{ℕ, zero, suc, ◌+◌, pos, negsuc, false, List, [], ◌∷◌, ◌++◌, map, None, Some}
use Rattle.sqlite_value.specs.declared.value.Value.TheVariants.{Int, Null}
use Rattle.sqlite_value.specs.declared.keys.Collation.TheVariants.{Binary}
use Rattle.sqlite_value.specs.Keys.{ascending}
use Rattle.sqlite_sql.specs.Term.{Term, lit, col, op2}
use Rattle.sqlite_sql.specs.Query.{Query, inner, end}
use Rattle.sqlite_sql.specs.declared.ops.BinaryOp.TheVariants.{Compare}
use Rattle.sqlite_sql.specs.declared.ops.CompareOp.TheVariants.{Eq}
use Rattle.sqlite_schema.specs.declared.program.Program.{Program}
use Rattle.sqlite_schema.specs.declared.command.Upsert.{Upsert}
use Rattle.hh_keyed_rows.specs.Codecs.{places_from}
use Rattle.hh_sqltables.specs.Forms.{TableForm}

-- ---- rows that are written

-- `count` parameters, from number `from` on
abbrev pub parameters : ℕ → ℕ → List Term
parameters from zero = []
parameters from (suc count) = col 0 from ∷ parameters (suc from) count

-- the terms of several rows of a width: for each a rowid that is chosen, and as many parameters as the row is wide
abbrev pub group_terms : ℕ → ℕ → ℕ → List Term
group_terms width from zero = []
group_terms width from (suc count) = (lit Null ∷ parameters from width) ++ group_terms width (from + width) count

-- the terms of the values of a row: a rowid that is chosen, and the first `count` parameters
abbrev pub row_terms : ℕ → List Term
row_terms count = lit Null ∷ parameters 0 count

-- ---- rows that are selected

-- the columns at these places are the parameters from number `from` on
abbrev pub where_terms : List ℕ → ℕ → List Term
where_terms [] from = []
where_terms (at ∷ places) from = op2 (Compare Eq Binary) (col 1 at) (col 0 from) ∷ where_terms places (suc from)

-- all columns of the rows that have the parameters at `places`, in the order of the columns at `order`
abbrev pub select_by : {K V : Type 0} → TableForm K V → List ℕ → List ℕ → Query
select_by form places order = record {
  from = inner form.table.tree end;
  filter = where_terms places 0;
  group = None;
  project = map (λ at. col 1 at) (places_from 1 (form.key.width + form.value.width));
  distinct = false;
  collations = [];
  order = map (λ at. (col 1 at, ascending Binary)) order;
  limit = lit (Int (negsuc 0));
  offset = lit (Int (pos 0));
}

-- ---- rows that are removed

-- the rowids of the rows that have the parameters at these places
abbrev pub delete_by : {K V : Type 0} → TableForm K V → List ℕ → Query
delete_by form places = record {
  from = inner form.table.tree end;
  filter = where_terms places 0;
  group = None;
  project = col 1 0 ∷ [];
  distinct = false;
  collations = [];
  order = [];
  limit = lit (Int (negsuc 0));
  offset = lit (Int (pos 0));
}

abbrev pub delete_program : {K V : Type 0} → TableForm K V → List ℕ → Program
delete_program form places = record { lets = []; body = delete_by form places }

-- ---- a row that is changed if its key is there already

-- For the row whose rowid is the parameter after the others: that rowid, and the new row. The new row has the rowid and the columns of the
-- key as they are, and the parameters as the columns of the value.
abbrev pub update_by : {K V : Type 0} → TableForm K V → Query
update_by form = record {
  from = inner form.table.tree end;
  filter = op2 (Compare Eq Binary) (col 1 0) (col 0 (form.key.width + form.value.width)) ∷ [];
  group = None;
  project = col 1 0 ∷ col 1 0 ∷ (map (λ at. col 1 at) (places_from 1 form.key.width) ++ map (λ at. col 0 at) (places_from form.key.width form.value.width));
  distinct = false;
  collations = [];
  order = [];
  limit = lit (Int (negsuc 0));
  offset = lit (Int (pos 0));
}

abbrev pub update_program : {K V : Type 0} → TableForm K V → Program
update_program form = record { lets = []; body = update_by form }

-- ON CONFLICT of the key DO UPDATE
abbrev pub update_clause : {K V : Type 0} → TableForm K V → Upsert
update_clause form = record { target = Some (places_from 1 form.key.width); update = Some (update_program form) }
