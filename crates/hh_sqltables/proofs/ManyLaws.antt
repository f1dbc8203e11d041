-- What writing rows one after the other makes of a database.
use Rattle.std.proofs.Common.{◌≡◌, ◌≢◌, ◌∙◌, ◌++◌, ◌+◌, ◌<◌, ℕ, suc, List, [], ◌∷◌, Ordering, arith, get_or, length, map, refl, sym, ap, take}
use Rattle.sqlite_schema.specs.declared.schema.Schema.{Schema}
use Rattle.std.proofs.Math.Seq.{take-suc}
use Rattle.std.specs.FinMap.{put}
use Rattle.std.specs.List.{AllByRecursion}
use Rattle.sqlite_schema.specs.declared.schema.Table.{Table}
use Rattle.sqlite_trees.specs.Tree.{Trees}
use Rattle.sqlite.specs.Effect.{Database}
use Rattle.hh_tables.specs.Tables as tables
use Rattle.hh_sqltables.specs.Forms.{IsOfficeOf, PutsAllIn, PutsIn, TableForm, rows_under_keys}

all_kept : (ts : List Table) (tree : ℕ) (db : Trees) → AllByRecursion (λ t. t.tree ≢ tree → db t.tree ≡ db t.tree) ts
all_kept [] tree db = tt
all_kept (t ∷ ts) tree db = ((λ apart. refl), all_kept ts tree db)

pub kept_again : (ts : List Table) (tree : ℕ) (old mid new : Trees) → AllByRecursion (λ t. t.tree ≢ tree → mid t.tree ≡ old t.tree) ts → AllByRecursion (λ t. t.tree ≢ tree → new t.tree ≡ mid t.tree) ts
    → AllByRecursion (λ t. t.tree ≢ tree → new t.tree ≡ old t.tree) ts
kept_again [] tree old mid new first second = tt
kept_again (t ∷ ts) tree old mid new first second = ((λ apart. second.0 apart ∙ first.0 apart), kept_again ts tree old mid new first.1 second.1)

put_more : {K V : Type 0} (R : K → K → Ordering) (es more : List (K × V)) (table : tables.Table K V) → tables.put_all R (es ++ more) table ≡ tables.put_all R more (tables.put_all R es table)
put_more R [] more table = refl
put_more R (x ∷ es) more table = put_more R es more (put R x.0 x.1 table)

module _ (schema : Schema) {K V : Type 0} (form : TableForm K V) where
  pub puts_none : (db : Database) → IsOfficeOf schema db → PutsAllIn schema form [] db db
  puts_none db is = record { is_office = is; rows = refl; others = all_kept schema.tables form.table.tree db.trees }

  -- rows, and then more rows
  pub puts_then : (es more : List (K × V)) (old mid new : Database) → PutsAllIn schema form es old mid → PutsAllIn schema form more mid new → PutsAllIn schema form (es ++ more) old new
  puts_then es more old mid new first second = record {
    is_office = second.is_office;
    rows = second.rows ∙ ap (tables.put_all form.order more) first.rows ∙ sym (put_more form.order es more (rows_under_keys form old.trees));
    others = kept_again schema.tables form.table.tree old.trees mid.trees new.trees first.others second.others;
  }

  pub puts_more : (es : List (K × V)) (e : K × V) (old mid new : Database) → PutsAllIn schema form es old mid → PutsIn schema form e.0 e.1 mid new → PutsAllIn schema form (es ++ e ∷ []) old new
  puts_more es e old mid new all one = puts_then es (e ∷ []) old mid new all (record { is_office = one.is_office; rows = one.rows; others = one.others })

-- the first `i + 1` items of a list
pub take_next : {X : Type 0} (xs : List X) (i : ℕ) (x : X) → i < length xs → x ≡ get_or xs i x → take (i + 1) xs ≡ take i xs ++ x ∷ []
take_next xs i x low is = ap (λ n. take n xs) (let e : i + 1 ≡ suc i = omega arith in e) ∙ take-suc xs i x low ∙ ap (λ y. take i xs ++ y ∷ []) (sym is)

pub map_last : {X Y : Type 0} (f : X → Y) (xs : List X) (x : X) → map f (xs ++ x ∷ []) ≡ map f xs ++ f x ∷ []
map_last f [] x = refl
map_last f (y ∷ xs) x = ap (λ ys. f y ∷ ys) (map_last f xs x)
