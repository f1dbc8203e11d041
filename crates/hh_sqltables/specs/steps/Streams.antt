-- The rows of a query that are read one after the other, and what was read so far.
use Rattle.std.specs.Prelude.{◌≡◌, ◌⊎◌, ℕ, List, [], ◌∷◌, ◌++◌, map, Option, Some, None, Result, Ok, Err, IsTrue}
use Rattle.sqlite_trees.specs.declared.store.Store.{Ghosts}
use Rattle.sqlite_value.specs.Order.{Row}
use Rattle.sqlite.specs.Given.{HasGiven}
use Rattle.sqlite.specs.Held.{Held, state}
use Rattle.sqlite.specs.State.{Begins, HasCleanDisk, IsRolledBack, IsUnchanged, State}
use Rattle.hh_keyed_rows.specs.Codecs.{Codec}
use Rattle.hh_keyed_rows.specs.KeyedRows.{entry_in}
use Rattle.hh_sqltables.specs.steps.Answers.{IsPlainOf, IsRead}

-- `P` holds for a plain statement whose connection is open afterwards
abbrev pub OfPlain : State → State → List ℕ → Type 0 → Type 0
OfPlain old new sql P = IsTrue new.is_open → IsPlainOf old sql → P

-- the query's answer begins with rows that are read as these keys and values, or there are no rows yet
abbrev pub IsBegun : {K V : Type 0} → Codec K → Codec V → List ℕ → Row → State → List (K × V) → Type 0
IsBegun key value sql params now taken =
    (taken ≡ []) ⊎ ((rows : List Row) × Begins sql params now rows × (map (entry_in key value) rows ≡ map Some taken))

module _ {S : Type 0} (g : Ghosts S) {K V : Type 0} (key : Codec K) (value : Codec V) (sql : List ℕ) (params : Row) (start : Held S) where
  -- the connection is as it was at the start, it answers the query, and it has given rows that are read as these keys and values
  abbrev pub HasTaken : Held S → List (K × V) → Type 0
  HasTaken now taken =
      IsPlainOf (state g start) sql → HasCleanDisk (state g now)
      → (rows : List Row) × HasGiven g sql params now rows × (map (entry_in key value) rows ≡ map Some taken) × IsUnchanged (state g start) (state g now)

  -- one more row is read, or those so far are all, or they are some of them
  abbrev pub TakesNext : Held S → List (K × V) → {E : Type 0} → Result (Option (K × V)) E → Type 0
  TakesNext now taken (Ok (Some entry)) = HasTaken now (taken ++ entry ∷ [])
  TakesNext now taken (Ok None) =
      IsPlainOf (state g start) sql → HasCleanDisk (state g now)
      → IsRead key value sql params (state g start) (state g now) taken × IsUnchanged (state g start) (state g now)
  TakesNext now taken (Err fault) =
      IsPlainOf (state g start) sql → HasCleanDisk (state g now)
      → IsBegun key value sql params (state g start) taken × (IsUnchanged (state g start) (state g now) ⊎ IsRolledBack (state g start) (state g now))
