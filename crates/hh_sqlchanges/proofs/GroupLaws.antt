-- What rows of a file that are all of one kind make of the content, and rows behind others.
use Rattle.std.proofs.Common.{◌≡◌, ◌≤◌, ◌++◌, ◌∙◌, ℕ, ℤ, suc, List, [], ◌∷◌, Option, Some, None, Result, IfOk, Ok, Err, Bool, true, false, length, IsTrue, arith, refl, subst, sym, ap}
use Rattle.std.specs.List.{cons_option}
use Rattle.std.specs.Prelude.{filter_map}
use Rattle.hh_tables.specs.Tables.{put_all}
use Rattle.sqlite.specs.Effect.{Database}
use Rattle.hh_names.specs.declared.values.Reading.{Reading}
use Rattle.hh_rows.specs.Keys.{contract_key_cmp, unit_period_cmp}
use Rattle.hh_rows.specs.declared.keys.ContractKey.{ContractKey}
use Rattle.hh_rows.specs.declared.keys.UnitPeriod.{UnitPeriod}
use Rattle.hh_rows.specs.declared.rows.Row.{Row}
use Rattle.hh_rows.specs.declared.rows.Row.TheVariants as row
use Rattle.hh_rules.specs.Entries.{contract_entry, meter_entry}
use Rattle.hh_rules.specs.History.{Registered}
use Rattle.hh_states.specs.Changes.{put_row, put_rows}
use Rattle.hh_sqlrows.specs.Contents.{registered_of}
use Rattle.hh_sqlrows.specs.Forms.{PutsAll}
use Rattle.hh_sqlrows.specs.OfficeSchema.{office}
use Rattle.hh_sqlrows.specs.steps.Forms.{PutsAllOrLeavesIn}
use Rattle.hh_sqlrows.specs.Office.{IsOffice}
use Rattle.hh_sqlrows.specs.OfficeTables as forms
use Rattle.hh_sqlchanges.specs.steps.Becoming.{Becomes, BecomesOrLeaves}
use Rattle.hh_sqlchanges.specs.steps.FileRows.{with_file_rows}
use Rattle.hh_sqlchanges.proofs.StayLaws.{becomes_as, becomes_then, contracts_kept, leads_kept, meters_kept, parties_kept, prices_kept, reallocations_kept, references_kept, registered_becomes, units_kept}

-- ---- rows of one kind

one_more : {Y : Type 0} (o : Option Y) (ys : List Y) (n : ℕ) → length ys ≤ n → length (cons_option o ys) ≤ suc n
one_more None ys n few = omega (arith, few)
one_more (Some y) ys n few = omega (arith, few)

at_most : {X Y : Type 0} (f : X → Option Y) (xs : List X) → length (filter_map f xs) ≤ length xs
at_most f [] = omega arith
at_most f (x ∷ xs) = one_more (f x) (filter_map f xs) (length xs) (at_most f xs)

-- rows that are readings alone change these alone
meters_alone : (rs : List Row) (tables : Registered) → length (filter_map meter_entry rs) ≡ length rs → put_rows rs tables ≡ record tables { meters = put_all unit_period_cmp (filter_map meter_entry rs) tables.meters }
meters_alone [] tables all = refl
meters_alone (row.Party r ∷ rs) tables all = let few = at_most meter_entry rs in absurd (omega (arith, all, few))
meters_alone (row.Unit r ∷ rs) tables all = let few = at_most meter_entry rs in absurd (omega (arith, all, few))
meters_alone (row.Meter r ∷ rs) tables all = meters_alone rs (put_row (row.Meter r) tables) (omega (arith, all))
meters_alone (row.Price r ∷ rs) tables all = let few = at_most meter_entry rs in absurd (omega (arith, all, few))
meters_alone (row.Contract r ∷ rs) tables all = let few = at_most meter_entry rs in absurd (omega (arith, all, few))
meters_alone (row.Reallocation r ∷ rs) tables all = let few = at_most meter_entry rs in absurd (omega (arith, all, few))

-- rows that are contracts alone change these alone
contracts_alone : (rs : List Row) (tables : Registered) → length (filter_map contract_entry rs) ≡ length rs → put_rows rs tables ≡ record tables { contracts = put_all contract_key_cmp (filter_map contract_entry rs) tables.contracts }
contracts_alone [] tables all = refl
contracts_alone (row.Party r ∷ rs) tables all = let few = at_most contract_entry rs in absurd (omega (arith, all, few))
contracts_alone (row.Unit r ∷ rs) tables all = let few = at_most contract_entry rs in absurd (omega (arith, all, few))
contracts_alone (row.Meter r ∷ rs) tables all = let few = at_most contract_entry rs in absurd (omega (arith, all, few))
contracts_alone (row.Price r ∷ rs) tables all = let few = at_most contract_entry rs in absurd (omega (arith, all, few))
contracts_alone (row.Contract r ∷ rs) tables all = contracts_alone rs (put_row (row.Contract r) tables) (omega (arith, all))
contracts_alone (row.Reallocation r ∷ rs) tables all = let few = at_most contract_entry rs in absurd (omega (arith, all, few))

module _ (old new : Database) where
  pub readings_put : (rs : List Row) → length (filter_map meter_entry rs) ≡ length rs → PutsAll forms.meters (filter_map meter_entry rs) old new → Becomes (with_file_rows rs) old new
  readings_put rs all puts = registered_becomes 6 old new puts.is_office puts.others (put_rows rs) (omega arith) (omega arith) (by_table puts ∙ sym (meters_alone rs (registered_of old.trees) all))
    where
      by_table : (puts : PutsAll forms.meters (filter_map meter_entry rs) old new) → registered_of new.trees ≡ record (registered_of old.trees) { meters = put_all unit_period_cmp (filter_map meter_entry rs) (registered_of old.trees).meters }
      by_table puts = λ i. record {
        parties = parties_kept 6 old.trees new.trees puts.others (λ e. omega (arith, e)) i;
        units = units_kept 6 old.trees new.trees puts.others (λ e. omega (arith, e)) i;
        leads = leads_kept 6 old.trees new.trees puts.others (λ e. omega (arith, e)) i;
        meters = puts.rows i;
        prices = prices_kept 6 old.trees new.trees puts.others (λ e. omega (arith, e)) i;
        references = references_kept 6 old.trees new.trees puts.others (λ e. omega (arith, e)) i;
        contracts = contracts_kept 6 old.trees new.trees puts.others (λ e. omega (arith, e)) i;
        reallocations = reallocations_kept 6 old.trees new.trees puts.others (λ e. omega (arith, e)) i;
      }

  pub volumes_put : (rs : List Row) → length (filter_map contract_entry rs) ≡ length rs → PutsAll forms.contracts (filter_map contract_entry rs) old new → Becomes (with_file_rows rs) old new
  volumes_put rs all puts = registered_becomes 12 old new puts.is_office puts.others (put_rows rs) (omega arith) (omega arith) (by_table puts ∙ sym (contracts_alone rs (registered_of old.trees) all))
    where
      by_table : (puts : PutsAll forms.contracts (filter_map contract_entry rs) old new) → registered_of new.trees ≡ record (registered_of old.trees) { contracts = put_all contract_key_cmp (filter_map contract_entry rs) (registered_of old.trees).contracts }
      by_table puts = λ i. record {
        parties = parties_kept 12 old.trees new.trees puts.others (λ e. omega (arith, e)) i;
        units = units_kept 12 old.trees new.trees puts.others (λ e. omega (arith, e)) i;
        leads = leads_kept 12 old.trees new.trees puts.others (λ e. omega (arith, e)) i;
        meters = meters_kept 12 old.trees new.trees puts.others (λ e. omega (arith, e)) i;
        prices = prices_kept 12 old.trees new.trees puts.others (λ e. omega (arith, e)) i;
        references = references_kept 12 old.trees new.trees puts.others (λ e. omega (arith, e)) i;
        contracts = puts.rows i;
        reallocations = reallocations_kept 12 old.trees new.trees puts.others (λ e. omega (arith, e)) i;
      }

  -- a group, or nothing
  pub readings_put_or_not : {E : Type 0} (rs : List Row) (entries : List (UnitPeriod × Reading)) → entries ≡ filter_map meter_entry rs → (r : Result Bool E) → IfOk r (λ written. IsTrue written → length entries ≡ length rs)
      → IfOk r (PutsAllOrLeavesIn office forms.meters entries old new) → IfOk r (BecomesOrLeaves (with_file_rows rs) old new)
  readings_put_or_not rs entries are (Ok true) all puts =
      readings_put rs (subst (λ (es : List (UnitPeriod × Reading)). length es ≡ length rs) are (all refl)) (subst (λ (es : List (UnitPeriod × Reading)). PutsAll forms.meters es old new) are puts)
  readings_put_or_not rs entries are (Ok false) all same = same
  readings_put_or_not rs entries are (Err e) all puts = tt

  pub volumes_put_or_not : {E : Type 0} (rs : List Row) (entries : List (ContractKey × ℤ)) → entries ≡ filter_map contract_entry rs → (r : Result Bool E) → IfOk r (λ written. IsTrue written → length entries ≡ length rs)
      → IfOk r (PutsAllOrLeavesIn office forms.contracts entries old new) → IfOk r (BecomesOrLeaves (with_file_rows rs) old new)
  volumes_put_or_not rs entries are (Ok true) all puts =
      volumes_put rs (subst (λ (es : List (ContractKey × ℤ)). length es ≡ length rs) are (all refl)) (subst (λ (es : List (ContractKey × ℤ)). PutsAll forms.contracts es old new) are puts)
  volumes_put_or_not rs entries are (Ok false) all same = same
  volumes_put_or_not rs entries are (Err e) all puts = tt

-- ---- rows behind others

rows_behind : (rs more : List Row) (tables : Registered) → put_rows more (put_rows rs tables) ≡ put_rows (rs ++ more) tables
rows_behind [] more tables = refl
rows_behind (x ∷ rs) more tables = rows_behind rs more (put_row x tables)

pub rows_then : (rs more : List Row) (old mid new : Database) → Becomes (with_file_rows rs) old mid → Becomes (with_file_rows more) mid new → Becomes (with_file_rows (rs ++ more)) old new
rows_then rs more old mid new first second =
    becomes_as (λ c. with_file_rows more (with_file_rows rs c)) (with_file_rows (rs ++ more)) old new (λ c. ap (λ (tables : Registered). record c { registered = tables }) (rows_behind rs more c.registered))
    (becomes_then (with_file_rows rs) (with_file_rows more) old mid new first second)

-- no rows
pub rows_none : (db : Database) → IsOffice db → Becomes (with_file_rows []) db db
rows_none db is = record { stays = record { is_office = is; settings = refl; mark = refl }; content = λ kept. refl; beside = refl }
