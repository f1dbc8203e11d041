-- Steps that rows make in the tables of units and of registrations, and successions: none if no row is one of units.
use Rattle.std.proofs.Common.{◌≡◌, ◌∙◌, List, [], ◌∷◌, Bool, true, false, refl, ap, sym, arith, length}
use Rattle.std.specs.Prelude.{◌==◌, filter}
use Rattle.std.specs.List.{list_any}
use Rattle.std.proofs.lemmas.Bool.Decides.{nat_tests}
use Rattle.hh_tables.specs.Tables.{put_all}
use Rattle.hh_tables.proofs.BehindLaws.{put_into_none}
use Rattle.hh_tables.proofs.MergeLaws.{true_from}
use Rattle.hh_rows.specs.DateRanges.{Range}
use Rattle.hh_rows.specs.Keys.{lead_key_cmp}
use Rattle.hh_rows.specs.declared.rows.Row.{Row}
use Rattle.hh_rows.specs.declared.rows.Row.TheVariants as row
use Rattle.hh_rows.proofs.KeyLaws.{lead_key_total}
use Rattle.hh_registrations.specs.Registrations.{Leads, RegistrationsView, succession_ranges}
use Rattle.hh_registrations.specs.UnitSteps.{steps_of_rows}
use Rattle.hh_runs.specs.declared.run_key.RunKey.{RunKey}
use Rattle.hh_runs.specs.declared.summary.Summary.{Summary}
use Rattle.hh_kept_rows.specs.Keeping.{is_held}
use Rattle.sqlite_trees.specs.Tree.{Trees}
use Rattle.hh_sqlrows.specs.Forms.{rows_under_keys}
use Rattle.hh_sqlrows.specs.OfficeTables as tables
use Rattle.hh_sqlparts.proofs.NamedForms.{rows_rise}
use Rattle.hh_sqlparts.specs.steps.UnitRows.{is_unit_row}

pub no_steps : (rows : List Row) → list_any is_unit_row rows ≡ false → (registered : RegistrationsView) → steps_of_rows rows registered ≡ []
no_steps [] none registered = refl
no_steps (row.Unit r ∷ rows) none registered = absurd (let e : ◌≡◌ {A = Bool} true false = none in cc)
no_steps (row.Party r ∷ rows) none registered = no_steps rows none registered
no_steps (row.Meter r ∷ rows) none registered = no_steps rows none registered
no_steps (row.Price r ∷ rows) none registered = no_steps rows none registered
no_steps (row.Contract r ∷ rows) none registered = no_steps rows none registered
no_steps (row.Reallocation r ∷ rows) none registered = no_steps rows none registered

pub no_successions : (rows : List Row) → list_any is_unit_row rows ≡ false → (leads : Leads) → succession_ranges rows leads ≡ []
no_successions [] none leads = refl
no_successions (row.Unit r ∷ rows) none leads = absurd (let e : ◌≡◌ {A = Bool} true false = none in cc)
no_successions (row.Party r ∷ rows) none leads = no_successions rows none leads
no_successions (row.Meter r ∷ rows) none leads = no_successions rows none leads
no_successions (row.Price r ∷ rows) none leads = no_successions rows none leads
no_successions (row.Contract r ∷ rows) none leads = no_successions rows none leads
no_successions (row.Reallocation r ∷ rows) none leads = no_successions rows none leads

-- no ranges hold the date of a run
none_held : (runs : List (RunKey × Summary)) → filter (λ e. is_held [] e.0.date) runs ≡ []
none_held [] = refl
none_held (e ∷ runs) = none_held runs

pub none_without_ranges : (ranges : List Range) (b : Bool) → b ≡ (length ranges == 0) → b ≡ true → (runs : List (RunKey × Summary))
    → filter (λ e. is_held ranges e.0.date) runs ≡ []
none_without_ranges [] b is empty runs = none_held runs
none_without_ranges (range ∷ ranges) b is empty runs =
    let none : length (range ∷ ranges) ≡ 0 = grind (arith, nat_tests) in
    absurd (omega arith)

-- the rows of the table of registrations are a table already
pub leads_again : (trees : Trees) → put_all lead_key_cmp (rows_under_keys tables.leads trees) [] ≡ rows_under_keys tables.leads trees
leads_again trees = sym (put_into_none lead_key_total (rows_under_keys tables.leads trees) [] [] 0 refl refl refl (true_from _ (rows_rise tables.leads lead_key_total trees)))
