-- What steps in the tables of units and of registrations make of the content.
use Rattle.std.proofs.Common.{◌≡◌, ◌++◌, ◌∙◌, List, [], ◌∷◌, refl, sym, ap, arith, ℕ}
use Rattle.std.specs.FinMap.{put}
use Rattle.std.specs.Ordering.{eq_by_cmp}
use Rattle.sqlite.specs.Effect.{Database}
use Rattle.hh_tables.specs.Tables.{without}
use Rattle.hh_names.specs.Accounts.{bytes_cmp}
use Rattle.hh_rows.specs.Keys.{lead_key_cmp}
use Rattle.hh_rows.specs.declared.keys.LeadKey.{LeadKey}
use Rattle.hh_rows.specs.declared.rows.LeadTerm.{LeadTerm}
use Rattle.hh_rows.specs.declared.rows.Row.{Row}
use Rattle.hh_rows.specs.declared.rows.Row.TheVariants as row
use Rattle.hh_rows.specs.declared.rows.UnitRegistration.{UnitRegistration}
use Rattle.hh_registrations.specs.declared.changes.FormerLead.TheVariants as former
use Rattle.hh_registrations.specs.declared.unit_steps.UnitStep.{UnitStep}
use Rattle.hh_registrations.specs.declared.unit_steps.UnitStep.TheVariants as step
use Rattle.hh_registrations.specs.Registrations.{RegistrationsView, beside_former, registrations_with, unit_change}
use Rattle.hh_registrations.specs.UnitSteps.{former_steps, registered_after_steps, registered_stepped, steps_of_row, steps_of_rows}
use Rattle.hh_rules.specs.History.{Registered}
use Rattle.hh_states.specs.Changes.{leads_through, units_through}
use Rattle.hh_states.specs.Content.{Content}
use Rattle.hh_sqlrows.specs.steps.Forms.{Puts, Removes}
use Rattle.hh_sqlrows.specs.OfficeTables as forms
use Rattle.hh_sqlchanges.specs.steps.Becoming.{Becomes}
use Rattle.hh_sqlchanges.specs.steps.FileRows.{with_unit_steps, with_units}
use Rattle.hh_sqlchanges.proofs.StayLaws.{becomes_as, becomes_then, contracts_kept, leads_become, leads_kept, meters_kept, parties_kept, prices_kept, reallocations_kept, references_kept, registered_becomes}

pub unit_put : (unit : List ℕ) (u : UnitRegistration) (old new : Database) → Puts forms.units unit u old new → Becomes (with_unit_steps (step.Unit unit u ∷ [])) old new
unit_put unit u old new puts = registered_becomes 4 old new puts.is_office puts.others (λ tables. record tables { units = put bytes_cmp unit u tables.units }) (omega arith) (omega arith) (λ i. record {
  parties = parties_kept 4 old.trees new.trees puts.others (λ e. omega (arith, e)) i;
  units = puts.rows i;
  leads = leads_kept 4 old.trees new.trees puts.others (λ e. omega (arith, e)) i;
  meters = meters_kept 4 old.trees new.trees puts.others (λ e. omega (arith, e)) i;
  prices = prices_kept 4 old.trees new.trees puts.others (λ e. omega (arith, e)) i;
  references = references_kept 4 old.trees new.trees puts.others (λ e. omega (arith, e)) i;
  contracts = contracts_kept 4 old.trees new.trees puts.others (λ e. omega (arith, e)) i;
  reallocations = reallocations_kept 4 old.trees new.trees puts.others (λ e. omega (arith, e)) i;
})

pub lead_put : (key : LeadKey) (term : LeadTerm) (old new : Database) → Puts forms.leads key term old new → Becomes (with_unit_steps (step.Put key term ∷ [])) old new
lead_put key term old new puts = leads_become old new puts.is_office puts.others (put lead_key_cmp key term) puts.rows

pub lead_removed : (key : LeadKey) (old new : Database) → Removes forms.leads (λ k. eq_by_cmp lead_key_cmp key k) old new → Becomes (with_unit_steps (step.Removed key ∷ [])) old new
lead_removed key old new removes = leads_become old new removes.is_office removes.others (without lead_key_cmp key) removes.rows

stepped_behind : (first more : List UnitStep) (registered : RegistrationsView) → registered_after_steps (first ++ more) registered ≡ registered_after_steps more (registered_after_steps first registered)
stepped_behind [] more registered = refl
stepped_behind (s ∷ first) more registered = stepped_behind first more (registered_stepped s registered)

pub steps_more : (steps : List UnitStep) (s : UnitStep) (old mid new : Database) → Becomes (with_unit_steps steps) old mid → Becomes (with_unit_steps (s ∷ [])) mid new → Becomes (with_unit_steps (steps ++ s ∷ [])) old new
steps_more steps s old mid new all one =
    becomes_as (λ c. with_unit_steps (s ∷ []) (with_unit_steps steps c)) (with_unit_steps (steps ++ s ∷ [])) old new
    (λ c. ap (λ (registered : RegistrationsView). with_units registered c) (sym (stepped_behind steps (s ∷ []) (record { units = c.registered.units; leads = c.registered.leads }))))
    (becomes_then (with_unit_steps steps) (with_unit_steps (s ∷ [])) old mid new all one)

-- ---- the steps of rows make of what is registered of units what the rows make of it

row_stepped : (r : Row) (registered : RegistrationsView) → registered_after_steps (steps_of_row r registered) registered ≡ registrations_with r registered
row_stepped (row.Unit r) registered =
    elim (unit_change registered r).lead.former as (λ f. registered_after_steps (former_steps f ++ step.Put (unit_change registered r).lead.key (unit_change registered r).lead.term ∷ step.Unit r.unit (unit_change registered r).registration ∷ []) registered
    ≡ record { units = put bytes_cmp r.unit (unit_change registered r).registration registered.units; leads = put lead_key_cmp (unit_change registered r).lead.key (unit_change registered r).lead.term (beside_former f registered.leads) }) [
      | former.Absent ↦ refl
      | former.Replaced key ↦ refl
      | former.Ended key term ↦ refl
    ]
row_stepped (row.Party r) registered = refl
row_stepped (row.Meter r) registered = refl
row_stepped (row.Price r) registered = refl
row_stepped (row.Contract r) registered = refl
row_stepped (row.Reallocation r) registered = refl

pub rows_stepped : (rs : List Row) (registered : RegistrationsView)
    → registered_after_steps (steps_of_rows rs registered) registered ≡ record { units = units_through rs registered.units; leads = leads_through rs registered.leads }
rows_stepped [] registered = refl
rows_stepped (r ∷ rs) registered =
    stepped_behind (steps_of_row r registered) (steps_of_rows rs (registrations_with r registered)) registered
    ∙ ap (registered_after_steps (steps_of_rows rs (registrations_with r registered))) (row_stepped r registered)
    ∙ rows_stepped rs (registrations_with r registered)
