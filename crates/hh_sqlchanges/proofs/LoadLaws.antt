-- What the rows of a load make of the content.
use Rattle.std.proofs.Common.{true, ◌≡◌, ◌∙◌, ◌++◌, List, [], ◌∷◌, ℕ, Result, OnOk, map, arith, refl, ap, subst}
use Rattle.std.specs.FinMap.{put}
use Rattle.std.proofs.lemmas.Result.{on_ok_weaker}
use Rattle.hh_tables.specs.Tables.{put_all}
use Rattle.sqlite.specs.Effect.{Database}
use Rattle.hh_names.specs.Accounts.{bytes_cmp}
use Rattle.hh_names.specs.declared.values.Counterparties.{Counterparties}
use Rattle.hh_rows.specs.declared.rows.ContractRow.{ContractRow}
use Rattle.hh_rows.specs.declared.rows.MeterRow.{MeterRow}
use Rattle.hh_rows.specs.declared.rows.PartyRow.{PartyRow}
use Rattle.hh_rows.specs.declared.rows.PriceRow.{PriceRow}
use Rattle.hh_rows.specs.declared.rows.ReallocationRow.{ReallocationRow}
use Rattle.hh_rows.specs.declared.rows.Row.{Row}
use Rattle.hh_rows.specs.declared.rows.Row.TheVariants as row
use Rattle.hh_rows.specs.declared.rows.UnitRow.{UnitRow}
use Rattle.hh_rules.specs.History.{Registered}
use Rattle.hh_states.specs.declared.file_key.FileKey.{FileKey}
use Rattle.hh_states.specs.Changes.{LoadChangeView, effect_of_load, leads_through, put_row, put_rows, units_through}
use Rattle.hh_states.specs.Content.{Content}
use Rattle.hh_states.specs.States.{KeptFileView, file_key_cmp}
use Rattle.hh_sqlrows.specs.Contents.{content_of, result_of}
use Rattle.hh_sqlrows.specs.Forms.{PutsAll}
use Rattle.hh_sqlrows.specs.Office.{IsOffice}
use Rattle.hh_sqlrows.specs.steps.Forms.{Puts}
use Rattle.hh_sqlrows.specs.OfficeTables as forms
use Rattle.hh_registrations.specs.UnitSteps.{registered_after_steps, steps_of_rows}
use Rattle.hh_registrations.specs.declared.unit_steps.UnitStep.{UnitStep}
use Rattle.hh_rules.specs.Leads.{registered_units}
use Rattle.hh_sqlchanges.specs.steps.Becoming.{Becomes, StoresLoadAlone}
use Rattle.hh_sqlchanges.specs.steps.FileRows.{with_file_row, with_file_rows, with_unit_steps}
use Rattle.hh_sqlchanges.proofs.StayLaws.{becomes_as, becomes_here, becomes_then, beside_kept, contracts_kept, credits_kept, leads_kept, meters_kept, parties_kept, postings_kept, prices_kept, reallocations_kept, references_kept, registered_becomes, registered_kept, results_kept, runs_kept, stays_office, units_kept}
use Rattle.hh_sqlchanges.proofs.UnitStepLaws.{rows_stepped}

-- ---- one row

module _ (old new : Database) where
  pub party_put : (r : PartyRow) → Puts forms.parties r.party r.registration old new → Becomes (with_file_row (row.Party r)) old new
  party_put r puts = registered_becomes 2 old new puts.is_office puts.others (put_row (row.Party r)) (omega arith) (omega arith) (λ i. record {
    parties = puts.rows i;
    units = units_kept 2 old.trees new.trees puts.others (λ e. omega (arith, e)) i;
    leads = leads_kept 2 old.trees new.trees puts.others (λ e. omega (arith, e)) i;
    meters = meters_kept 2 old.trees new.trees puts.others (λ e. omega (arith, e)) i;
    prices = prices_kept 2 old.trees new.trees puts.others (λ e. omega (arith, e)) i;
    references = references_kept 2 old.trees new.trees puts.others (λ e. omega (arith, e)) i;
    contracts = contracts_kept 2 old.trees new.trees puts.others (λ e. omega (arith, e)) i;
    reallocations = reallocations_kept 2 old.trees new.trees puts.others (λ e. omega (arith, e)) i;
  })

  pub meter_put : (r : MeterRow) → Puts forms.meters r.key r.reading old new → Becomes (with_file_row (row.Meter r)) old new
  meter_put r puts = registered_becomes 6 old new puts.is_office puts.others (put_row (row.Meter r)) (omega arith) (omega arith) (λ i. record {
    parties = parties_kept 6 old.trees new.trees puts.others (λ e. omega (arith, e)) i;
    units = units_kept 6 old.trees new.trees puts.others (λ e. omega (arith, e)) i;
    leads = leads_kept 6 old.trees new.trees puts.others (λ e. omega (arith, e)) i;
    meters = puts.rows i;
    prices = prices_kept 6 old.trees new.trees puts.others (λ e. omega (arith, e)) i;
    references = references_kept 6 old.trees new.trees puts.others (λ e. omega (arith, e)) i;
    contracts = contracts_kept 6 old.trees new.trees puts.others (λ e. omega (arith, e)) i;
    reallocations = reallocations_kept 6 old.trees new.trees puts.others (λ e. omega (arith, e)) i;
  })

  pub price_put : (r : PriceRow) → Puts forms.period_prices r.at r.price old new → Becomes (with_file_row (row.Price r)) old new
  price_put r puts = registered_becomes 8 old new puts.is_office puts.others (put_row (row.Price r)) (omega arith) (omega arith) (λ i. record {
    parties = parties_kept 8 old.trees new.trees puts.others (λ e. omega (arith, e)) i;
    units = units_kept 8 old.trees new.trees puts.others (λ e. omega (arith, e)) i;
    leads = leads_kept 8 old.trees new.trees puts.others (λ e. omega (arith, e)) i;
    meters = meters_kept 8 old.trees new.trees puts.others (λ e. omega (arith, e)) i;
    prices = puts.rows i;
    references = references_kept 8 old.trees new.trees puts.others (λ e. omega (arith, e)) i;
    contracts = contracts_kept 8 old.trees new.trees puts.others (λ e. omega (arith, e)) i;
    reallocations = reallocations_kept 8 old.trees new.trees puts.others (λ e. omega (arith, e)) i;
  })

  pub contract_put : (r : ContractRow) → Puts forms.contracts r.key r.contract.volume old new → Becomes (with_file_row (row.Contract r)) old new
  contract_put r puts = registered_becomes 12 old new puts.is_office puts.others (put_row (row.Contract r)) (omega arith) (omega arith) (λ i. record {
    parties = parties_kept 12 old.trees new.trees puts.others (λ e. omega (arith, e)) i;
    units = units_kept 12 old.trees new.trees puts.others (λ e. omega (arith, e)) i;
    leads = leads_kept 12 old.trees new.trees puts.others (λ e. omega (arith, e)) i;
    meters = meters_kept 12 old.trees new.trees puts.others (λ e. omega (arith, e)) i;
    prices = prices_kept 12 old.trees new.trees puts.others (λ e. omega (arith, e)) i;
    references = references_kept 12 old.trees new.trees puts.others (λ e. omega (arith, e)) i;
    contracts = puts.rows i;
    reallocations = reallocations_kept 12 old.trees new.trees puts.others (λ e. omega (arith, e)) i;
  })

  pub reallocation_put : (r : ReallocationRow) → Puts forms.reallocations r.key r.reallocation old new → Becomes (with_file_row (row.Reallocation r)) old new
  reallocation_put r puts = registered_becomes 14 old new puts.is_office puts.others (put_row (row.Reallocation r)) (omega arith) (omega arith) (λ i. record {
    parties = parties_kept 14 old.trees new.trees puts.others (λ e. omega (arith, e)) i;
    units = units_kept 14 old.trees new.trees puts.others (λ e. omega (arith, e)) i;
    leads = leads_kept 14 old.trees new.trees puts.others (λ e. omega (arith, e)) i;
    meters = meters_kept 14 old.trees new.trees puts.others (λ e. omega (arith, e)) i;
    prices = prices_kept 14 old.trees new.trees puts.others (λ e. omega (arith, e)) i;
    references = references_kept 14 old.trees new.trees puts.others (λ e. omega (arith, e)) i;
    contracts = contracts_kept 14 old.trees new.trees puts.others (λ e. omega (arith, e)) i;
    reallocations = puts.rows i;
  })

-- a row of units writes nothing by itself
pub unit_row_none : (r : UnitRow) (db : Database) → IsOffice db → Becomes (with_file_row (row.Unit r)) db db
unit_row_none r db is = record { stays = record { is_office = is; settings = refl; mark = refl }; content = λ kept. refl; beside = refl }

-- ---- rows one after the other

put_rows_last : (rs : List Row) (r : Row) (tables : Registered) → put_row r (put_rows rs tables) ≡ put_rows (rs ++ r ∷ []) tables
put_rows_last [] r tables = refl
put_rows_last (x ∷ rs) r tables = put_rows_last rs r (put_row x tables)

pub rows_more : (rs : List Row) (r : Row) (old mid new : Database) → Becomes (with_file_rows rs) old mid → Becomes (with_file_row r) mid new → Becomes (with_file_rows (rs ++ r ∷ [])) old new
rows_more rs r old mid new all one =
    becomes_as (λ c. with_file_row r (with_file_rows rs c)) (with_file_rows (rs ++ r ∷ [])) old new (λ c. ap (λ (tables : Registered). record c { registered = tables }) (put_rows_last rs r c.registered))
    (becomes_then (with_file_rows rs) (with_file_row r) old mid new all one)

-- ---- the whole load

abbrev with_file : FileKey → KeptFileView → Content → Content
with_file key file c = record c { files = put file_key_cmp key file c.files }

abbrev with_references : List (List ℕ × Counterparties) → Content → Content
with_references es c = record c { registered = record (c.registered) { references = put_all bytes_cmp es c.registered.references } }

module _ (old new : Database) where
  file_put : (key : FileKey) (file : KeptFileView) → Puts forms.files key file old new → Becomes (with_file key file) old new
  file_put key file puts = record {
    stays = stays_office 16 old new puts.is_office puts.others (omega arith) (λ e. omega (arith, e));
    content = λ kept i. record {
      settings = kept;
      registered = registered_kept 16 old.trees new.trees puts.others (omega arith) (omega arith) i;
      files = puts.rows i;
      runs = runs_kept 16 old.trees new.trees puts.others (λ e. omega (arith, e)) i;
      results = ap (map result_of) (results_kept 16 old.trees new.trees puts.others (λ e. omega (arith, e))) i;
      credits = credits_kept 16 old.trees new.trees puts.others (λ e. omega (arith, e)) i;
      postings = postings_kept 16 old.trees new.trees puts.others (λ e. omega (arith, e)) i;
      is_in_step = true;
    };
    beside = beside_kept 16 old.trees new.trees puts.others (omega arith);
  }

  references_put : (es : List (List ℕ × Counterparties)) → PutsAll forms.references es old new → Becomes (with_references es) old new
  references_put es puts = registered_becomes 10 old new puts.is_office puts.others (λ tables. record tables { references = put_all bytes_cmp es tables.references }) (omega arith) (omega arith) (λ i. record {
    parties = parties_kept 10 old.trees new.trees puts.others (λ e. omega (arith, e)) i;
    units = units_kept 10 old.trees new.trees puts.others (λ e. omega (arith, e)) i;
    leads = leads_kept 10 old.trees new.trees puts.others (λ e. omega (arith, e)) i;
    meters = meters_kept 10 old.trees new.trees puts.others (λ e. omega (arith, e)) i;
    prices = prices_kept 10 old.trees new.trees puts.others (λ e. omega (arith, e)) i;
    references = puts.rows i;
    contracts = contracts_kept 10 old.trees new.trees puts.others (λ e. omega (arith, e)) i;
    reallocations = reallocations_kept 10 old.trees new.trees puts.others (λ e. omega (arith, e)) i;
  })

-- rows do not change the references, and what is registered of units is put apart
references_stand : (rs : List Row) (tables : Registered) → (put_rows rs tables).references ≡ tables.references
references_stand [] tables = refl
references_stand (r ∷ rs) tables = references_stand rs (put_row r tables)

units_stand : (rs : List Row) (tables : Registered) → registered_units (put_rows rs tables) ≡ registered_units tables
units_stand [] tables = refl
units_stand (r ∷ rs) tables = units_stand rs (put_row r tables)

whole_load : (w : LoadChangeView) (steps : List UnitStep) (c : Content) → steps ≡ steps_of_rows w.rows (registered_units c.registered)
    → with_references w.references (with_unit_steps steps (with_file_rows w.rows (with_file w.key w.file c))) ≡ effect_of_load w c
whole_load w steps c are = λ i. record c {
  registered = record (put_rows w.rows c.registered) {
    references = put_all bytes_cmp w.references (references_stand w.rows c.registered i);
    units = (stepped i).units;
    leads = (stepped i).leads;
  };
  files = put file_key_cmp w.key w.file c.files;
}
  where
    stepped : registered_after_steps steps (registered_units (put_rows w.rows c.registered))
        ≡ record { units = units_through w.rows c.registered.units; leads = leads_through w.rows c.registered.leads }
    stepped =
        ap (registered_after_steps steps) (units_stand w.rows c.registered)
        ∙ ap (λ ss. registered_after_steps ss (registered_units c.registered)) are
        ∙ rows_stepped w.rows (registered_units c.registered)

load_written : (w : LoadChangeView) (steps : List UnitStep) (old first second third new : Database) → Puts forms.files w.key w.file old first → Becomes (with_file_rows w.rows) first second → Becomes (with_unit_steps steps) second third
    → PutsAll forms.references w.references third new → Becomes (λ c. with_references w.references (with_unit_steps steps (with_file_rows w.rows (with_file w.key w.file c)))) old new
load_written w steps old first second third new file rows leads references =
    becomes_then (λ c. with_unit_steps steps (with_file_rows w.rows (with_file w.key w.file c))) (with_references w.references) old third new
    (becomes_then (λ c. with_file_rows w.rows (with_file w.key w.file c)) (with_unit_steps steps) old second third
    (becomes_then (with_file w.key w.file) (with_file_rows w.rows) old first second (file_put old first w.key w.file file) rows) leads)
    (references_put third new w.references references)

-- what is written is the load, if the steps are those of its rows
load_stored : (w : LoadChangeView) (steps : List UnitStep) (old new : Database) → Becomes (λ c. with_references w.references (with_unit_steps steps (with_file_rows w.rows (with_file w.key w.file c)))) old new
    → StoresLoadAlone w steps old new
load_stored w steps old new written = record {
  stores = record { stays = written.stays; content = λ are kept. written.content kept ∙ whole_load w steps (content_of kept old.trees) are };
  beside = written.beside;
}

pub load_made : {X E : Type 0} (w : LoadChangeView) (steps : List UnitStep) (key : FileKey) (file : KeptFileView) (rows : List Row) (references : List (List ℕ × Counterparties))
    → key ≡ w.key → file ≡ w.file → rows ≡ w.rows → references ≡ w.references → (old first second third new : Database) (result : Result X E)
    → Puts forms.files key file old first → Becomes (with_file_rows rows) first second → Becomes (with_unit_steps steps) second third → OnOk result (PutsAll forms.references references third new)
    → OnOk result (StoresLoadAlone w steps old new)
load_made w steps key file rows references is_key is_file is_rows is_references old first second third new result filed rowed led referred = on_ok_weaker result (λ put. load_stored w steps old new (load_written w steps old first second third new
    (subst (λ (k : FileKey). Puts forms.files k w.file old first) is_key (subst (λ (f : KeptFileView). Puts forms.files key f old first) is_file filed))
    (subst (λ (rs : List Row). Becomes (with_file_rows rs) first second) is_rows rowed) led
    (subst (λ (es : List (List ℕ × Counterparties)). PutsAll forms.references es third new) is_references put))) referred
