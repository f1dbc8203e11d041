-- What a change of one table leaves as it is, and how changes follow each other.
use Rattle.std.proofs.Common.{true, ◌≡◌, ◌≢◌, ◌<◌, ◌∙◌, ℕ, arith, map, ap}
use Rattle.sqlite_trees.specs.Tree.{Trees}
use Rattle.sqlite.specs.Effect.{Database}
use Rattle.hh_rules.specs.History.{Registered}
use Rattle.hh_rules.specs.Registrations.{Leads}
use Rattle.hh_states.specs.Content.{Content}
use Rattle.hh_rows.specs.declared.settings.Settings.{Settings}
use Rattle.hh_sqlrows.specs.Contents.{beside_in, content_of, registered_of, result_of}
use Rattle.hh_sqlrows.specs.Forms.{TableForm, rows_under_keys}
use Rattle.hh_sqlrows.specs.OfficeSchema.{office}
use Rattle.hh_sqlrows.specs.steps.Forms.{KeepsOthersIn}
use Rattle.hh_sqlrows.specs.Office.{IsOffice}
use Rattle.hh_sqlrows.specs.OfficeTables as forms
use Rattle.hh_sqlrows.specs.KeyedRows.{stored_entry, table_in}
use Rattle.hh_sqlchanges.specs.Writes.{StaysOffice}
use Rattle.hh_sqlchanges.specs.steps.Becoming.{Becomes}

-- ---- the tables that stay

rows_kept : {K V : Type 0} (form : TableForm K V) (old new : Trees) → new form.table.tree ≡ old form.table.tree → rows_under_keys form new ≡ rows_under_keys form old
rows_kept form old new same = ap (λ rows. table_in form.order (stored_entry form.key form.value) rows) same

module _ (tree : ℕ) (old new : Trees) (others : KeepsOthersIn office tree old new) where
  pub settings_kept : 0 ≢ tree → rows_under_keys forms.settings new ≡ rows_under_keys forms.settings old
  settings_kept apart = rows_kept forms.settings old new (others.0 apart)

  pub parties_kept : 2 ≢ tree → rows_under_keys forms.parties new ≡ rows_under_keys forms.parties old
  parties_kept apart = rows_kept forms.parties old new (others.1.0 apart)

  pub units_kept : 4 ≢ tree → rows_under_keys forms.units new ≡ rows_under_keys forms.units old
  units_kept apart = rows_kept forms.units old new (others.1.1.0 apart)

  pub meters_kept : 6 ≢ tree → rows_under_keys forms.meters new ≡ rows_under_keys forms.meters old
  meters_kept apart = rows_kept forms.meters old new (others.1.1.1.0 apart)

  pub prices_kept : 8 ≢ tree → rows_under_keys forms.period_prices new ≡ rows_under_keys forms.period_prices old
  prices_kept apart = rows_kept forms.period_prices old new (others.1.1.1.1.0 apart)

  pub references_kept : 10 ≢ tree → rows_under_keys forms.references new ≡ rows_under_keys forms.references old
  references_kept apart = rows_kept forms.references old new (others.1.1.1.1.1.0 apart)

  pub contracts_kept : 12 ≢ tree → rows_under_keys forms.contracts new ≡ rows_under_keys forms.contracts old
  contracts_kept apart = rows_kept forms.contracts old new (others.1.1.1.1.1.1.0 apart)

  pub reallocations_kept : 14 ≢ tree → rows_under_keys forms.reallocations new ≡ rows_under_keys forms.reallocations old
  reallocations_kept apart = rows_kept forms.reallocations old new (others.1.1.1.1.1.1.1.0 apart)

  pub files_kept : 16 ≢ tree → rows_under_keys forms.files new ≡ rows_under_keys forms.files old
  files_kept apart = rows_kept forms.files old new (others.1.1.1.1.1.1.1.1.0 apart)

  pub runs_kept : 18 ≢ tree → rows_under_keys forms.runs new ≡ rows_under_keys forms.runs old
  runs_kept apart = rows_kept forms.runs old new (others.1.1.1.1.1.1.1.1.1.0 apart)

  pub results_kept : 20 ≢ tree → rows_under_keys forms.results new ≡ rows_under_keys forms.results old
  results_kept apart = rows_kept forms.results old new (others.1.1.1.1.1.1.1.1.1.1.0 apart)

  pub credits_kept : 22 ≢ tree → rows_under_keys forms.credits new ≡ rows_under_keys forms.credits old
  credits_kept apart = rows_kept forms.credits old new (others.1.1.1.1.1.1.1.1.1.1.1.0 apart)

  pub postings_kept : 24 ≢ tree → rows_under_keys forms.postings new ≡ rows_under_keys forms.postings old
  postings_kept apart = rows_kept forms.postings old new (others.1.1.1.1.1.1.1.1.1.1.1.1.0 apart)

  pub positions_kept : 26 ≢ tree → rows_under_keys forms.positions new ≡ rows_under_keys forms.positions old
  positions_kept apart = rows_kept forms.positions old new (others.1.1.1.1.1.1.1.1.1.1.1.1.1.0 apart)

  pub touched_kept : 28 ≢ tree → rows_under_keys forms.touched new ≡ rows_under_keys forms.touched old
  touched_kept apart = rows_kept forms.touched old new (others.1.1.1.1.1.1.1.1.1.1.1.1.1.1.0 apart)

  marks_kept : 30 ≢ tree → rows_under_keys forms.marks new ≡ rows_under_keys forms.marks old
  marks_kept apart = rows_kept forms.marks old new (others.1.1.1.1.1.1.1.1.1.1.1.1.1.1.1.0 apart)

  pub leads_kept : 32 ≢ tree → rows_under_keys forms.leads new ≡ rows_under_keys forms.leads old
  leads_kept apart = rows_kept forms.leads old new (others.1.1.1.1.1.1.1.1.1.1.1.1.1.1.1.1.0 apart)

  -- a change of a table beside what is registered and in force leaves that as it is
  pub registered_kept : 14 < tree → tree < 32 → registered_of new ≡ registered_of old
  registered_kept beside low = λ i. record {
    parties = parties_kept (λ e. omega (arith, e, beside)) i;
    units = units_kept (λ e. omega (arith, e, beside)) i;
    leads = leads_kept (λ e. omega (arith, e, low)) i;
    meters = meters_kept (λ e. omega (arith, e, beside)) i;
    prices = prices_kept (λ e. omega (arith, e, beside)) i;
    references = references_kept (λ e. omega (arith, e, beside)) i;
    contracts = contracts_kept (λ e. omega (arith, e, beside)) i;
    reallocations = reallocations_kept (λ e. omega (arith, e, beside)) i;
  }

  -- a change of the content leaves what is kept beside it
  pub beside_kept : tree < 26 → beside_in new ≡ beside_in old
  beside_kept low = λ i. record {
    positions = positions_kept (λ e. omega (arith, e, low)) i;
    touched = ap (map (λ e. e.0)) (touched_kept (λ e. omega (arith, e, low))) i;
  }

  -- a change beside the content leaves the content
  pub content_kept : 24 < tree → tree < 32 → (kept : Settings) → content_of kept new ≡ content_of kept old
  content_kept high low kept = λ i. record {
    settings = kept;
    registered = registered_kept (omega (arith, high)) low i;
    files = files_kept (λ e. omega (arith, e, high)) i;
    runs = runs_kept (λ e. omega (arith, e, high)) i;
    results = ap (map result_of) (results_kept (λ e. omega (arith, e, high))) i;
    credits = credits_kept (λ e. omega (arith, e, high)) i;
    postings = postings_kept (λ e. omega (arith, e, high)) i;
    is_in_step = true;
  }

module _ (tree : ℕ) (old new : Database) (is_office : IsOffice new) (others : KeepsOthersIn office tree old.trees new.trees) where
  -- a change of any table but those of the settings and of the mark
  pub stays_office : 0 < tree → 30 ≢ tree → StaysOffice old new
  stays_office low apart = record {
    is_office = is_office;
    settings = settings_kept tree old.trees new.trees others (λ e. omega (arith, e, low));
    mark = marks_kept tree old.trees new.trees others apart;
  }

  -- a change of what is registered and in force
  pub registered_becomes : (effect : Registered → Registered) → 0 < tree → tree < 16 → registered_of new.trees ≡ effect (registered_of old.trees)
      → Becomes (λ (c : Content). record c { registered = effect c.registered }) old new
  registered_becomes effect low high made = record {
    stays = stays_office low (λ e. omega (arith, e, high));
    content = λ kept i. record {
      settings = kept;
      registered = made i;
      files = files_kept tree old.trees new.trees others (λ e. omega (arith, e, high)) i;
      runs = runs_kept tree old.trees new.trees others (λ e. omega (arith, e, high)) i;
      results = ap (map result_of) (results_kept tree old.trees new.trees others (λ e. omega (arith, e, high))) i;
      credits = credits_kept tree old.trees new.trees others (λ e. omega (arith, e, high)) i;
      postings = postings_kept tree old.trees new.trees others (λ e. omega (arith, e, high)) i;
      is_in_step = true;
    };
    beside = beside_kept tree old.trees new.trees others (omega (arith, high));
  }

-- a change of the registrations of units
pub leads_become : (old new : Database) → IsOffice new → KeepsOthersIn office 32 old.trees new.trees → (effect : Leads → Leads) → rows_under_keys forms.leads new.trees ≡ effect (rows_under_keys forms.leads old.trees)
    → Becomes (λ (c : Content). record c { registered = record (c.registered) { leads = effect c.registered.leads } }) old new
leads_become old new is_office others effect made = record {
  stays = stays_office 32 old new is_office others (omega arith) (λ e. omega (arith, e));
  content = λ kept i. record {
    settings = kept;
    registered = record {
      parties = parties_kept 32 old.trees new.trees others (λ e. omega (arith, e)) i;
      units = units_kept 32 old.trees new.trees others (λ e. omega (arith, e)) i;
      leads = made i;
      meters = meters_kept 32 old.trees new.trees others (λ e. omega (arith, e)) i;
      prices = prices_kept 32 old.trees new.trees others (λ e. omega (arith, e)) i;
      references = references_kept 32 old.trees new.trees others (λ e. omega (arith, e)) i;
      contracts = contracts_kept 32 old.trees new.trees others (λ e. omega (arith, e)) i;
      reallocations = reallocations_kept 32 old.trees new.trees others (λ e. omega (arith, e)) i;
    };
    files = files_kept 32 old.trees new.trees others (λ e. omega (arith, e)) i;
    runs = runs_kept 32 old.trees new.trees others (λ e. omega (arith, e)) i;
    results = ap (map result_of) (results_kept 32 old.trees new.trees others (λ e. omega (arith, e))) i;
    credits = credits_kept 32 old.trees new.trees others (λ e. omega (arith, e)) i;
    postings = postings_kept 32 old.trees new.trees others (λ e. omega (arith, e)) i;
    is_in_step = true;
  };
  beside = λ i. record {
    positions = positions_kept 32 old.trees new.trees others (λ e. omega (arith, e)) i;
    touched = ap (map (λ e. e.0)) (touched_kept 32 old.trees new.trees others (λ e. omega (arith, e))) i;
  };
}

-- ---- one change after the other

pub stays_then : (old mid new : Database) → StaysOffice old mid → StaysOffice mid new → StaysOffice old new
stays_then old mid new first second = record {
  is_office = second.is_office;
  settings = second.settings ∙ first.settings;
  mark = second.mark ∙ first.mark;
}

pub becomes_then : (f g : Content → Content) (old mid new : Database) → Becomes f old mid → Becomes g mid new → Becomes (λ c. g (f c)) old new
becomes_then f g old mid new first second = record {
  stays = stays_then old mid new first.stays second.stays;
  content = λ kept. second.content kept ∙ ap g (first.content kept);
  beside = second.beside ∙ first.beside;
}

-- the same, for the content that there was
pub becomes_here : (f g : Content → Content) (old new : Database) → ((kept : Settings) → f (content_of kept old.trees) ≡ g (content_of kept old.trees)) → Becomes f old new → Becomes g old new
becomes_here f g old new same it = record { stays = it.stays; content = λ kept. it.content kept ∙ same kept; beside = it.beside }

pub becomes_as : (f g : Content → Content) (old new : Database) → ((c : Content) → f c ≡ g c) → Becomes f old new → Becomes g old new
becomes_as f g old new same it = record { stays = it.stays; content = λ kept. it.content kept ∙ same _; beside = it.beside }
