-- What the texts of the statements on each table of an office do.
use Rattle.std.proofs.Common.{[], ◌∙◌, ◌∷◌, ◌==◌, inl, inr, refl}
use Rattle.std.specs.Prelude.{ℕ, List, map}
use Rattle.std.specs.Cmp.{eq_by_cmp_equiv, nat_cmp_total, unsigned_tied}
use Rattle.std.specs.Ordering.{eq_by_cmp, is_eq, nat_cmp}
use Rattle.std.proofs.lemmas.Map.Lookups.{exact_bytes, exact_unsigned}
use Rattle.sqlite.specs.Listing.{understood}
use Rattle.sqlite_tied.specs.Compute.{everything}
use Rattle.hh_names.specs.Accounts.{bytes_cmp}
use Rattle.hh_names.proofs.AccountLaws.{bytes_total}
use Rattle.hh_keyed_rows.specs.Fields.{date_column, unit_column}
use Rattle.hh_rows.specs.Keys.{lead_key_cmp}
use Rattle.hh_rows.proofs.KeyLaws.{exact_lead_keys, lead_key_total}
use Rattle.hh_keyed_rows.specs.Keys.{lead_key_columns, run_key_columns}
use Rattle.hh_keyed_rows.specs.Runs.{run_key_cmp}
use Rattle.hh_keyed_rows.proofs.FieldLaws.{date_codec}
use Rattle.hh_keyed_rows.proofs.KeyCodecs.{lead_key_codec, run_key_codec, unit_codec}
use Rattle.hh_sqlrows.specs.facts.KeyOrders.{exact_run_keys, run_key_total}
use Rattle.hh_sqltables.specs.Forms.{TableForm}
use Rattle.hh_sqltables.specs.Texts.{IsChangeableIn, IsFinding, IsInsertOf, IsListing, IsPut, IsQuery, IsRemoval, columns_in}
use Rattle.hh_sqltables.proofs.FormLaws.{or_false}
use Rattle.hh_sqltables.proofs.UpdateFormLaws.{and_true}
use Rattle.hh_sqltables.proofs.WhereLaws.{tested_by}
use Rattle.hh_sqlrows.specs.OfficeSchema.{office}
use Rattle.hh_sqlrows.specs.OfficeTables.{contracts, credits, files, is_of_unit_on, leads, marks, meters, parties, period_prices, positions, postings, reallocations, references, results, runs, settings, touched, units}
use Rattle.hh_sqlrows.proofs.OrderFacts.{contracts_by, credits_by, files_by, leads_by, marks_by, meters_by, parties_by, positions_by, postings_by, prices_by, reallocations_by, references_by, results_by, runs_by, settings_by, touched_by, units_by}
use Rattle.hh_sqlrows.specs.UnitDates.{unit_date_columns}
use Rattle.hh_sqlrows.proofs.ColumnLaws.{asked_unit_cmp, asked_unit_total, exact_asked_units, unit_date_codec}
use Rattle.hh_sqlrows.specs.declared.tables.contracts.TheConstants as contracts_texts
use Rattle.hh_sqlrows.specs.declared.tables.credits.TheConstants as credits_texts
use Rattle.hh_sqlrows.specs.declared.tables.files.TheConstants as files_texts
use Rattle.hh_sqlrows.specs.declared.tables.leads.TheConstants as leads_texts
use Rattle.hh_sqlrows.specs.declared.tables.marks.TheConstants as marks_texts
use Rattle.hh_sqlrows.specs.declared.tables.meters.TheConstants as meters_texts
use Rattle.hh_sqlrows.specs.declared.tables.parties.TheConstants as parties_texts
use Rattle.hh_sqlrows.specs.declared.tables.positions.TheConstants as positions_texts
use Rattle.hh_sqlrows.specs.declared.tables.postings.TheConstants as postings_texts
use Rattle.hh_sqlrows.specs.declared.tables.prices.TheConstants as prices_texts
use Rattle.hh_sqlrows.specs.declared.tables.reallocations.TheConstants as reallocations_texts
use Rattle.hh_sqlrows.specs.declared.tables.references.TheConstants as references_texts
use Rattle.hh_sqlrows.specs.declared.tables.results.TheConstants as results_texts
use Rattle.hh_sqlrows.specs.declared.tables.runs.TheConstants as runs_texts
use Rattle.hh_sqlrows.specs.declared.tables.settings.TheConstants as settings_texts
use Rattle.hh_sqlrows.specs.declared.tables.touched.TheConstants as touched_texts
use Rattle.hh_sqlrows.specs.declared.tables.units.TheConstants as units_texts

-- the names of the columns
abbrev columns_of : {K V : Type 0} → TableForm K V → List (List ℕ)
columns_of form = map (λ c. c.name) form.table.columns

-- ---- settings

pub settings_put : IsPut office settings settings_texts.PUT.now
unfolding understood everything
settings_put = inr (inl (refl, (refl, refl)))

pub settings_one : IsFinding office settings settings_texts.ONE.now
unfolding understood everything
settings_one = record {
  places = 1 ∷ [];
  order = 1 ∷ [];
  selects = record { names = columns_of settings; command = refl; unlisted = refl; plain = (refl, refl) };
  by = settings_by;
  narrow = refl;
  picked = λ id k v. refl;
}

-- ---- parties

pub parties_put : IsPut office parties parties_texts.PUT.now
unfolding understood everything
parties_put = inl (refl, (refl, refl))

pub parties_one : IsFinding office parties parties_texts.ONE.now
unfolding understood everything
parties_one = record {
  places = 1 ∷ [];
  order = 1 ∷ [];
  selects = record { names = columns_of parties; command = refl; unlisted = refl; plain = (refl, refl) };
  by = parties_by;
  narrow = refl;
  picked = λ id k v. refl;
}

pub parties_all : IsListing office parties parties_texts.ALL.now
unfolding understood everything
parties_all = record {
  order = 1 ∷ [];
  selects = record { names = columns_of parties; command = refl; unlisted = refl; plain = (refl, refl) };
  by = parties_by;
}

-- ---- units

-- a unit's row may be changed
pub units_changeable : IsChangeableIn office units
units_changeable = record {
  lettered = λ k. refl;
  aimed = λ r new. or_false _;
  tests = λ k v id more r. and_true _;
  outputs = λ k v more r. refl;
}

pub units_put : IsPut office units units_texts.PUT.now
unfolding understood everything
units_put = inr (inr (units_changeable, (refl, (refl, refl))))

pub units_one : IsFinding office units units_texts.ONE.now
unfolding understood everything
units_one = record {
  places = 1 ∷ [];
  order = 1 ∷ [];
  selects = record { names = columns_of units; command = refl; unlisted = refl; plain = (refl, refl) };
  by = units_by;
  narrow = refl;
  picked = λ id k v. refl;
}

pub units_all : IsListing office units units_texts.ALL.now
unfolding understood everything
units_all = record {
  order = 1 ∷ [];
  selects = record { names = columns_of units; command = refl; unlisted = refl; plain = (refl, refl) };
  by = units_by;
}

-- ---- leads

pub leads_put : IsPut office leads leads_texts.PUT.now
unfolding understood everything
leads_put = inl (refl, (refl, refl))

pub leads_all : IsListing office leads leads_texts.ALL.now
unfolding understood everything
leads_all = record {
  order = 1 ∷ 2 ∷ [];
  selects = record { names = columns_of leads; command = refl; unlisted = refl; plain = (refl, refl) };
  by = leads_by;
}

pub leads_removal : IsRemoval office leads leads_texts.REMOVAL.now lead_key_columns (λ asked key. eq_by_cmp lead_key_cmp asked key)
unfolding understood everything
leads_removal = record {
  places = 1 ∷ 2 ∷ [];
  deletes = (refl, (refl, refl));
  tested = λ asked id k v.
      tested_by lead_key_cmp lead_key_total exact_lead_keys lead_key_columns lead_key_codec (1 ∷ 2 ∷ []) (id ∷ columns_in leads k v) k asked refl refl
      ∙ (eq_by_cmp_equiv lead_key_total).symm k asked;
}

-- ---- meters

pub meters_put : IsPut office meters meters_texts.PUT.now
unfolding understood everything
meters_put = inl (refl, (refl, refl))

pub meters_group : IsInsertOf office meters meters_texts.GROUP.now 8
unfolding understood everything
meters_group = (refl, (refl, refl))

pub meters_under : IsQuery office meters meters_texts.UNDER.now unit_date_columns (λ asked key. is_of_unit_on asked.unit asked.date key)
unfolding understood everything
meters_under = record {
  places = 1 ∷ 2 ∷ [];
  order = 1 ∷ 2 ∷ 3 ∷ [];
  selects = record { names = columns_of meters; command = refl; unlisted = refl; plain = (refl, refl) };
  by = meters_by;
  asked_order = asked_unit_cmp;
  total = asked_unit_total;
  exact = exact_asked_units;
  is_codec = unit_date_codec;
  part = λ k. record { unit = k.unit; date = k.at.date };
  narrow = refl;
  picked = λ id k v. refl;
  same = λ a k. refl;
}

-- ---- prices

pub period_prices_put : IsPut office period_prices prices_texts.PUT.now
unfolding understood everything
period_prices_put = inl (refl, (refl, refl))

pub period_prices_under : IsQuery office period_prices prices_texts.UNDER.now date_column (λ date key. is_eq (nat_cmp key.date date))
unfolding understood everything
period_prices_under = record {
  places = 1 ∷ [];
  order = 1 ∷ 2 ∷ [];
  selects = record { names = columns_of period_prices; command = refl; unlisted = refl; plain = (refl, refl) };
  by = prices_by;
  asked_order = nat_cmp;
  total = nat_cmp_total;
  exact = exact_unsigned;
  is_codec = date_codec;
  part = λ k. k.date;
  narrow = refl;
  picked = λ id k v. refl;
  same = λ a k. refl;
}

-- ---- references

pub references_put : IsPut office references references_texts.PUT.now
unfolding understood everything
references_put = inl (refl, (refl, refl))

pub references_one : IsFinding office references references_texts.ONE.now
unfolding understood everything
references_one = record {
  places = 1 ∷ [];
  order = 1 ∷ [];
  selects = record { names = columns_of references; command = refl; unlisted = refl; plain = (refl, refl) };
  by = references_by;
  narrow = refl;
  picked = λ id k v. refl;
}

pub references_all : IsListing office references references_texts.ALL.now
unfolding understood everything
references_all = record {
  order = 1 ∷ [];
  selects = record { names = columns_of references; command = refl; unlisted = refl; plain = (refl, refl) };
  by = references_by;
}

-- ---- contracts

pub contracts_put : IsPut office contracts contracts_texts.PUT.now
unfolding understood everything
contracts_put = inl (refl, (refl, refl))

pub contracts_group : IsInsertOf office contracts contracts_texts.GROUP.now 8
unfolding understood everything
contracts_group = (refl, (refl, refl))

pub contracts_one : IsFinding office contracts contracts_texts.ONE.now
unfolding understood everything
contracts_one = record {
  places = 1 ∷ 2 ∷ 3 ∷ [];
  order = 1 ∷ 2 ∷ 3 ∷ [];
  selects = record { names = columns_of contracts; command = refl; unlisted = refl; plain = (refl, refl) };
  by = contracts_by;
  narrow = refl;
  picked = λ id k v. refl;
}

pub contracts_all : IsListing office contracts contracts_texts.ALL.now
unfolding understood everything
contracts_all = record {
  order = 1 ∷ 2 ∷ 3 ∷ [];
  selects = record { names = columns_of contracts; command = refl; unlisted = refl; plain = (refl, refl) };
  by = contracts_by;
}

pub contracts_under : IsQuery office contracts contracts_texts.UNDER.now date_column (λ date key. is_eq (nat_cmp key.at.date date))
unfolding understood everything
contracts_under = record {
  places = 2 ∷ [];
  order = 1 ∷ 2 ∷ 3 ∷ [];
  selects = record { names = columns_of contracts; command = refl; unlisted = refl; plain = (refl, refl) };
  by = contracts_by;
  asked_order = nat_cmp;
  total = nat_cmp_total;
  exact = exact_unsigned;
  is_codec = date_codec;
  part = λ k. k.at.date;
  narrow = refl;
  picked = λ id k v. refl;
  same = λ a k. refl;
}

-- ---- reallocations

pub reallocations_put : IsPut office reallocations reallocations_texts.PUT.now
unfolding understood everything
reallocations_put = inl (refl, (refl, refl))

pub reallocations_under : IsQuery office reallocations reallocations_texts.UNDER.now unit_column (λ unit key. is_eq (bytes_cmp key.unit_period.unit unit))
unfolding understood everything
reallocations_under = record {
  places = 1 ∷ [];
  order = 1 ∷ 4 ∷ 5 ∷ 2 ∷ 3 ∷ [];
  selects = record { names = columns_of reallocations; command = refl; unlisted = refl; plain = (refl, refl) };
  by = reallocations_by;
  asked_order = bytes_cmp;
  total = bytes_total;
  exact = exact_bytes;
  is_codec = unit_codec;
  part = λ k. k.unit_period.unit;
  narrow = refl;
  picked = λ id k v. refl;
  same = λ a k. refl;
}

-- ---- files

pub files_put : IsPut office files files_texts.PUT.now
unfolding understood everything
files_put = inl (refl, (refl, refl))

pub files_one : IsFinding office files files_texts.ONE.now
unfolding understood everything
files_one = record {
  places = 1 ∷ 2 ∷ [];
  order = 1 ∷ 2 ∷ [];
  selects = record { names = columns_of files; command = refl; unlisted = refl; plain = (refl, refl) };
  by = files_by;
  narrow = refl;
  picked = λ id k v. refl;
}

-- ---- runs

pub runs_put : IsPut office runs runs_texts.PUT.now
unfolding understood everything
runs_put = inr (inl (refl, (refl, refl)))

pub runs_all : IsListing office runs runs_texts.ALL.now
unfolding understood everything
runs_all = record {
  order = 1 ∷ 2 ∷ [];
  selects = record { names = columns_of runs; command = refl; unlisted = refl; plain = (refl, refl) };
  by = runs_by;
}

pub runs_under : IsQuery office runs runs_texts.UNDER.now date_column (λ date key. is_eq (nat_cmp key.date date))
unfolding understood everything
runs_under = record {
  places = 1 ∷ [];
  order = 1 ∷ 2 ∷ [];
  selects = record { names = columns_of runs; command = refl; unlisted = refl; plain = (refl, refl) };
  by = runs_by;
  asked_order = nat_cmp;
  total = nat_cmp_total;
  exact = exact_unsigned;
  is_codec = date_codec;
  part = λ k. k.date;
  narrow = refl;
  picked = λ id k v. refl;
  same = λ a k. refl;
}

-- ---- results

pub results_put : IsPut office results results_texts.PUT.now
unfolding understood everything
results_put = inr (inl (refl, (refl, refl)))

pub results_group : IsInsertOf office results results_texts.GROUP.now 8
unfolding understood everything
results_group = (refl, (refl, refl))

pub results_under : IsQuery office results results_texts.UNDER.now run_key_columns (λ run key. is_eq (run_key_cmp key.run run))
unfolding understood everything
results_under = record {
  places = 1 ∷ 2 ∷ [];
  order = 1 ∷ 2 ∷ 3 ∷ 4 ∷ 5 ∷ [];
  selects = record { names = columns_of results; command = refl; unlisted = refl; plain = (refl, refl) };
  by = results_by;
  asked_order = run_key_cmp;
  total = run_key_total;
  exact = exact_run_keys;
  is_codec = run_key_codec;
  part = λ k. k.run;
  narrow = refl;
  picked = λ id k v. refl;
  same = λ a k. refl;
}

-- ---- credits

pub credits_put : IsPut office credits credits_texts.PUT.now
unfolding understood everything
credits_put = inr (inl (refl, (refl, refl)))

pub credits_group : IsInsertOf office credits credits_texts.GROUP.now 8
unfolding understood everything
credits_group = (refl, (refl, refl))

pub credits_under : IsQuery office credits credits_texts.UNDER.now run_key_columns (λ run key. is_eq (run_key_cmp key.run run))
unfolding understood everything
credits_under = record {
  places = 1 ∷ 2 ∷ [];
  order = 1 ∷ 2 ∷ 3 ∷ 4 ∷ 5 ∷ 6 ∷ [];
  selects = record { names = columns_of credits; command = refl; unlisted = refl; plain = (refl, refl) };
  by = credits_by;
  asked_order = run_key_cmp;
  total = run_key_total;
  exact = exact_run_keys;
  is_codec = run_key_codec;
  part = λ k. k.run;
  narrow = refl;
  picked = λ id k v. refl;
  same = λ a k. refl;
}

-- ---- postings

pub postings_put : IsPut office postings postings_texts.PUT.now
unfolding understood everything
postings_put = inr (inl (refl, (refl, refl)))

pub postings_all : IsListing office postings postings_texts.ALL.now
unfolding understood everything
postings_all = record {
  order = 1 ∷ 2 ∷ 3 ∷ 4 ∷ [];
  selects = record { names = columns_of postings; command = refl; unlisted = refl; plain = (refl, refl) };
  by = postings_by;
}

-- ---- positions

pub positions_put : IsPut office positions positions_texts.PUT.now
unfolding understood everything
positions_put = inl (refl, (refl, refl))

pub positions_one : IsFinding office positions positions_texts.ONE.now
unfolding understood everything
positions_one = record {
  places = 1 ∷ 2 ∷ 3 ∷ 4 ∷ [];
  order = 1 ∷ 2 ∷ 3 ∷ 4 ∷ [];
  selects = record { names = columns_of positions; command = refl; unlisted = refl; plain = (refl, refl) };
  by = positions_by;
  narrow = refl;
  picked = λ id k v. refl;
}

pub positions_all : IsListing office positions positions_texts.ALL.now
unfolding understood everything
positions_all = record {
  order = 1 ∷ 2 ∷ 3 ∷ 4 ∷ [];
  selects = record { names = columns_of positions; command = refl; unlisted = refl; plain = (refl, refl) };
  by = positions_by;
}

pub positions_under : IsQuery office positions positions_texts.UNDER.now date_column (λ date key. is_eq (nat_cmp key.at.date date))
unfolding understood everything
positions_under = record {
  places = 1 ∷ [];
  order = 1 ∷ 2 ∷ 3 ∷ 4 ∷ [];
  selects = record { names = columns_of positions; command = refl; unlisted = refl; plain = (refl, refl) };
  by = positions_by;
  asked_order = nat_cmp;
  total = nat_cmp_total;
  exact = exact_unsigned;
  is_codec = date_codec;
  part = λ k. k.at.date;
  narrow = refl;
  picked = λ id k v. refl;
  same = λ a k. refl;
}

-- ---- touched

pub touched_put : IsPut office touched touched_texts.PUT.now
unfolding understood everything
touched_put = inl (refl, (refl, refl))

pub touched_all : IsListing office touched touched_texts.ALL.now
unfolding understood everything
touched_all = record {
  order = 1 ∷ 2 ∷ [];
  selects = record { names = columns_of touched; command = refl; unlisted = refl; plain = (refl, refl) };
  by = touched_by;
}

pub touched_under : IsQuery office touched touched_texts.UNDER.now date_column (λ date key. is_eq (nat_cmp key.date date))
unfolding understood everything
touched_under = record {
  places = 1 ∷ [];
  order = 1 ∷ 2 ∷ [];
  selects = record { names = columns_of touched; command = refl; unlisted = refl; plain = (refl, refl) };
  by = touched_by;
  asked_order = nat_cmp;
  total = nat_cmp_total;
  exact = exact_unsigned;
  is_codec = date_codec;
  part = λ k. k.date;
  narrow = refl;
  picked = λ id k v. refl;
  same = λ a k. refl;
}

pub touched_removal : IsRemoval office touched touched_texts.REMOVAL.now date_column (λ date key. key.date == date)
unfolding understood everything
touched_removal = record {
  places = 1 ∷ [];
  deletes = (refl, (refl, refl));
  tested = λ date id k v. tested_by nat_cmp nat_cmp_total exact_unsigned date_column date_codec (1 ∷ []) (id ∷ columns_in touched k v) k.date date refl refl ∙ unsigned_tied k.date date;
}

-- ---- marks

pub marks_put : IsPut office marks marks_texts.PUT.now
unfolding understood everything
marks_put = inl (refl, (refl, refl))

pub marks_one : IsFinding office marks marks_texts.ONE.now
unfolding understood everything
marks_one = record {
  places = 1 ∷ [];
  order = 1 ∷ [];
  selects = record { names = columns_of marks; command = refl; unlisted = refl; plain = (refl, refl) };
  by = marks_by;
  narrow = refl;
  picked = λ id k v. refl;
}
