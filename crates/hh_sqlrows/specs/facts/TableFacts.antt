-- What the form of each table of an office is.
use Rattle.std.proofs.Common.{[], ◌∷◌, inl, inr, refl}
use Rattle.std.specs.Prelude.{◌≡◌, ◌/◌, suc, List, length, slice_get, true, false, Some, None}
use Rattle.std.specs.List.{list_all, list_any}
use Rattle.std.specs.Cmp.{IsTotalOrder}
use Rattle.std.proofs.lemmas.Map.Lookups.{CmpEqualImpliesEq, exact_bytes}
use Rattle.sqlite_value.specs.declared.value.Value.TheVariants.{Null}
use Rattle.sqlite_value.specs.Keys.{plain}
use Rattle.sqlite_value.specs.Order.{Row}
use Rattle.sqlite_trees.specs.Tree.{Trees}
use Rattle.sqlite_sql.specs.Program.{overlay}
use Rattle.sqlite_schema.specs.Rules.{agree, clashes, passes}
use Rattle.sqlite_schema.specs.declared.schema.Constraint.TheVariants.{Unique}
use Rattle.sqlite_schema.specs.declared.schema.Keys.TheVariants.{Enforced}
use Rattle.sqlite_rules.specs.Action.{works}
use Rattle.sqlite_rules.specs.Keys.{shares}
use Rattle.sqlite_rules.specs.Lists.{Has}
use Rattle.sqlite.specs.Effect.{value_rows}
use Rattle.sqlite.specs.Rows.{stamped}
use Rattle.hh_keyed_rows.specs.Codecs.{IsCodec, places_from}
use Rattle.hh_num.specs.Quantities.{amounts_of_cash, energies, prices as price_range, volumes}
use Rattle.hh_names.proofs.AccountLaws.{bytes_total}
use Rattle.hh_rows.proofs.KeyLaws.{contract_key_total, exact_contract_keys, exact_lead_keys, exact_reallocation_keys, exact_settlement_periods, exact_unit_periods, lead_key_total, reallocation_key_total, settlement_period_total, unit_period_total}
use Rattle.hh_keyed_rows.proofs.FieldLaws.{counterparties_codec, mark_codec, settlement_period_codec}
use Rattle.hh_keyed_rows.proofs.KeyCodecs.{amounts_codec, contract_key_codec, credit_key_codec, file_codec, file_key_codec, lead_key_codec, lead_term_codec, no_columns_codec, one_row_codec, party_codec, position_codec, position_key_codec, posting_key_codec, quantity_codec, reading_codec, reallocation_codec, reallocation_key_codec, reference_codec, registered_party_codec, registered_unit_codec, result_key_codec, run_key_codec, settings_codec, summary_codec, unit_codec, unit_period_codec}
use Rattle.hh_keyed_rows.proofs.PutLaws.{cast_int}
use Rattle.hh_sqltables.specs.Forms.{TableForm}
use Rattle.hh_sqltables.specs.Terms.{row_terms}
use Rattle.hh_sqltables.specs.Texts.{AreOfKinds, IsFormIn, IsTableOf, columns_in, width_of}
use Rattle.hh_sqltables.proofs.FormLaws.{no_clash, or_false}
use Rattle.hh_sqlrows.specs.OfficeSchema.{office}
use Rattle.hh_sqlrows.specs.OfficeTables.{contracts, credits, files, leads, marks, meters, parties, period_prices, positions, postings, reallocations, references, results, runs, settings, touched, units}
use Rattle.hh_sqlrows.specs.facts.KeyOrders.{credit_key_total, exact_credit_keys, exact_file_keys, exact_one_rows, exact_position_keys, exact_posting_keys, exact_result_keys, exact_run_keys, file_key_total, one_row_total, position_key_total, posting_key_total, result_key_total, run_key_total}

-- ---- what is the same for each table

-- Of a form of a table of the office. What stands behind the kinds of the columns is computed from the schema.
form_by : {K V : Type 0} (form : TableForm K V) → IsTotalOrder form.order → CmpEqualImpliesEq form.order → IsCodec form.key → IsCodec form.value
    → Has office.tables form.table → ((k : K) (v : V) → AreOfKinds form.table.columns (columns_in form k v))
    → slice_get office.tables form.at ≡ Some form.table
    → ((db : Trees) → overlay db [] form.table.tree ≡ db form.table.tree)
    → form.table.key ≡ None → form.table.is_counted ≡ false → form.table.stamps.terms ≡ []
    → ((olds news : List Row) → works office Enforced 0 form.table.tree olds news ≡ [])
    → ((r new : Row) → list_any (shares None form.table new r) office.indexes ≡ agree plain (places_from 1 form.key.width) r (places_from 1 form.key.width) new)
    → ((db : Trees) (r : Row) → passes Unique office db form.table r ≡ true → clashes plain (places_from 1 form.key.width) (db form.table.tree) r ≡ false)
    → length form.table.columns ≡ width_of form → list_all (λ c. c.not_null) form.table.columns ≡ true
    → ((k : K) (v : V) → value_rows (stamped form.table (columns_in form k v)) (suc (width_of form)) (length (row_terms (width_of form)) / suc (width_of form)) (row_terms (width_of form)) ≡ (Null ∷ columns_in form k v) ∷ [])
    → IsFormIn office form
form_by form total exact is_key is_value there kinds listed own unkeyed uncounted unstamped free indexed unique long present values = record {
  total = total;
  exact = exact;
  is_key = is_key;
  is_value = is_value;
  listed = listed;
  there = there;
  own = own;
  unkeyed = unkeyed;
  uncounted = uncounted;
  unstamped = unstamped;
  free = free;
  indexed = indexed;
  unique = unique;
  long = long;
  present = present;
  kinds = kinds;
  values = values;
}

-- ---- settings

pub settings_form : IsFormIn office settings
settings_form =
    form_by settings one_row_total exact_one_rows one_row_codec settings_codec (inl refl) (λ k v. (cast_int _, (cast_int _, (cast_int _, (refl, refl)))))
    refl (λ db. refl) refl refl refl (λ olds news. refl) (λ r new. or_false _) (λ db r h. no_clash _ h) refl refl (λ k v. refl)

pub settings_is : IsTableOf office settings settings.key settings.value
settings_is = record { is_form = settings_form; keyed = refl; valued = refl }

-- ---- parties

pub parties_form : IsFormIn office parties
parties_form =
    form_by parties bytes_total exact_bytes party_codec registered_party_codec (inr (inl refl)) (λ k v. (refl, (cast_int _, (cast_int _, (refl, refl)))))
    refl (λ db. refl) refl refl refl (λ olds news. refl) (λ r new. or_false _) (λ db r h. no_clash _ h) refl refl (λ k v. refl)

pub parties_is : IsTableOf office parties parties.key parties.value
parties_is = record { is_form = parties_form; keyed = refl; valued = refl }

-- ---- units

pub units_form : IsFormIn office units
units_form =
    form_by units bytes_total exact_bytes unit_codec registered_unit_codec (inr (inr (inl refl))) (λ k v. (refl, (refl, (cast_int _, (cast_int _, (cast_int _, (cast_int _, refl)))))))
    refl (λ db. refl) refl refl refl (λ olds news. refl) (λ r new. or_false _) (λ db r h. no_clash _ h) refl refl (λ k v. refl)

pub units_is : IsTableOf office units units.key units.value
units_is = record { is_form = units_form; keyed = refl; valued = refl }

-- ---- leads

pub leads_form : IsFormIn office leads
leads_form =
    form_by leads lead_key_total exact_lead_keys lead_key_codec lead_term_codec (inr (inr (inr (inr (inr (inr (inr (inr (inr (inr (inr (inr (inr (inr (inr (inr (inl refl))))))))))))))))) (λ k v. (refl, (cast_int _, (refl, (cast_int _, (cast_int _, refl))))))
    refl (λ db. refl) refl refl refl (λ olds news. refl) (λ r new. or_false _) (λ db r h. no_clash _ h) refl refl (λ k v. refl)

pub leads_is : IsTableOf office leads leads.key leads.value
leads_is = record { is_form = leads_form; keyed = refl; valued = refl }

-- ---- meters

pub meters_form : IsFormIn office meters
meters_form =
    form_by meters unit_period_total exact_unit_periods unit_period_codec reading_codec (inr (inr (inr (inl refl)))) (λ k v. (refl, (cast_int _, (cast_int _, (cast_int _, (cast_int _, (cast_int _, refl)))))))
    refl (λ db. refl) refl refl refl (λ olds news. refl) (λ r new. or_false _) (λ db r h. no_clash _ h) refl refl (λ k v. refl)

pub meters_is : IsTableOf office meters meters.key meters.value
meters_is = record { is_form = meters_form; keyed = refl; valued = refl }

-- ---- prices

pub period_prices_form : IsFormIn office period_prices
period_prices_form =
    form_by period_prices settlement_period_total exact_settlement_periods settlement_period_codec (quantity_codec price_range) (inr (inr (inr (inr (inl refl))))) (λ k v. (cast_int _, (cast_int _, (cast_int _, refl))))
    refl (λ db. refl) refl refl refl (λ olds news. refl) (λ r new. or_false _) (λ db r h. no_clash _ h) refl refl (λ k v. refl)

pub period_prices_is : IsTableOf office period_prices period_prices.key period_prices.value
period_prices_is = record { is_form = period_prices_form; keyed = refl; valued = refl }

-- ---- references

pub references_form : IsFormIn office references
references_form =
    form_by references bytes_total exact_bytes reference_codec counterparties_codec (inr (inr (inr (inr (inr (inl refl)))))) (λ k v. (refl, (refl, (cast_int _, (refl, (cast_int _, refl))))))
    refl (λ db. refl) refl refl refl (λ olds news. refl) (λ r new. or_false _) (λ db r h. no_clash _ h) refl refl (λ k v. refl)

pub references_is : IsTableOf office references references.key references.value
references_is = record { is_form = references_form; keyed = refl; valued = refl }

-- ---- contracts

pub contracts_form : IsFormIn office contracts
contracts_form =
    form_by contracts contract_key_total exact_contract_keys contract_key_codec (quantity_codec volumes) (inr (inr (inr (inr (inr (inr (inl refl))))))) (λ k v. (refl, (cast_int _, (cast_int _, (cast_int _, refl)))))
    refl (λ db. refl) refl refl refl (λ olds news. refl) (λ r new. or_false _) (λ db r h. no_clash _ h) refl refl (λ k v. refl)

pub contracts_is : IsTableOf office contracts contracts.key contracts.value
contracts_is = record { is_form = contracts_form; keyed = refl; valued = refl }

-- ---- reallocations

pub reallocations_form : IsFormIn office reallocations
reallocations_form =
    form_by reallocations reallocation_key_total exact_reallocation_keys reallocation_key_codec reallocation_codec (inr (inr (inr (inr (inr (inr (inr (inl refl)))))))) (λ k v. (refl, (refl, (cast_int _, (cast_int _, (cast_int _, (cast_int _, (cast_int _, refl))))))))
    refl (λ db. refl) refl refl refl (λ olds news. refl) (λ r new. or_false _) (λ db r h. no_clash _ h) refl refl (λ k v. refl)

pub reallocations_is : IsTableOf office reallocations reallocations.key reallocations.value
reallocations_is = record { is_form = reallocations_form; keyed = refl; valued = refl }

-- ---- files

pub files_form : IsFormIn office files
files_form =
    form_by files file_key_total exact_file_keys file_key_codec file_codec (inr (inr (inr (inr (inr (inr (inr (inr (inl refl))))))))) (λ k v. (refl, (refl, (refl, (cast_int _, (cast_int _, refl))))))
    refl (λ db. refl) refl refl refl (λ olds news. refl) (λ r new. or_false _) (λ db r h. no_clash _ h) refl refl (λ k v. refl)

pub files_is : IsTableOf office files files.key files.value
files_is = record { is_form = files_form; keyed = refl; valued = refl }

-- ---- runs

pub runs_form : IsFormIn office runs
runs_form =
    form_by runs run_key_total exact_run_keys run_key_codec summary_codec (inr (inr (inr (inr (inr (inr (inr (inr (inr (inl refl)))))))))) (λ k v. (cast_int _, (cast_int _, (cast_int _, (cast_int _, (cast_int _, (cast_int _, refl)))))))
    refl (λ db. refl) refl refl refl (λ olds news. refl) (λ r new. or_false _) (λ db r h. no_clash _ h) refl refl (λ k v. refl)

pub runs_is : IsTableOf office runs runs.key runs.value
runs_is = record { is_form = runs_form; keyed = refl; valued = refl }

-- ---- results

pub results_form : IsFormIn office results
results_form =
    form_by results result_key_total exact_result_keys result_key_codec amounts_codec (inr (inr (inr (inr (inr (inr (inr (inr (inr (inr (inl refl))))))))))) (λ k v. (cast_int _, (cast_int _, (cast_int _, (refl, (cast_int _, (cast_int _, (cast_int _, (cast_int _, (cast_int _, (cast_int _, (cast_int _, refl))))))))))))
    refl (λ db. refl) refl refl refl (λ olds news. refl) (λ r new. or_false _) (λ db r h. no_clash _ h) refl refl (λ k v. refl)

pub results_is : IsTableOf office results results.key results.value
results_is = record { is_form = results_form; keyed = refl; valued = refl }

-- ---- credits

pub credits_form : IsFormIn office credits
credits_form =
    form_by credits credit_key_total exact_credit_keys credit_key_codec (quantity_codec energies) (inr (inr (inr (inr (inr (inr (inr (inr (inr (inr (inr (inl refl)))))))))))) (λ k v. (cast_int _, (cast_int _, (cast_int _, (refl, (refl, (cast_int _, (cast_int _, refl))))))))
    refl (λ db. refl) refl refl refl (λ olds news. refl) (λ r new. or_false _) (λ db r h. no_clash _ h) refl refl (λ k v. refl)

pub credits_is : IsTableOf office credits credits.key credits.value
credits_is = record { is_form = credits_form; keyed = refl; valued = refl }

-- ---- postings

pub postings_form : IsFormIn office postings
postings_form =
    form_by postings posting_key_total exact_posting_keys posting_key_codec (quantity_codec amounts_of_cash) (inr (inr (inr (inr (inr (inr (inr (inr (inr (inr (inr (inr (inl refl))))))))))))) (λ k v. (cast_int _, (cast_int _, (refl, (cast_int _, (cast_int _, refl))))))
    refl (λ db. refl) refl refl refl (λ olds news. refl) (λ r new. or_false _) (λ db r h. no_clash _ h) refl refl (λ k v. refl)

pub postings_is : IsTableOf office postings postings.key postings.value
postings_is = record { is_form = postings_form; keyed = refl; valued = refl }

-- ---- positions

pub positions_form : IsFormIn office positions
positions_form =
    form_by positions position_key_total exact_position_keys position_key_codec position_codec (inr (inr (inr (inr (inr (inr (inr (inr (inr (inr (inr (inr (inr (inl refl)))))))))))))) (λ k v. (cast_int _, (cast_int _, (refl, (cast_int _, (cast_int _, (cast_int _, refl)))))))
    refl (λ db. refl) refl refl refl (λ olds news. refl) (λ r new. or_false _) (λ db r h. no_clash _ h) refl refl (λ k v. refl)

pub positions_is : IsTableOf office positions positions.key positions.value
positions_is = record { is_form = positions_form; keyed = refl; valued = refl }

-- ---- touched

pub touched_form : IsFormIn office touched
touched_form =
    form_by touched settlement_period_total exact_settlement_periods settlement_period_codec no_columns_codec (inr (inr (inr (inr (inr (inr (inr (inr (inr (inr (inr (inr (inr (inr (inl refl))))))))))))))) (λ k v. (cast_int _, (cast_int _, refl)))
    refl (λ db. refl) refl refl refl (λ olds news. refl) (λ r new. or_false _) (λ db r h. no_clash _ h) refl refl (λ k v. refl)

pub touched_is : IsTableOf office touched touched.key touched.value
touched_is = record { is_form = touched_form; keyed = refl; valued = refl }

-- ---- marks

pub marks_form : IsFormIn office marks
marks_form =
    form_by marks one_row_total exact_one_rows one_row_codec mark_codec (inr (inr (inr (inr (inr (inr (inr (inr (inr (inr (inr (inr (inr (inr (inr (inl refl)))))))))))))))) (λ k v. (cast_int _, (cast_int _, refl)))
    refl (λ db. refl) refl refl refl (λ olds news. refl) (λ r new. or_false _) (λ db r h. no_clash _ h) refl refl (λ k v. refl)

pub marks_is : IsTableOf office marks marks.key marks.value
marks_is = record { is_form = marks_form; keyed = refl; valued = refl }
