-- The texts that make the tables of an office, and what they mean under the schema of the tables before them.
use Rattle.std.proofs.Common.{◌≡◌, ◌<◌, ◌+◌, ℕ, zero, suc, [], arith, refl, slice_index_or}
use Rattle.sqlite_schema.specs.declared.schema.Table.{Table}
use Rattle.sqlite.specs.Listing.{understood}
use Rattle.sqlite_tied.specs.Compute.{everything}
use Rattle.hh_sqltables.specs.Texts.{Defines}
use Rattle.hh_sqlrows.specs.OfficeSchema.{office, office_tables, settings_table}
use Rattle.hh_sqlrows.specs.Making.{schema_up_to}
use Rattle.hh_sqlrows.specs.steps.MakingTexts.{texts}

-- a table as its text says it, without a tree
abbrev pub table_at : ℕ → Table
table_at at = record (slice_index_or office_tables at settings_table) { tree = 0 }

abbrev Facts : ℕ → Type 0
Facts at = Defines (schema_up_to at) (schema_up_to (at + 1)) (table_at at) (slice_index_or texts at [])

settings_is : Facts 0
unfolding understood everything
settings_is = record { command = refl; whole = refl; plain = (refl, refl); defined = refl; makes = refl; extends = refl; uncounted = refl }

parties_is : Facts 1
unfolding understood everything
parties_is = record { command = refl; whole = refl; plain = (refl, refl); defined = refl; makes = refl; extends = refl; uncounted = refl }

units_is : Facts 2
unfolding understood everything
units_is = record { command = refl; whole = refl; plain = (refl, refl); defined = refl; makes = refl; extends = refl; uncounted = refl }

meters_is : Facts 3
unfolding understood everything
meters_is = record { command = refl; whole = refl; plain = (refl, refl); defined = refl; makes = refl; extends = refl; uncounted = refl }

prices_is : Facts 4
unfolding understood everything
prices_is = record { command = refl; whole = refl; plain = (refl, refl); defined = refl; makes = refl; extends = refl; uncounted = refl }

references_is : Facts 5
unfolding understood everything
references_is = record { command = refl; whole = refl; plain = (refl, refl); defined = refl; makes = refl; extends = refl; uncounted = refl }

contracts_is : Facts 6
unfolding understood everything
contracts_is = record { command = refl; whole = refl; plain = (refl, refl); defined = refl; makes = refl; extends = refl; uncounted = refl }

reallocations_is : Facts 7
unfolding understood everything
reallocations_is = record { command = refl; whole = refl; plain = (refl, refl); defined = refl; makes = refl; extends = refl; uncounted = refl }

files_is : Facts 8
unfolding understood everything
files_is = record { command = refl; whole = refl; plain = (refl, refl); defined = refl; makes = refl; extends = refl; uncounted = refl }

runs_is : Facts 9
unfolding understood everything
runs_is = record { command = refl; whole = refl; plain = (refl, refl); defined = refl; makes = refl; extends = refl; uncounted = refl }

results_is : Facts 10
unfolding understood everything
results_is = record { command = refl; whole = refl; plain = (refl, refl); defined = refl; makes = refl; extends = refl; uncounted = refl }

credits_is : Facts 11
unfolding understood everything
credits_is = record { command = refl; whole = refl; plain = (refl, refl); defined = refl; makes = refl; extends = refl; uncounted = refl }

postings_is : Facts 12
unfolding understood everything
postings_is = record { command = refl; whole = refl; plain = (refl, refl); defined = refl; makes = refl; extends = refl; uncounted = refl }

positions_is : Facts 13
unfolding understood everything
positions_is = record { command = refl; whole = refl; plain = (refl, refl); defined = refl; makes = refl; extends = refl; uncounted = refl }

touched_is : Facts 14
unfolding understood everything
touched_is = record { command = refl; whole = refl; plain = (refl, refl); defined = refl; makes = refl; extends = refl; uncounted = refl }

marks_is : Facts 15
unfolding understood everything
marks_is = record { command = refl; whole = refl; plain = (refl, refl); defined = refl; makes = refl; extends = refl; uncounted = refl }

leads_is : Facts 16
unfolding understood everything
leads_is = record { command = refl; whole = refl; plain = (refl, refl); defined = refl; makes = refl; extends = refl; uncounted = refl }

-- each statement makes its table after those before it
pub defines : (at : ℕ) → at < 17 → Facts at
defines zero h = settings_is
defines (suc zero) h = parties_is
defines (suc (suc zero)) h = units_is
defines (suc (suc (suc zero))) h = meters_is
defines (suc (suc (suc (suc zero)))) h = prices_is
defines (suc (suc (suc (suc (suc zero))))) h = references_is
defines (suc (suc (suc (suc (suc (suc zero)))))) h = contracts_is
defines (suc (suc (suc (suc (suc (suc (suc zero))))))) h = reallocations_is
defines (suc (suc (suc (suc (suc (suc (suc (suc zero)))))))) h = files_is
defines (suc (suc (suc (suc (suc (suc (suc (suc (suc zero))))))))) h = runs_is
defines (suc (suc (suc (suc (suc (suc (suc (suc (suc (suc zero)))))))))) h = results_is
defines (suc (suc (suc (suc (suc (suc (suc (suc (suc (suc (suc zero))))))))))) h = credits_is
defines (suc (suc (suc (suc (suc (suc (suc (suc (suc (suc (suc (suc zero)))))))))))) h = postings_is
defines (suc (suc (suc (suc (suc (suc (suc (suc (suc (suc (suc (suc (suc zero))))))))))))) h = positions_is
defines (suc (suc (suc (suc (suc (suc (suc (suc (suc (suc (suc (suc (suc (suc zero)))))))))))))) h = touched_is
defines (suc (suc (suc (suc (suc (suc (suc (suc (suc (suc (suc (suc (suc (suc (suc zero))))))))))))))) h = marks_is
defines (suc (suc (suc (suc (suc (suc (suc (suc (suc (suc (suc (suc (suc (suc (suc (suc zero)))))))))))))))) h = leads_is
defines (suc (suc (suc (suc (suc (suc (suc (suc (suc (suc (suc (suc (suc (suc (suc (suc (suc at))))))))))))))))) h = absurd (omega (arith, h))

-- the tables that are made one after the other are those of an office
pub all_made : schema_up_to 17 ≡ office
unfolding everything
all_made = refl
