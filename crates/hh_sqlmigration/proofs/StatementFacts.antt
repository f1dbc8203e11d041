-- What the texts of a step do.
use Rattle.std.proofs.Common.{[], ◌∷◌, inl, inr, map, refl}
use Rattle.sqlite.specs.Listing.{understood}
use Rattle.sqlite_tied.specs.Compute.{everything}
use Rattle.hh_keyed_rows.specs.Keys.{one_row_column}
use Rattle.hh_keyed_rows.proofs.KeyCodecs.{one_row_codec}
use Rattle.hh_sqltables.specs.Texts.{Defines, IsFinding, IsListing, IsOrderBy, IsPut}
use Rattle.hh_sqlrows.specs.Holds.{settings_of}
use Rattle.hh_sqlrows.specs.OfficeSchema.{leads_table, office, office_of_one}
use Rattle.hh_sqlrows.specs.OfficeTables.{settings, units}
use Rattle.hh_sqlrows.proofs.ColumnLaws.{one_row_ordered}
use Rattle.hh_sqlrows.proofs.OrderFacts.{units_by}
use Rattle.hh_sqlmigration.specs.declared.tables.TheConstants as texts

pub leads_made : Defines office_of_one office (record leads_table { tree = 0 }) texts.LEADS.now
unfolding understood everything
leads_made = record { command = refl; whole = refl; plain = (refl, refl); defined = refl; makes = refl; extends = refl; uncounted = refl }

pub units_of_one_put : IsPut office_of_one units texts.PUT_UNIT.now
unfolding understood everything
units_of_one_put = inr (inl (refl, (refl, refl)))

pub units_of_one_all : IsListing office_of_one units texts.ALL_UNITS.now
unfolding understood everything
units_of_one_all = record {
  order = 1 ∷ [];
  selects = record { names = map (λ c. c.name) units.table.columns; command = refl; unlisted = refl; plain = (refl, refl) };
  by = units_by;
}

settings_of_one_by : IsOrderBy (settings_of 1) (1 ∷ [])
settings_of_one_by = record { codec = one_row_column; is_codec = one_row_codec; ordered = one_row_ordered; wide = refl; stand = λ id k v. refl; most = 3; some = refl }

pub settings_of_one_put : IsPut office_of_one (settings_of 1) texts.PUT_SETTINGS.now
unfolding understood everything
settings_of_one_put = inl (refl, (refl, refl))

pub settings_of_one_one : IsFinding office_of_one (settings_of 1) texts.SETTINGS.now
unfolding understood everything
settings_of_one_one = record {
  places = 1 ∷ [];
  order = 1 ∷ [];
  selects = record { names = map (λ c. c.name) settings.table.columns; command = refl; unlisted = refl; plain = (refl, refl) };
  by = settings_of_one_by;
  narrow = refl;
  picked = λ id k v. refl;
}

pub settings_of_two_put : IsPut office settings texts.PUT_SETTINGS.now
unfolding understood everything
settings_of_two_put = inl (refl, (refl, refl))
