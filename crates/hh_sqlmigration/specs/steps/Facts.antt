-- The forms of the tables of version 1 that a step reads.
use Rattle.std.proofs.Common.{inl, inr, refl}
use Rattle.std.proofs.lemmas.Map.Lookups.{exact_bytes}
use Rattle.hh_names.proofs.AccountLaws.{bytes_total}
use Rattle.hh_keyed_rows.proofs.KeyCodecs.{one_row_codec, registered_unit_codec, settings_codec_of, unit_codec}
use Rattle.hh_keyed_rows.proofs.PutLaws.{cast_int}
use Rattle.hh_sqltables.specs.Texts.{IsFormIn, IsTableOf}
use Rattle.hh_sqltables.proofs.FormLaws.{no_clash, or_false}
use Rattle.hh_sqlrows.specs.Holds.{settings_of}
use Rattle.hh_sqlrows.specs.OfficeSchema.{office_of_one}
use Rattle.hh_sqlrows.specs.OfficeTables.{units}
use Rattle.hh_sqlrows.specs.facts.KeyOrders.{exact_one_rows, one_row_total}

units_form : IsFormIn office_of_one units
units_form = record {
  total = bytes_total;
  exact = exact_bytes;
  is_key = unit_codec;
  is_value = registered_unit_codec;
  listed = refl;
  there = inr (inr (inl refl));
  own = λ db. refl;
  unkeyed = refl;
  uncounted = refl;
  unstamped = refl;
  free = λ olds news. refl;
  indexed = λ r new. or_false _;
  unique = λ db r h. no_clash _ h;
  long = refl;
  present = refl;
  kinds = λ k v. (refl, (refl, (cast_int _, (cast_int _, (cast_int _, (cast_int _, refl))))));
  values = λ k v. refl;
}

pub units_of_one_is : IsTableOf office_of_one units units.key units.value
units_of_one_is = record { is_form = units_form; keyed = refl; valued = refl }

settings_form : IsFormIn office_of_one (settings_of 1)
settings_form = record {
  total = one_row_total;
  exact = exact_one_rows;
  is_key = one_row_codec;
  is_value = settings_codec_of 1;
  listed = refl;
  there = inl refl;
  own = λ db. refl;
  unkeyed = refl;
  uncounted = refl;
  unstamped = refl;
  free = λ olds news. refl;
  indexed = λ r new. or_false _;
  unique = λ db r h. no_clash _ h;
  long = refl;
  present = refl;
  kinds = λ k v. (cast_int _, (cast_int _, (cast_int _, (refl, refl))));
  values = λ k v. refl;
}

pub settings_of_one_is : IsTableOf office_of_one (settings_of 1) (settings_of 1).key (settings_of 1).value
settings_of_one_is = record { is_form = settings_form; keyed = refl; valued = refl }
