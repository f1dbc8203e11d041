use Rattle.hh_keyed_rows.proofs.FieldLaws.{counterparties_codec, range_codec}
use Rattle.hh_keyed_rows.proofs.KeyCodecs.{amounts_codec, file_codec, lead_term_codec, no_columns_codec, position_codec, reading_codec, reallocation_codec, registered_party_codec, registered_unit_codec, settings_codec_of, summary_codec}
use Rattle.hh_keyed_rows.proofs.laws.value_codecs.Goals as goal

pub returns : goal.returns
returns c = record {
  settings = settings_codec_of;
  ranges = range_codec;
  parties = registered_party_codec;
  units = registered_unit_codec;
  leads = lead_term_codec;
  counterparties = counterparties_codec;
  readings = reading_codec;
  reallocations = reallocation_codec;
  files = file_codec;
  summaries = summary_codec;
  amounts = amounts_codec;
  positions = position_codec;
  keys_alone = no_columns_codec;
}
