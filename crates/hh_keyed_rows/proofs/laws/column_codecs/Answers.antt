use Rattle.hh_keyed_rows.proofs.CodecLaws.{blob_codec}
use Rattle.hh_keyed_rows.proofs.FieldLaws.{date_codec, file_kind_codec, lead_minutes_codec, mark_codec, number_codec, operator_key_codec, period_codec, run_kind_codec, side_codec, word_codec}
use Rattle.hh_keyed_rows.proofs.KeyCodecs.{quantity_codec}
use Rattle.hh_keyed_rows.proofs.laws.column_codecs.Goals as goal

pub returns : goal.returns
returns c = record {
  words = word_codec;
  operator_keys = operator_key_codec;
  numbers = number_codec;
  quantities = quantity_codec;
  dates = date_codec;
  periods = period_codec;
  lead_minutes = lead_minutes_codec;
  sides = side_codec;
  marks = mark_codec;
  run_kinds = run_kind_codec;
  file_kinds = file_kind_codec;
  bytes = blob_codec;
}
