use Rattle.hh_keyed_rows.proofs.FieldLaws.{account_codec, settlement_period_codec}
use Rattle.hh_keyed_rows.proofs.KeyCodecs.{contract_key_codec, credit_key_codec, file_key_codec, lead_key_codec, one_row_codec, position_key_codec, posting_key_codec, reallocation_key_codec, result_key_codec, run_key_codec, unit_period_codec}
use Rattle.hh_keyed_rows.proofs.laws.key_codecs.Goals as goal

pub returns : goal.returns
returns c = record {
  one_row = one_row_codec;
  accounts = account_codec;
  settlement_periods = settlement_period_codec;
  unit_periods = unit_period_codec;
  leads = lead_key_codec;
  contracts = contract_key_codec;
  reallocations = reallocation_key_codec;
  files = file_key_codec;
  runs = run_key_codec;
  results = result_key_codec;
  credits = credit_key_codec;
  postings = posting_key_codec;
  positions = position_key_codec;
}
