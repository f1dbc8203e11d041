use Rattle.std.proofs.Common.{◌≡◌, ◌∙◌, map, option_map, rules, string_bytes}
use Rattle.hh_words.specs.KeyFiles.{file_with_key}
use Rattle.hh_words.proofs.PlainFacts.{none_seen, plain_names_none}
use Rattle.hh_words.proofs.key_files.file_with_key.Goals as goal

pub returns-clause-plain : goal.returns-clause-plain
returns-clause-plain c plain =
    let words = map string_bytes c.args.words.now in
    let path : option_map (λ path. path.now) c.path_named.result ≡ file_with_key words = search rules in
    none_seen _ _ (path ∙ plain_names_none words plain)
