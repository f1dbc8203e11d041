use Rattle.std.proofs.Common.{◌≡◌, ◌∙◌, map, rules, string_bytes}
use Rattle.hh_words.specs.Options.{asks_explain, asks_strict, words_left}
use Rattle.hh_words.proofs.PlainFacts.{plain_explain, plain_left, plain_strict}
use Rattle.hh_words.proofs.options.take_options.Goals as goal

pub returns-clause-plain : goal.returns-clause-plain
returns-clause-plain c plain =
    let words = map string_bytes c.args.words.now in
    let explain : c.has_option.result ≡ asks_explain words = search rules in
    let strict : c.if-script.options ≡ asks_strict words = search rules in
    let left : map string_bytes c.push_without.new.left.items ≡ words_left words = search rules in
    (explain ∙ plain_explain words plain, strict ∙ plain_strict words plain, left ∙ plain_left words plain)
