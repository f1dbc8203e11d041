use Rattle.std.proofs.Common.{◌≡◌, ◌∙◌, ◌==◌, ap, length, not, rules, take, tests}
use Rattle.std.proofs.lemmas.Iterator.{YieldsList-from_slice}
use Rattle.std.proofs.lemmas.Iterator.Consumers.{count_from_yields_List}
use Rattle.std.proofs.lemmas.Iterator.Search.{YieldsList-from_take_while}
use Rattle.std.proofs.lemmas.List.Folds.{length-prefix_len}
use Rattle.std.specs.List.{before_first}
use Rattle.hh_words.proofs.key_files.before_line_feed.Goals as goal

pub returns : goal.returns
returns c =
    let bytes = c.args.bytes.now in
    let counted : c.count-end.result ≡ length (before_first (λ b. b == 10) bytes) =
    count_from_yields_List c.take_while.result c.count-end.result c.count-end.ensures.ran (YieldsList-from_take_while _ (λ b. not (b == 10)) (YieldsList-from_slice bytes cc) c.take_while.ensures.closure c.take_while.ensures.done (λ x r q k. search (rules, tests))) in
    ap (λ n. take n bytes) (counted ∙ length-prefix_len (λ b. not (b == 10)) bytes)
