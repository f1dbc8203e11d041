use Rattle.std.proofs.Common.{◌≡◌, length, take, ap, ◌∙◌, rules, tests}
use Rattle.std.proofs.lemmas.Iterator.{YieldsList-from_slice}
use Rattle.std.proofs.lemmas.Iterator.Consumers.{count_from_yields_List}
use Rattle.std.proofs.lemmas.Iterator.Search.{YieldsList-from_take_while}
use Rattle.std.proofs.lemmas.List.Folds.{length-prefix_len}
use Rattle.hh_names.specs.Words.{is_not_zero, word_in}
use Rattle.hh_names.proofs.word.Word.as_bytes.Goals as goal

pub returns-clause-bytes : goal.returns-clause-bytes
returns-clause-bytes g c =
    let buffer = c.self.inside.bytes in
    let counted : c.count-len.result ≡ length (word_in buffer) =
    count_from_yields_List c.take_while.result _ c.count-len.ensures.ran (YieldsList-from_take_while _ is_not_zero (YieldsList-from_slice buffer cc) c.take_while.ensures.closure c.take_while.ensures.done (λ x r q k. search (rules, tests))) in
    ap (λ n. take n buffer) (counted ∙ length-prefix_len is_not_zero buffer) ∙ c.self.view_is
