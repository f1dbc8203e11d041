use Rattle.std.proofs.Common.{◌≡◌, rules}
use Rattle.hh_names.proofs.WordFacts.{invariant_written, word_written}
use Rattle.hh_names.proofs.word.Word.of.Goals as goal

pub invariant_of-result : goal.invariant_of-result
invariant_of-result g c = invariant_written g.A.Alphabet.allows g.met.A.Alphabet.no_zero g.row.LEAST g.row.MOST _ _ (search rules) c.requires

pub returns : goal.returns
returns g c =
    let copied : c.copy_from_slice.new.self ≡ c.args.text.now = search rules in
    word_written g.A.Alphabet.allows g.met.A.Alphabet.no_zero g.row.LEAST g.row.MOST _ _ copied c.requires
