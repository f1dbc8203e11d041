use Rattle.std.proofs.Common.{subst, sym}
use Rattle.std.proofs.lemmas.Str.{IsUtf8-from_ascii}
use Rattle.std.specs.Prelude.{IsUtf8}
use Rattle.hh_names.proofs.WordFacts.{word_is_ascii}
use Rattle.hh_names.proofs.word.Word.as_str.Goals as goal

pub unreachable-requires : goal.unreachable-requires
unreachable-requires g c =
    let word = c.args.self.now in
    let ascii = word_is_ascii g.A.Alphabet.allows g.met.A.Alphabet.ascii g.row.LEAST g.row.MOST word c.as_bytes.ensures.word in
    c.in-Err.ensures.cases.0 (subst IsUtf8 (sym c.as_bytes.ensures.bytes) (IsUtf8-from_ascii word ascii))
