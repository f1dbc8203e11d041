use Rattle.std.proofs.Common.{◌∙◌}
use Rattle.std.specs.Ordering.{nat_cmp}
use Rattle.std.specs.Cmp.Lexicographic.{slice_cmp}
use Rattle.hh_names.proofs.WordFacts.{order_in_buffers}
use Rattle.hh_names.proofs.word.WordOrd.cmp.Goals as goal

pub returns : goal.returns
returns g c =
    let x = c.self.inside.bytes in
    let y = c.other.inside.bytes in
    c.order_of_bytes.ensures
    ∙ order_in_buffers g.A.Alphabet.allows g.row.LEAST g.row.MOST x y c.self.invariant c.other.invariant
    ∙ (λ i. slice_cmp nat_cmp (c.self.view_is i) (c.other.view_is i))
