use Rattle.std.proofs.Common.{◌≡◌, true, false, refl, IsSome, codes}
use Rattle.jiff.specs.Words.{read_whole}
use Rattle.jiff.proofs.OnLiterals.{jiff_on_literals}
use Rattle.hh_time.proofs.zone.london.Goals as goal

reads : IsSome (read_whole (codes "GMT0BST,M3.5.0/1,M10.5.0"))
unfolding jiff_on_literals
reads = refl

pub unreachable-requires : goal.unreachable-requires
unreachable-requires c =
    let bad : false ≡ true = c.in-Err.ensures.succeeds.1 reads in
    (cc)
