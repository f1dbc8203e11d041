use Rattle.std.proofs.Common.{◌<◌, ◌^◌, subst, sym}
use Rattle.std.proofs.lemmas.Grind.{get_or_default_zero}
use Rattle.hh_share.proofs.PennyLaws.{sum_small, remainders_small}
use Rattle.hh_share.proofs.shares.quotas_of.Goals as goal

pub returns-clause-small : goal.returns-clause-small
returns-clause-small c =
    let ws = c.args.weights.now in
    remainders_small c.args.size (2 ^ 127) c.loop-weight.weight-index ws c.loop-weight.quotas.items c.requires.positive
    (sum_small ws (λ k d inside. subst (λ w. w < 2 ^ 64) (sym (get_or_default_zero ws k d inside)) (c.type_inv.weights k).fits) c.requires.few)
    c.loop-weight.invariant
