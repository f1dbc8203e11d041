use Rattle.std.proofs.Common.{◌∙◌, length, refl, sym}
use Rattle.std.proofs.lemmas.Result.{IfOk-weaker}
use Rattle.hh_share.proofs.ShareFacts.{all_ones}
use Rattle.hh_share.proofs.shares.counted_weights.Goals as goal

pub returns-then-are_all_zero : goal.returns-then-are_all_zero
returns-then-are_all_zero c =
    let weights = c.args.weights.now in
    IfOk-weaker c.ones.result _ _ (λ v e. e ∙ all_ones (length weights) weights refl (sym c.are_all_zero.ensures ∙ c.if-are_all_zero.true)) c.ones.ensures
