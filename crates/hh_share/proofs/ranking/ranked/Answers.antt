use Rattle.std.proofs.Common.{◌∙◌, ap, subst, sym, map}
use Rattle.std.specs.List.Sorted.{IsPermutation}
use Rattle.std.proofs.lemmas.Result.{IfOk-weaker}
use Rattle.hh_share.specs.Ranking.{places_in, AreRanked}
use Rattle.hh_share.proofs.RankingLaws.{places_once, places_ranked}
use Rattle.hh_share.proofs.ranking.ranked.Goals as goal

pub returns-clause-once : goal.returns-clause-once
returns-clause-once c =
    let rests = c.args.rests.now in
    let same = subst (λ xs. IsPermutation xs c.sorted-sorted.result.items) c.in_ok-placed.ensures c.sorted-sorted.ensures.same in
    IfOk-weaker c.places_of.result _ _ (λ v e. subst (IsPermutation (places_in rests)) (sym (e ∙ ap (map (λ a. a.0)) c.deref.ensures.value)) (places_once rests c.sorted-sorted.result.items same c.sorted-sorted.ensures.ordered)) c.places_of.ensures

pub returns-clause-ranks : goal.returns-clause-ranks
returns-clause-ranks c =
    let rests = c.args.rests.now in
    let same = subst (λ xs. IsPermutation xs c.sorted-sorted.result.items) c.in_ok-placed.ensures c.sorted-sorted.ensures.same in
    IfOk-weaker c.places_of.result _ _ (λ v e. subst (AreRanked rests) (sym (e ∙ ap (map (λ a. a.0)) c.deref.ensures.value)) (places_ranked rests c.sorted-sorted.result.items same c.sorted-sorted.ensures.ordered)) c.places_of.ensures
