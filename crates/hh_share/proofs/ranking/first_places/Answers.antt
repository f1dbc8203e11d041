use Rattle.std.proofs.Common.{rules, ap, arith, length, map, subst, sym, ◌∙◌, ◌≡◌}
use Rattle.std.specs.Ordering.{is_lt}
use Rattle.std.proofs.lemmas.List.FromFn.{length-enumerate_from}
use Rattle.std.proofs.lemmas.List.Sorted.{answers_always, ranks_by}
use Rattle.std.proofs.lemmas.Result.{IfOk-weaker}
use Rattle.hh_share.specs.Ranking.{rest_cmp}
use Rattle.hh_share.specs.steps.Ranking.{AreFirst}
use Rattle.hh_share.proofs.RankingLaws.{all_first, cut_first, rest_total}
use Rattle.hh_share.proofs.ranking.first_places.Goals as goal

pub returns-then-count-len : goal.returns-then-count-len
returns-then-count-len c =
    let rests = c.args.rests.now in
    let placed = c.in_ok-placed.placed.items in
    let many : c.args.count ≡ length placed = search rules in
    IfOk-weaker c.places_of.result _ _ (λ v e. subst (AreFirst rests c.args.count) (sym (e ∙ ap (map (λ a. a.0)) c.deref.ensures.value)) (all_first rests c.args.count placed c.in_ok-placed.ensures many)) c.places_of.ensures

pub select_nth_unstable_by-first-requires-clause-in_bounds : goal.select_nth_unstable_by-first-requires-clause-in_bounds
select_nth_unstable_by-first-requires-clause-in_bounds c =
    let many = ap length (c.deref_mut.ensures.value ∙ c.in_ok-placed.ensures) ∙ length-enumerate_from 0 c.args.rests.now in
    let read : c.len.result ≡ length c.deref_mut.result.now = search rules in
    let few = c.requires in
    let other = c.if-count-len.false in
    omega arith

pub returns : goal.returns
returns c =
    let rests = c.args.rests.now in
    let picked = c.select_nth_unstable_by-first in
    let split = picked.ensures.partitioned (λ x y. is_lt (rest_cmp x y)) (ranks_by rest_total (λ a. a)) (answers_always _ _ _ (λ f a r f' k. search rules)) in
    let first : AreFirst rests c.args.count (map (λ a. a.0) picked.result.0.now) =
    cut_first rests c.args.count c.deref_mut.result.now picked.result.0.now picked.result.1.now picked.result.2.now (c.deref_mut.ensures.value ∙ c.in_ok-placed.ensures)
    picked.ensures.permutation picked.ensures.front_len split in
    IfOk-weaker c.places_of-2.result _ _ (λ v e. subst (AreFirst rests c.args.count) (sym e) first) c.places_of-2.ensures
