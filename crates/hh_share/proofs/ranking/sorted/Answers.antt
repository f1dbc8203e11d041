use Rattle.std.proofs.Common.{rules}
use Rattle.std.specs.Ordering.{is_lt}
use Rattle.std.proofs.lemmas.List.Sorted.{answers_always, ranks_by}
use Rattle.hh_share.specs.Ranking.{rest_cmp}
use Rattle.hh_share.proofs.RankingLaws.{rest_total}
use Rattle.hh_share.proofs.ranking.sorted.Goals as goal

pub returns-clause-ordered : goal.returns-clause-ordered
returns-clause-ordered c =
    c.sort_unstable_by.ensures.sorted (λ x y. is_lt (rest_cmp x y)) (ranks_by rest_total (λ a. a))
    (answers_always _ _ _ (λ f a r f' k. search rules))
