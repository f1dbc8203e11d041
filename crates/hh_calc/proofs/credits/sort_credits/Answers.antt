use Rattle.std.proofs.Common.{rules}
use Rattle.std.specs.Ordering.{is_lt}
use Rattle.std.proofs.lemmas.List.Sorted.{answers_always, ranks_by}
use Rattle.hh_calc.specs.Settled.{credit_cmp}
use Rattle.hh_calc.proofs.CreditFacts.{credit_total}
use Rattle.hh_calc.proofs.credits.sort_credits.Goals as goal

pub returns-clause-ordered : goal.returns-clause-ordered
returns-clause-ordered c =
    c.sort_unstable_by.ensures.sorted (λ x y. is_lt (credit_cmp x y)) (ranks_by credit_total (λ r. r))
    (answers_always _ _ _ (λ f a r f' k. search rules))
