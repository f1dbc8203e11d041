use Rattle.std.proofs.Common.{rules}
use Rattle.std.proofs.lemmas.List.Sorted.{IsPermutation-trans}
use Rattle.hh_calc.specs.Settled.{IsSettled}
use Rattle.hh_calc.proofs.PeriodLaws.{adds_up, shares_least}
use Rattle.hh_calc.proofs.settle.settle_period.Goals as goal

pub returns-clause-settled : goal.returns-clause-settled
returns-clause-settled c =
    let credits = IsPermutation-trans _ _ _ c.in_ok-ledger.ensures.credits c.sorted_credits.ensures.same in
    search (rules, credits)

pub returns-clause-sums : goal.returns-clause-sums
returns-clause-sums c =
    let credits = IsPermutation-trans _ _ _ c.in_ok-ledger.ensures.credits c.sorted_credits.ensures.same in
    let settled : IsSettled c.args.period.now c.new.result = search (rules, credits) in
    adds_up c.args.period.now c.new.result c.requires.ordered c.requires.listed settled

pub returns-clause-least : goal.returns-clause-least
returns-clause-least c =
    let credits = IsPermutation-trans _ _ _ c.in_ok-ledger.ensures.credits c.sorted_credits.ensures.same in
    let settled : IsSettled c.args.period.now c.new.result = search (rules, credits) in
    shares_least c.args.period.now c.new.result settled
