-- The headline sums, put together.
use Rattle.std.proofs.Common.{◌≡◌, List, [], ◌∷◌, refl, sym, ◌∙◌, true, false, cond}
use Rattle.std.specs.Prelude.{ℤ, ◌+ℤ◌, is_some, Some}
use Rattle.std.specs.List.{AllByRecursion}
use Rattle.hh_num.specs.Totals.{total}
use Rattle.hh_runs.specs.DayNets.{day_net_of}
use Rattle.hh_states.specs.Content.{tables_of}
use Rattle.hh_states.specs.Reads.{results_in}
use Rattle.hh_states.specs.RunReads.{DayNetsFromResults, HoldsResults, paid_in}
use Rattle.hh_states.specs.Runs.{Run, latest_run, nets_of}
use Rattle.hh_states.specs.Steps.{timetable_at}
use Rattle.hh_states.specs.Sums.{CashSumsToZero, ContractsSumToZero, EachUnitCredited, PostingsTotal, RunPostingsSumToZero, latest_runs}
use Rattle.hh_day.specs.Headline.{ReachedConserve}
use Rattle.hh_day.proofs.AccountLaws.{each_account_settled}

-- if two amounts are the same for each run, their sums over the latest runs of all dates are the same
same_over_latest : (f g : Run → ℤ) (runs : List Run) → AllByRecursion (λ r. f r ≡ g r) runs → total f (latest_runs runs) ≡ total g (latest_runs runs)
same_over_latest f g [] same = refl
same_over_latest f g (r ∷ runs) same =
    let rest : total f (latest_runs runs) ≡ total g (latest_runs runs) = same_over_latest f g runs same.1 in
    elim (is_some (latest_run r.key.date runs)) as (λ b. total f (cond b (latest_runs runs) (r ∷ latest_runs runs)) ≡ total g (cond b (latest_runs runs) (r ∷ latest_runs runs))) [
      | true ↦ rest
      | false ↦ λ i. same.0 i +ℤ rest i
    ]

-- the headline sums hold for the tables of each reached state
pub reached_conserve : HoldsResults → ContractsSumToZero → CashSumsToZero → EachUnitCredited → PostingsTotal → DayNetsFromResults → RunPostingsSumToZero → ReachedConserve
reached_conserve held contracts cash credited posted from_results balanced midnight s reached = record {
  accounts = each_account_settled midnight s held reached;
  contracts = λ run period. contracts midnight s run period reached;
  cash = λ run period. cash midnight s run period reached;
  credits = credited midnight s reached;
  postings = λ a. posted midnight s a reached
      ∙ sym (same_over_latest (λ r. paid_in a (results_in (tables_of midnight s) r.key)) (λ r. day_net_of (nets_of (timetable_at midnight s) s.history (Some r)) a) s.runs (from_results midnight s a reached));
  balanced = λ run. balanced midnight s run reached;
}
