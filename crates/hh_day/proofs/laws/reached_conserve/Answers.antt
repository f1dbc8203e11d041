use Rattle.hh_day.proofs.ConserveLaws.{reached_conserve}
use Rattle.hh_day.proofs.laws.reached_conserve.Goals as goal

pub returns : goal.returns
returns c =
    reached_conserve c.kept_results.ensures c.contracts_sum_to_zero.ensures c.cash_sums_to_zero.ensures c.each_unit_credited.ensures c.postings_total.ensures
    c.day_nets_from_results.ensures c.run_postings_balance.ensures
