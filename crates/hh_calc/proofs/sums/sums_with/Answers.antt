use Rattle.std.proofs.Common.{◌+◌}
use Rattle.hh_calc.proofs.SumFacts.{sum_word}
use Rattle.hh_calc.proofs.sums.sums_with.Goals as goal

pub returns : goal.returns
returns c = λ i. record {
  credited = sum_word c.args.held.credited c.args.amounts.credited c.requires.held.credited c.requires.amounts.credited i;
  balancing = sum_word c.args.held.balancing c.args.amounts.balancing c.requires.held.balancing c.requires.amounts.balancing i;
  contracts = sum_word c.args.held.contracts c.args.amounts.contracts c.requires.held.contracts c.requires.amounts.contracts i;
  weight = c.args.held.weight + c.args.amounts.weight;
}
