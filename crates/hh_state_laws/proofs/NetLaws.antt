-- A Settlement Period settled by the net volumes of its accounts.
use Rattle.hh_share.specs.Shares.{shares}
use Rattle.hh_calc.specs.Formulas.{credits_of, weights}
use Rattle.hh_calc.specs.Terms.{settled_period}
use Rattle.hh_calc.proofs.NetLaws.{figures_alike, limits_alike, nets_sum, netted_ready, residual_alike}
use Rattle.hh_states.specs.Nets.{NetsSettleAlike, NetsSumToZero, NettedAreReady}
use Rattle.hh_states.specs.PeriodSettlement.{account_rows, in_credit_order}

pub nets_settle_alike : NetsSettleAlike
nets_settle_alike p up = (
  λ i. settled_period (account_rows (figures_alike p up i) (shares (residual_alike p up i) (weights p))) (in_credit_order (credits_of p.units)) (residual_alike p up i),
  limits_alike p up,
)

pub nets_sum_to_zero : NetsSumToZero
nets_sum_to_zero accounts rows up named = nets_sum accounts up rows named

pub netted_are_ready : NettedAreReady
netted_are_ready p rows = netted_ready p rows
