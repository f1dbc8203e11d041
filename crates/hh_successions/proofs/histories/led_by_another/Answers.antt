use Rattle.hh_successions.proofs.SubsidiaryLaws.{led_by_another_account}
use Rattle.hh_successions.proofs.histories.led_by_another.Goals as goal

pub returns : goal.returns
returns c = led_by_another_account
