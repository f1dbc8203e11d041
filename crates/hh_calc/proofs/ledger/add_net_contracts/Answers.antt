use Rattle.std.proofs.Common.{◌≡◌, ◌+◌, ◌*◌, arith, ap, length, subst, sym, ◌∙◌}
use Rattle.hh_calc.specs.Ready.{AreContractsReady}
use Rattle.hh_calc.specs.Terms.{contracts_given, Rows}
use Rattle.hh_calc.specs.steps.Sums.{greatest_credit, greatest_sum, greatest_unit_sum, greatest_volume}
use Rattle.hh_calc.proofs.SumLaws.{all_within}
use Rattle.hh_calc.proofs.ledger.add_net_contracts.Goals as goal

pub add_contracts-requires-clause-listed : goal.add_contracts-requires-clause-listed
add_contracts-requires-clause-listed c =
    let seen : contracts_given c.args.contracts.now ≡ Rows c.deref.result.now = ap contracts_given c.in-Rows.is ∙ ap Rows (sym c.deref.ensures.value) in
    subst (AreContractsReady c.args.accounts.now) seen c.requires.ready

pub returns-in-Rows-clause-small : goal.returns-in-Rows-clause-small
returns-in-Rows-clause-small c =
    all_within (greatest_unit_sum + length c.deref.result.now * (2 * greatest_volume)) greatest_sum c.add_contracts.new.sums (omega arith)
    (c.add_contracts.ensures.grown greatest_unit_sum c.requires.room)

pub returns-in-Net-clause-small : goal.returns-in-Net-clause-small
returns-in-Net-clause-small c =
    all_within (greatest_unit_sum + length c.args.accounts.now * greatest_credit) greatest_sum c.add_nets.new.sums (omega arith)
    (c.add_nets.ensures.grown greatest_unit_sum c.requires.room)
