use Rattle.std.proofs.Common.{[], ◌++◌}
use Rattle.hh_names.specs.declared.account.Account.{Account}
use Rattle.hh_names.specs.declared.account.Side.TheVariants.{Consumption, Production}
use Rattle.hh_reports.specs.Exports.{balance_line}
use Rattle.hh_reports.specs.steps.Nets.{sum_in}
use Rattle.hh_reports.proofs.OutputLaws.{at_the_end, stopped_before, told_on, written_on}
use Rattle.hh_reports.proofs.exports.write_party.Goals as goal

pub returns-in_err-write_balance : goal.returns-in_err-write_balance
returns-in_err-write_balance g c =
    let sums = sum_in c.args.sums.now in
    let production : Account = record { party = c.args.party; side = Production } in
    let consumption : Account = record { party = c.args.party; side = Consumption } in
    let first = balance_line production (sums production) in
    let second = balance_line consumption (sums consumption) in
    told_on _ c.write_balance.new.page _ c.in_err-write_balance.field-0.0 _ c.from_residual.ensures.1
    (stopped_before _ c.args.page.now first (second ++ []) c.in_err-write_balance.field-0.0 c.in_err-write_balance.ensures)

pub returns : goal.returns
returns g c =
    let sums = sum_in c.args.sums.now in
    let production : Account = record { party = c.args.party; side = Production } in
    let consumption : Account = record { party = c.args.party; side = Consumption } in
    let first = balance_line production (sums production) in
    let second = balance_line consumption (sums consumption) in
    written_on _ _ _ c.args.page.now _ c.write_balance-2.new.page _ _ _ first (second ++ []) c.write_balance-2.result c.in_ok-write_balance.ensures
    (at_the_end _ _ _ second c.write_balance-2.result c.write_balance-2.ensures)
