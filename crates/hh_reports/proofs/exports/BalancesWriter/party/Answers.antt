use Rattle.std.proofs.Common.{◌++◌, refl, subst, sym}
use Rattle.std.specs.Prelude.{ℤ}
use Rattle.hh_devices.specs.DeviceChanges.{change}
use Rattle.hh_names.specs.declared.account.Account.{Account}
use Rattle.hh_reports.specs.Exports.{party_lines}
use Rattle.hh_reports.specs.steps.Output.{Passes}
use Rattle.hh_reports.specs.Writers.{HasBalances}
use Rattle.hh_reports.proofs.NetLaws.{sums_found}
use Rattle.hh_reports.proofs.WriterLaws.{balances_party}
use Rattle.hh_reports.proofs.exports.BalancesWriter.party.Goals as goal

pub returns : goal.returns
returns g c = λ begun postings parties has.
    let seen = subst (λ w. HasBalances (change g.S.Sink.taken g.S.Sink.failures begun c.args.out.now) w postings parties) (sym c.self.view_is) has in
    let written = subst (λ (balance : Account → ℤ). Passes (change g.S.Sink.taken g.S.Sink.failures c.args.out.now c.write_party.new.out) c.write_party.new.page (c.self.inside.page ++ party_lines balance c.args.party) c.write_party.result)
    (sums_found postings c.self.inside.sums seen.sums) c.write_party.ensures in
    balances_party _ _ _ _ _ _ _ _ postings parties c.args.party c.write_party.result refl written seen
