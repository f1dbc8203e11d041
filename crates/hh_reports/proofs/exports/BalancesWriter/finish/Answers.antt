use Rattle.std.proofs.Common.{subst, sym}
use Rattle.hh_devices.specs.DeviceChanges.{change}
use Rattle.hh_reports.specs.Writers.{HasBalances}
use Rattle.hh_reports.proofs.OutputLaws.{finished}
use Rattle.hh_reports.proofs.exports.BalancesWriter.finish.Goals as goal

pub returns : goal.returns
returns g c = λ begun postings parties has.
    let seen = subst (λ w. HasBalances (change g.S.Sink.taken g.S.Sink.failures begun c.args.out.now) w postings parties) (sym c.self.view_is) has in
    finished _ _ _ _ _ _ _ _ _ seen.sent c.finish.ensures.sends
