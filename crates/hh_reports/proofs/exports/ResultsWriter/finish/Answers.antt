use Rattle.std.proofs.Common.{subst, sym}
use Rattle.hh_devices.specs.DeviceChanges.{change}
use Rattle.hh_reports.specs.Writers.{HasResults}
use Rattle.hh_reports.proofs.OutputLaws.{finished}
use Rattle.hh_reports.proofs.exports.ResultsWriter.finish.Goals as goal

pub returns : goal.returns
returns g c = λ begun run rows has.
    let seen = subst (λ w. HasResults (change g.S.Sink.taken g.S.Sink.failures begun c.args.out.now) w run rows) (sym c.self.view_is) has in
    finished _ _ _ _ _ _ _ _ _ seen.sent c.finish.ensures.sends
