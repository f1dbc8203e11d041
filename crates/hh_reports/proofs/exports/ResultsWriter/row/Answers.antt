use Rattle.std.proofs.Common.{refl, subst, sym}
use Rattle.hh_devices.specs.DeviceChanges.{change}
use Rattle.hh_reports.specs.Writers.{HasResults}
use Rattle.hh_reports.proofs.WriterLaws.{results_row}
use Rattle.hh_reports.proofs.exports.ResultsWriter.row.Goals as goal

pub returns : goal.returns
returns g c = λ begun run rows has.
    let seen = subst (λ w. HasResults (change g.S.Sink.taken g.S.Sink.failures begun c.args.out.now) w run rows) (sym c.self.view_is) has in
    results_row _ _ _ _ _ _ _ _ run rows (c.args.period, c.args.row.now) c.write_result.result refl c.write_result.ensures seen
