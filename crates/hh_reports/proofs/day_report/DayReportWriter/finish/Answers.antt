use Rattle.std.proofs.Common.{◌≤◌, ◌^◌, ◌∙◌, subst, sym, arith}
use Rattle.std.specs.Prelude.{unsigned_abs}
use Rattle.hh_devices.specs.DeviceChanges.{change}
use Rattle.hh_reports.specs.Writers.{HasDay}
use Rattle.hh_reports.proofs.DayLaws.{end_given, end_stopped}
use Rattle.hh_reports.proofs.OutputLaws.{finished, told_out}
use Rattle.hh_reports.proofs.ReportLaws.{short_word}
use Rattle.hh_reports.proofs.day_report.DayReportWriter.finish.Goals as goal

pub returns-in_err-write_end : goal.returns-in_err-write_end
returns-in_err-write_end g c = λ begun run rows has.
    let fault = c.in_err-write_end.field-0.0 in
    let seen = subst (λ w. HasDay (change g.S.Sink.taken g.S.Sink.failures begun c.args.out.now) w run rows) (sym c.self.view_is) has in
    let small : unsigned_abs c.self.inside.charges ≤ 2 ^ 126 = omega (arith, c.self.invariant.0, c.self.invariant.1) in
    told_out _ _ fault _ c.from_residual.ensures.1
    (end_stopped _ _ _ _ _ run rows seen c.rows.result.now (c.rows.ensures.value ∙ c.into_table-nets.ensures) _ _ fault (rw (short_word c.self.inside.charges small) at c.in_err-write_end.ensures))

pub returns : goal.returns
returns g c = λ begun run rows has.
    let seen = subst (λ w. HasDay (change g.S.Sink.taken g.S.Sink.failures begun c.args.out.now) w run rows) (sym c.self.view_is) has in
    let small : unsigned_abs c.self.inside.charges ≤ 2 ^ 126 = omega (arith, c.self.invariant.0, c.self.invariant.1) in
    finished _ _ _ _ _ _ _ _ _
    (end_given _ _ _ _ _ run rows seen c.rows.result.now (c.rows.ensures.value ∙ c.into_table-nets.ensures) _ _ _ (rw (short_word c.self.inside.charges small) at c.in_ok-write_end.ensures)) c.finish.ensures.sends
