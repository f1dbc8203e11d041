use Rattle.std.proofs.Common.{◌≤◌, ◌^◌, ◌∙◌, ap, cond, eqb, map, pos, refl, subst, sym, arith}
use Rattle.std.specs.Prelude.{◌+ℤ◌, unsigned_abs}
use Rattle.hh_devices.specs.DeviceChanges.{change}
use Rattle.hh_reports.specs.Nets.{cash_moved}
use Rattle.hh_reports.specs.Writers.{DayState, HasDay}
use Rattle.hh_reports.proofs.DayLaws.{day_given, day_refused, day_stopped}
use Rattle.hh_reports.proofs.OutputLaws.{told_back}
use Rattle.hh_reports.proofs.ReportLaws.{short_word}
use Rattle.hh_reports.proofs.day_report.DayReportWriter.row.Goals as goal

pub returns-in_err-row-clause-writes : goal.returns-in_err-row-clause-writes
returns-in_err-row-clause-writes g c = λ begun run rows has.
    let seen = subst (λ w. HasDay (change g.S.Sink.taken g.S.Sink.failures begun c.args.out.now) w run rows) (sym c.self.view_is) has in
    let upto = subst (λ (w : DayState). w.period ≤ c.args.period) (sym c.self.view_is) c.requires.in_order in
    day_refused _ _ _ _ _ run rows seen (c.args.period, c.args.row.now) upto c.number-number.ensures.range.0 _ _ c.from_residual.ensures.1

pub returns-in_err-write_row-clause-writes : goal.returns-in_err-write_row-clause-writes
returns-in_err-write_row-clause-writes g c = λ begun run rows has.
    let fault = c.in_err-write_row.field-0.0 in
    let seen = subst (λ w. HasDay (change g.S.Sink.taken g.S.Sink.failures begun c.args.out.now) w run rows) (sym c.self.view_is) has in
    let upto = subst (λ (w : DayState). w.period ≤ c.args.period) (sym c.self.view_is) c.requires.in_order in
    let few : unsigned_abs c.self.inside.charges ≤ 2 ^ 126 = omega (arith, c.self.invariant.0, c.self.invariant.1) in
    told_back _ _ _ fault _ c.from_residual-in_err-write_row.ensures.1
    (day_stopped _ _ _ _ _ run rows seen (c.args.period, c.args.row.now) upto c.number-number.ensures.range.0 _ _ fault
    (rw (c.number-number.ensures.value, short_word c.self.inside.charges few) at c.in_err-write_row.ensures))

pub returns-clause-writes : goal.returns-clause-writes
returns-clause-writes g c = λ begun run rows has.
    let seen = subst (λ w. HasDay (change g.S.Sink.taken g.S.Sink.failures begun c.args.out.now) w run rows) (sym c.self.view_is) has in
    let upto = subst (λ (w : DayState). w.period ≤ c.args.period) (sym c.self.view_is) c.requires.in_order in
    let fewer : unsigned_abs c.self.inside.charges ≤ 2 ^ 125 = omega (arith, c.self.invariant.0, c.self.invariant.1) in
    let few : unsigned_abs c.self.inside.charges ≤ 2 ^ 126 = omega arith in
    let real = short_word c.self.inside.charges few in
    let grown = rw real at c.charges_with-self-inside.ensures.small in
    let small : unsigned_abs c.charges_with-self-inside.result ≤ 2 ^ 126 = omega (arith, fewer, grown) in
    let summed = short_word c.charges_with-self-inside.result small ∙ (rw real at c.charges_with-self-inside.ensures.sum)
    ∙ ap (λ n. cond (eqb c.self.inside.period n) c.self.inside.charges (pos 0) +ℤ c.args.row.now.charge) c.number-number.ensures.value in
    day_given _ _ _ _ _ run rows seen (c.args.period, c.args.row.now) upto c.number-number.ensures.range.0 _ _ _ refl c.number-number.ensures.value summed
    (c.in_ok-row.ensures.sums (map cash_moved rows) seen.nets)
    (rw (c.number-number.ensures.value, real) at c.in_ok-write_row.ensures)
