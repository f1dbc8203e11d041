use Rattle.std.proofs.Common.{◌+◌, [], ◌∷◌, ◌++◌, drop, refl, subst, take}
use Rattle.hh_devices.specs.DeviceChanges.{change}
use Rattle.hh_reports.specs.Writers.{HasResults}
use Rattle.hh_reports.proofs.ListLaws.{next_place, whole}
use Rattle.hh_reports.proofs.OutputLaws.{told_out}
use Rattle.hh_reports.proofs.WriterLaws.{results_stopped}
use Rattle.hh_reports.proofs.exports.write_results.Goals as goal

pub returns-in_err-writer : goal.returns-in_err-writer
returns-in_err-writer g c =
    let fault = c.in_err-writer.field-0.0 in
    record { writes = told_out _ _ fault _ c.from_residual.ensures.1 (results_stopped _ c.args.run.now [] c.args.rows.now c.args.rows.now fault refl c.in_err-writer.ensures) }

pub returns-in_err-row : goal.returns-in_err-row
returns-in_err-row g c =
    let rows = c.args.rows.now in
    let i = c.loop-row.row-index in
    let row = c.row-item.result in
    let fault = c.in_err-row.field-0.0 in
    let now = c.in_err-row.ensures c.args.out.now c.args.run.now (take i rows) c.loop-row.invariant in
    record { writes = told_out _ _ fault _ c.from_residual-in_err-row.ensures.1 (results_stopped _ c.args.run.now (take i rows ++ row ∷ []) (drop (i + 1) rows) rows fault (whole rows i row c.loop-row-test.true c.row-item.is) now) }

pub loop-row-preserved : goal.loop-row-preserved
loop-row-preserved g c =
    let rows = c.args.rows.now in
    let i = c.loop-row.row-index in
    subst (λ given. HasResults (change g.S.Sink.taken g.S.Sink.failures c.args.out.now c.row.new.out) c.row.new.self c.args.run.now given)
    (next_place rows i c.row-item.result c.loop-row-test.true c.row-item.is)
    (c.in_ok-row.ensures c.args.out.now c.args.run.now (take i rows) c.loop-row.invariant)
