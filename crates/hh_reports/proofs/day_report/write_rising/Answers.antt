use Rattle.std.proofs.Common.{◌≤◌, ◌+◌, [], ◌∷◌, ◌++◌, drop, subst, sym, take}
use Rattle.std.proofs.lemmas.List.Sorted.{IsNonDecreasingBy-drop}
use Rattle.hh_devices.specs.DeviceChanges.{change}
use Rattle.hh_reports.specs.Writers.{HasDay}
use Rattle.hh_reports.proofs.DayLaws.{last_is, upto_more}
use Rattle.hh_reports.proofs.ListLaws.{next_place, whole}
use Rattle.hh_reports.proofs.OutputLaws.{told_out}
use Rattle.hh_reports.proofs.RisingLaws.{day_stopped_early, first_behind, heads_stopped, last_before, stays_up, StaysUp}
use Rattle.hh_reports.proofs.day_report.write_rising.Goals as goal

pub returns-in_err-writer : goal.returns-in_err-writer
returns-in_err-writer g c =
    let fault = c.in_err-writer.field-0.0 in
    told_out _ _ fault _ c.from_residual.ensures.1 (heads_stopped _ c.args.run.now c.args.rows.now fault c.in_err-writer.ensures)

pub row-requires-clause-in_order : goal.row-requires-clause-in_order
row-requires-clause-in_order g c =
    subst (λ p. p ≤ c.row-item.result.0) (sym c.loop-row.invariant.period)
    (last_before c.args.rows.now c.loop-row.row-index c.row-item.result c.requires c.loop-row-test.true c.row-item.is)

pub returns-in_err-row : goal.returns-in_err-row
returns-in_err-row g c =
    let rows = c.args.rows.now in
    let i = c.loop-row.row-index in
    let row = c.row-item.result in
    let fault = c.in_err-row.field-0.0 in
    let before = c.loop-row.invariant in
    let one = c.row.ensures.numbered in
    let up = last_before rows i row c.requires c.loop-row-test.true c.row-item.is in
    let rest = drop (i + 1) rows in
    let last = sym (last_is (take i rows) row) in
    let later = stays_up row.0 rest (IsNonDecreasingBy-drop (λ e. e.0) (i + 1) rows c.requires) (first_behind rows i row c.requires c.loop-row-test.true c.row-item.is) in
    told_out _ _ fault _ c.from_residual-in_err-row.ensures.1
    (day_stopped_early _ c.args.run.now (take i rows ++ row ∷ []) rest rows fault (whole rows i row c.loop-row-test.true c.row-item.is)
    (upto_more (take i rows) row before.in_order up one) (subst (λ p. 1 ≤ p) last one) (subst (λ p. StaysUp p rest) last later)
    (c.in_err-row.ensures.writes c.args.out.now c.args.run.now (take i rows) before))

pub loop-row-preserved : goal.loop-row-preserved
loop-row-preserved g c =
    let rows = c.args.rows.now in
    let i = c.loop-row.row-index in
    subst (λ given. HasDay (change g.S.Sink.taken g.S.Sink.failures c.args.out.now c.row.new.out) c.row.new.self c.args.run.now given)
    (next_place rows i c.row-item.result c.loop-row-test.true c.row-item.is)
    (c.in_ok-row.ensures.writes c.args.out.now c.args.run.now (take i rows) c.loop-row.invariant)
