use Rattle.std.proofs.Common.{◌≡◌, ◌==◌, map}
use Rattle.std.specs.Prelude.{filter}
use Rattle.std.specs.Option.{IfSome}
use Rattle.std.specs.Ordering.{eq_by_cmp, is_eq, nat_cmp}
use Rattle.sqlite.specs.Effect.{Database}
use Rattle.sqlite.specs.Held.{state}
use Rattle.hh_states.specs.Runs.{last_of, run_key_cmp}
use Rattle.hh_sqlrows.specs.Contents.{result_of, touched_periods}
use Rattle.hh_sqlrows.specs.Forms.{rows_under_keys}
use Rattle.hh_sqlrows.specs.OfficeTables as tables
use Rattle.hh_sqlparts.proofs.BesideLaws.{selected_beside}
use Rattle.hh_sqlparts.proofs.ReadingLaws.{only, found_both, only_one, reading_then}
use Rattle.hh_sqlparts.proofs.day_beside.select_day_beside.Goals as goal

pub returns-clause-value : goal.returns-clause-value
returns-clause-value g c settings stands office settled =
    let date = c.args.date in
    let s0 = state g.S.Store c.args.conn.now in
    let s1 = state g.S.Store c.latest_on.new.conn in
    let s2 = state g.S.Store c.results_of_latest.new.conn in
    let s3 = state g.S.Store c.credits_of_latest.new.conn in
    let s4 = state g.S.Store c.positions_on.new.conn in
    let s5 = state g.S.Store c.select_touched_on.new.conn in
    let latest = c.in_ok-latest.ensures in
    let results = c.in_ok-results.ensures in
    let credits = c.in_ok-credits.ensures in
    let positions = c.in_ok-positions.ensures in
    let touched = c.in_ok-touched.ensures in
    let last = only_one s4 s5 _ touched.frame in
    let P1 : Database → Type 0 = λ db. c.in_ok-latest.latest ≡ last_of (filter (λ e. e.0.date == date) (rows_under_keys tables.runs db.trees)) in
    let P2 : Database → Type 0 = λ db. IfSome c.in_ok-latest.latest (λ run. c.in_ok-results.results ≡ filter (λ e. eq_by_cmp run_key_cmp e.0.run run.0) (map result_of (rows_under_keys tables.results db.trees))) in
    let P3 : Database → Type 0 = λ db. IfSome c.in_ok-latest.latest (λ run. c.in_ok-credits.credits ≡ filter (λ e. eq_by_cmp run_key_cmp e.0.run run.0) (rows_under_keys tables.credits db.trees)) in
    let P4 : Database → Type 0 = λ db. c.in_ok-positions.positions ≡ filter (λ e. is_eq (nat_cmp e.0.at.date date)) (rows_under_keys tables.positions db.trees) in
    let P5 : Database → Type 0 = λ db. c.in_ok-touched.touched.items ≡ filter (λ at. at.date == date) (touched_periods db.trees) in
    let r4 = reading_then s3 s4 s5 (only _ _ _ positions.frame) last in
    let r3 = reading_then s2 s3 s5 (only _ _ _ credits.frame) r4 in
    let r2 = reading_then s1 s2 s5 (only _ _ _ results.frame) r3 in
    let f4 = found_both s3 s4 s5 (only _ _ _ positions.frame) last P4 P5 (λ stands office _. positions.value stands office) (λ stands office _. touched.value stands office) in
    let f3 = found_both s2 s3 s5 (only _ _ _ credits.frame) r4 P3 (λ db. P4 db × P5 db) (λ stands office _. credits.value stands office) f4 in
    let f2 = found_both s1 s2 s5 (only _ _ _ results.frame) r3 P2 (λ db. P3 db × (P4 db × P5 db)) (λ stands office _. results.value stands office) f3 in
    let f1 = found_both s0 s1 s5 (only _ _ _ latest.frame) r2 P1 (λ db. P2 db × (P3 db × (P4 db × P5 db))) (λ stands office _. latest.value stands office) f2 in
    let all = f1 stands office settled in
    selected_beside settings s0.now.trees date _ all.0 all.1.0 all.1.1.0 all.1.1.1.0 all.1.1.1.1
