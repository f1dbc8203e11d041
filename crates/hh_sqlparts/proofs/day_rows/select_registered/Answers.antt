use Rattle.std.proofs.Common.{◌≡◌, ◌∙◌, rules, arith}
use Rattle.std.proofs.lemmas.Grind.{common_steps}
use Rattle.sqlite.specs.Effect.{Database}
use Rattle.sqlite.specs.Held.{state}
use Rattle.hh_sqlrows.specs.Contents.{registered_of}
use Rattle.hh_sqlrows.specs.Forms.{rows_under_keys}
use Rattle.hh_sqlrows.specs.OfficeTables as tables
use Rattle.hh_sqlparts.specs.steps.Named.{prices_of}
use Rattle.hh_sqlparts.proofs.ReadingLaws.{found_both, only, only_one, reading_then}
use Rattle.hh_sqlparts.proofs.day_rows.select_registered.Goals as goal

pub returns-clause-value : goal.returns-clause-value
returns-clause-value g c stands is settled =
    let s0 = state g.S.Store c.args.conn.now in
    let s1 = state g.S.Store c.all_parties.new.conn in
    let s2 = state g.S.Store c.all_units.new.conn in
    let s3 = state g.S.Store c.all_leads.new.conn in
    let s4 = state g.S.Store c.select_under.new.conn in
    let parties = c.in_ok-part-inside.ensures in
    let units = c.in_ok-part-inside-2.ensures in
    let leads = c.in_ok-part-inside-3.ensures in
    let prices = c.in_ok-select_under.ensures in
    let P1 : Database → Type 0 = λ db. c.in_ok-part-inside.field-0 ≡ rows_under_keys tables.parties db.trees in
    let P2 : Database → Type 0 = λ db. c.in_ok-part-inside-2.field-0 ≡ rows_under_keys tables.units db.trees in
    let P3 : Database → Type 0 = λ db. c.in_ok-part-inside-3.field-0 ≡ rows_under_keys tables.leads db.trees in
    let P4 : Database → Type 0 = λ db. c.in_ok-select_under.field-0.items ≡ prices_of (rows_under_keys tables.period_prices db.trees) c.args.date in
    let last = only_one s3 s4 _ prices.frame in
    let r3 = reading_then s2 s3 s4 (only _ _ _ leads.frame) last in
    let r2 = reading_then s1 s2 s4 (only _ _ _ units.frame) r3 in
    let f3 = found_both s2 s3 s4 (only _ _ _ leads.frame) last P3 P4 (λ stands office _. leads.value stands office) (λ stands office _. prices.value stands office) in
    let f2 = found_both s1 s2 s4 (only _ _ _ units.frame) r3 P2 (λ db. P3 db × P4 db) (λ stands office _. units.value stands office) f3 in
    let f1 = found_both s0 s1 s4 (only _ _ _ parties.frame) r2 P1 (λ db. P2 db × (P3 db × P4 db)) (λ stands office _. parties.value stands office) f2 in
    let all = f1 stands is settled in
    let found = c.in_ok-part-inside-4.ensures.value ∙ all.1.1.1 in
    λ i. record (c.part.view_is i) { parties = all.0 i; units = all.1.0 i; leads = all.1.1.0 i; prices = found i }
