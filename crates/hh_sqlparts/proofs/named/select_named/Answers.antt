use Rattle.std.proofs.Common.{◌≡◌, [], refl}
use Rattle.sqlite.specs.Effect.{Database}
use Rattle.sqlite.specs.Held.{state}
use Rattle.hh_tables.proofs.MergeLaws.{true_from}
use Rattle.hh_names.specs.Accounts.{bytes_cmp}
use Rattle.hh_rows.specs.Keys.{contract_key_cmp, settlement_period_cmp, unit_period_cmp}
use Rattle.hh_rows.proofs.KeyLaws.{reallocation_key_total, settlement_period_total, unit_period_total}
use Rattle.hh_kept_rows.specs.Parts.{leads_for}
use Rattle.hh_sqlrows.specs.Contents.{registered_of}
use Rattle.hh_sqlrows.specs.Forms.{rows_under_keys}
use Rattle.hh_sqlrows.specs.OfficeSchema.{office}
use Rattle.hh_sqlrows.specs.OfficeTables as tables
use Rattle.hh_sqlrows.proofs.FrameLaws.{reads_as, reads_failed, reads_then}
use Rattle.hh_sqlparts.specs.steps.Named.{FindsNamed, price_key_of, reading_key_of, reference_of, volume_key_of}
use Rattle.hh_sqlparts.proofs.NamedForms.{rows_rise}
use Rattle.hh_sqlparts.proofs.NamedParts.{judges_by_names}
use Rattle.hh_sqlparts.proofs.NamedRows.{HasReallocations}
use Rattle.hh_sqlparts.proofs.NamedTables.{contracts_named, meters_named, prices_named, reallocations_named, references_named}
use Rattle.hh_sqlparts.proofs.ReadingLaws.{only, found_both, reading_then}
use Rattle.hh_sqlparts.proofs.named.select_named.Goals as goal

pub returns-clause-value : goal.returns-clause-value
returns-clause-value g c stands office settled =
    let rows = c.args.rows.now in
    let s0 = state g.S.Store c.args.conn.now in
    let s1 = state g.S.Store c.all_parties.new.conn in
    let s2 = state g.S.Store c.all_units.new.conn in
    let s3 = state g.S.Store c.rows_named.new.conn in
    let s4 = state g.S.Store c.rows_under_named.new.conn in
    let s5 = state g.S.Store c.rows_under_named-2.new.conn in
    let s6 = state g.S.Store c.rows_named-2.new.conn in
    let s7 = state g.S.Store c.rows_under_named-3.new.conn in
    let s8 = state g.S.Store c.leads_named.new.conn in
    let parties = c.in_ok-parties.ensures in
    let units = c.in_ok-units.ensures in
    let references = c.in_ok-references.ensures in
    let meters = c.in_ok-meters.ensures in
    let prices = c.in_ok-prices.ensures in
    let contracts = c.in_ok-contracts.ensures in
    let reallocations = c.in_ok-reallocations.ensures in
    let leads = c.in_ok-leads.ensures in
    let P1 : Database → Type 0 = λ db. c.in_ok-parties.parties ≡ rows_under_keys tables.parties db.trees in
    let P2 : Database → Type 0 = λ db. c.in_ok-units.units ≡ rows_under_keys tables.units db.trees in
    let P3 : Database → Type 0 = λ db. FindsNamed bytes_cmp reference_of rows (rows_under_keys tables.references db.trees) c.in_ok-references.references in
    let P4 : Database → Type 0 = λ db. FindsNamed unit_period_cmp reading_key_of rows (rows_under_keys tables.meters db.trees) c.in_ok-meters.meters in
    let P5 : Database → Type 0 = λ db. FindsNamed settlement_period_cmp price_key_of rows (rows_under_keys tables.period_prices db.trees) c.in_ok-prices.prices in
    let P6 : Database → Type 0 = λ db. FindsNamed contract_key_cmp volume_key_of rows (rows_under_keys tables.contracts db.trees) c.in_ok-contracts.contracts in
    let P7 : Database → Type 0 = λ db. HasReallocations rows (rows_under_keys tables.reallocations db.trees) c.in_ok-reallocations.reallocations in
    let P8 : Database → Type 0 = λ db. c.in_ok-leads.leads ≡ leads_for rows (rows_under_keys tables.leads db.trees) [] in
    let r7 = reading_then s6 s7 s8 (only _ _ _ reallocations.frame) (only _ _ _ leads.frame) in
    let r6 = reading_then s5 s6 s8 (only _ _ _ contracts.frame) r7 in
    let r5 = reading_then s4 s5 s8 (only _ _ _ prices.frame) r6 in
    let r4 = reading_then s3 s4 s8 (only _ _ _ meters.frame) r5 in
    let r3 = reading_then s2 s3 s8 (only _ _ _ references.frame) r4 in
    let r2 = reading_then s1 s2 s8 (only _ _ _ units.frame) r3 in
    let f7 = found_both s6 s7 s8 (only _ _ _ reallocations.frame) (only _ _ _ leads.frame) P7 P8
    (λ stands office settled. let e = reallocations.value stands office settled in reallocations_named rows _ (rows_rise tables.reallocations reallocation_key_total s6.now.trees) e.0 e.1 _ _ refl e.2) leads.value in
    let f6 = found_both s5 s6 s8 (only _ _ _ contracts.frame) r7 P6 (λ db. P7 db × P8 db)
    (λ stands office settled. let e = contracts.value stands office settled in contracts_named rows _ e.0 e.1 _ _ refl e.2) f7 in
    let f5 = found_both s4 s5 s8 (only _ _ _ prices.frame) r6 P5 (λ db. P6 db × (P7 db × P8 db))
    (λ stands office settled. let e = prices.value stands office settled in prices_named rows _ (rows_rise tables.period_prices settlement_period_total s4.now.trees) e.0 e.1 _ _ refl e.2) f6 in
    let f4 = found_both s3 s4 s8 (only _ _ _ meters.frame) r5 P4 (λ db. P5 db × (P6 db × (P7 db × P8 db)))
    (λ stands office settled. let e = meters.value stands office settled in meters_named rows _ (rows_rise tables.meters unit_period_total s3.now.trees) e.0 e.1 _ _ refl e.2) f5 in
    let f3 = found_both s2 s3 s8 (only _ _ _ references.frame) r4 P3 (λ db. P4 db × (P5 db × (P6 db × (P7 db × P8 db))))
    (λ stands office settled. let e = references.value stands office settled in references_named rows _ e.0 e.1 _ _ refl e.2) f4 in
    let f2 = found_both s1 s2 s8 (only _ _ _ units.frame) r3 P2 (λ db. P3 db × (P4 db × (P5 db × (P6 db × (P7 db × P8 db))))) (λ stands office _. units.value stands office) f3 in
    let f1 = found_both s0 s1 s8 (only _ _ _ parties.frame) r2 P1 (λ db. P2 db × (P3 db × (P4 db × (P5 db × (P6 db × (P7 db × P8 db)))))) (λ stands office _. parties.value stands office) f2 in
    let all = f1 stands office settled in
    judges_by_names (registered_of s0.now.trees) _ all.0 all.1.0 rows (true_from _ (rows_rise tables.reallocations reallocation_key_total s0.now.trees))
    all.1.1.0 all.1.1.1.0 all.1.1.1.1.0 all.1.1.1.1.1.0 all.1.1.1.1.1.1.0 all.1.1.1.1.1.1.1

pub returns-in_err-reallocations-clause-frame : goal.returns-in_err-reallocations-clause-frame
returns-in_err-reallocations-clause-frame g c =
    let s0 = state g.S.Store c.args.conn.now in
    let s1 = state g.S.Store c.all_parties.new.conn in
    let s2 = state g.S.Store c.all_units.new.conn in
    let s3 = state g.S.Store c.rows_named.new.conn in
    let s4 = state g.S.Store c.rows_under_named.new.conn in
    let s5 = state g.S.Store c.rows_under_named-2.new.conn in
    let s6 = state g.S.Store c.rows_named-2.new.conn in
    let s7 = state g.S.Store c.rows_under_named-3.new.conn in
    let r1 = c.in_ok-parties.ensures.frame in
    let r2 = reads_then office s0 s1 s2 _ _ r1 c.in_ok-units.ensures.frame in
    let r3 = reads_then office s0 s2 s3 _ _ r2 c.in_ok-references.ensures.frame in
    let r4 = reads_then office s0 s3 s4 _ _ r3 c.in_ok-meters.ensures.frame in
    let r5 = reads_then office s0 s4 s5 _ _ r4 c.in_ok-prices.ensures.frame in
    let r6 = reads_then office s0 s5 s6 _ _ r5 c.in_ok-contracts.ensures.frame in
    let r7 = reads_then office s0 s6 s7 _ _ r6 c.rows_under_named-3.ensures.frame in
    reads_failed _ s0 s7 _ _ c.from_residual-in_err-reallocations.ensures.1 r7

pub returns-in_err-leads-clause-frame : goal.returns-in_err-leads-clause-frame
returns-in_err-leads-clause-frame g c =
    let s0 = state g.S.Store c.args.conn.now in
    let s1 = state g.S.Store c.all_parties.new.conn in
    let s2 = state g.S.Store c.all_units.new.conn in
    let s3 = state g.S.Store c.rows_named.new.conn in
    let s4 = state g.S.Store c.rows_under_named.new.conn in
    let s5 = state g.S.Store c.rows_under_named-2.new.conn in
    let s6 = state g.S.Store c.rows_named-2.new.conn in
    let s7 = state g.S.Store c.rows_under_named-3.new.conn in
    let s8 = state g.S.Store c.leads_named.new.conn in
    let r1 = c.in_ok-parties.ensures.frame in
    let r2 = reads_then office s0 s1 s2 _ _ r1 c.in_ok-units.ensures.frame in
    let r3 = reads_then office s0 s2 s3 _ _ r2 c.in_ok-references.ensures.frame in
    let r4 = reads_then office s0 s3 s4 _ _ r3 c.in_ok-meters.ensures.frame in
    let r5 = reads_then office s0 s4 s5 _ _ r4 c.in_ok-prices.ensures.frame in
    let r6 = reads_then office s0 s5 s6 _ _ r5 c.in_ok-contracts.ensures.frame in
    let r7 = reads_then office s0 s6 s7 _ _ r6 c.in_ok-reallocations.ensures.frame in
    let r8 = reads_then office s0 s7 s8 _ _ r7 c.leads_named.ensures.frame in
    reads_failed _ s0 s8 _ _ c.from_residual-in_err-leads.ensures.1 r8

pub returns-clause-frame : goal.returns-clause-frame
returns-clause-frame g c =
    let s0 = state g.S.Store c.args.conn.now in
    let s1 = state g.S.Store c.all_parties.new.conn in
    let s2 = state g.S.Store c.all_units.new.conn in
    let s3 = state g.S.Store c.rows_named.new.conn in
    let s4 = state g.S.Store c.rows_under_named.new.conn in
    let s5 = state g.S.Store c.rows_under_named-2.new.conn in
    let s6 = state g.S.Store c.rows_named-2.new.conn in
    let s7 = state g.S.Store c.rows_under_named-3.new.conn in
    let s8 = state g.S.Store c.leads_named.new.conn in
    let r1 = c.in_ok-parties.ensures.frame in
    let r2 = reads_then office s0 s1 s2 _ _ r1 c.in_ok-units.ensures.frame in
    let r3 = reads_then office s0 s2 s3 _ _ r2 c.in_ok-references.ensures.frame in
    let r4 = reads_then office s0 s3 s4 _ _ r3 c.in_ok-meters.ensures.frame in
    let r5 = reads_then office s0 s4 s5 _ _ r4 c.in_ok-prices.ensures.frame in
    let r6 = reads_then office s0 s5 s6 _ _ r5 c.in_ok-contracts.ensures.frame in
    let r7 = reads_then office s0 s6 s7 _ _ r6 c.in_ok-reallocations.ensures.frame in
    let r8 = reads_then office s0 s7 s8 _ _ r7 c.in_ok-leads.ensures.frame in
    reads_as s0 s8 _ _ r8
