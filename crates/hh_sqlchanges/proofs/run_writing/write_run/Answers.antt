use Rattle.std.proofs.Common.{arith, ap}
use Rattle.sqlite.specs.Held.{state}
use Rattle.sqlite.specs.State.{HasCleanDisk}
use Rattle.hh_sqlchanges.proofs.BesideLaws.{run_changed}
use Rattle.hh_sqlchanges.proofs.run_writing.write_run.Goals as goal

pub returns-clause-writes : goal.returns-clause-writes
returns-clause-writes g c clean inside is =
    let old = state g.S.Store c.args.tx.now.conn.now in
    let mid = state g.S.Store c.write_run_rows.new.tx.conn.now in
    let new = state g.S.Store c.remove_under.new.tx.conn.now in
    let clean_mid : HasCleanDisk mid = omega (arith, c.remove_under.ensures.frame.survives.clean, clean) in
    let in_mid = c.in_ok-write_run_rows.ensures.frame.inside clean_mid inside in
    let stored = c.in_ok-write_run_rows.ensures.writes clean_mid inside is in
    run_changed c.args.change.now c.key.result.date (ap (λ k. k.date) c.key.ensures) old.now mid.now new.now c.remove_under.result stored (c.remove_under.ensures.removes clean in_mid stored.stores.stays.is_office)
