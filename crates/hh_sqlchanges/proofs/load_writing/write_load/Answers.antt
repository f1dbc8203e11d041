use Rattle.std.proofs.Common.{arith}
use Rattle.sqlite.specs.Held.{state}
use Rattle.sqlite.specs.State.{HasCleanDisk}
use Rattle.hh_sqlchanges.proofs.BesideLaws.{load_changed}
use Rattle.hh_sqlchanges.proofs.load_writing.write_load.Goals as goal

pub returns-clause-writes : goal.returns-clause-writes
returns-clause-writes g c clean inside is =
    let old = state g.S.Store c.args.tx.now.conn.now in
    let mid = state g.S.Store c.write_content.new.tx.conn.now in
    let new = state g.S.Store c.write_beside.new.tx.conn.now in
    let clean_mid : HasCleanDisk mid = omega (arith, c.write_beside.ensures.frame.survives.clean, clean) in
    let in_mid = c.in_ok-write_content.ensures.frame.inside clean_mid inside in
    let stored = c.in_ok-write_content.ensures.writes clean_mid inside is in
    load_changed c.args.change.now c.args.steps.now c.args.positions.now c.args.touched.now old.now mid.now new.now c.write_beside.result stored (c.write_beside.ensures.writes clean in_mid stored.stores.stays.is_office)
