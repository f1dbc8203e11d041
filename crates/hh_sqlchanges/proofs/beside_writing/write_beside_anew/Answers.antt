use Rattle.std.proofs.Common.{arith}
use Rattle.sqlite.specs.Held.{state}
use Rattle.sqlite.specs.State.{HasCleanDisk}
use Rattle.hh_sqlchanges.proofs.BesideLaws.{marked_anew}
use Rattle.hh_sqlchanges.proofs.beside_writing.write_beside_anew.Goals as goal

pub returns-clause-writes : goal.returns-clause-writes
returns-clause-writes g c clean inside is =
    let old = state g.S.Store c.args.tx.now.conn.now in
    let mid = state g.S.Store c.write_beside.new.tx.conn.now in
    let new = state g.S.Store c.replace.new.tx.conn.now in
    let clean_mid : HasCleanDisk mid = omega (arith, c.replace.ensures.frame.survives.clean, clean) in
    let in_mid = c.in_ok-write_beside.ensures.frame.inside clean_mid inside in
    let written = c.in_ok-write_beside.ensures.writes clean_mid inside is in
    marked_anew c.args.positions.now c.args.touched.now old.now mid.now new.now c.replace.result written (c.replace.ensures.puts clean in_mid written.stays.is_office)
