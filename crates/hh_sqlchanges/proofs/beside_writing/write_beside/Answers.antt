use Rattle.std.proofs.Common.{arith}
use Rattle.sqlite.specs.Held.{state}
use Rattle.sqlite.specs.State.{HasCleanDisk}
use Rattle.hh_sqlchanges.proofs.BesideLaws.{beside_made}
use Rattle.hh_sqlchanges.proofs.beside_writing.write_beside.Goals as goal

pub returns-clause-writes : goal.returns-clause-writes
returns-clause-writes g c clean inside is =
    let old = state g.S.Store c.args.tx.now.conn.now in
    let mid = state g.S.Store c.replace_all.new.tx.conn.now in
    let new = state g.S.Store c.touch_periods.new.tx.conn.now in
    let clean_mid : HasCleanDisk mid = omega (arith, c.touch_periods.ensures.frame.survives.clean, clean) in
    let in_mid = c.in_ok-replace_all.ensures.frame.inside clean_mid inside in
    let put = c.in_ok-replace_all.ensures.puts clean_mid inside is in
    beside_made c.args.positions.now c.args.touched.now old.now mid.now new.now c.touch_periods.result put (c.touch_periods.ensures.puts clean in_mid put.is_office)
