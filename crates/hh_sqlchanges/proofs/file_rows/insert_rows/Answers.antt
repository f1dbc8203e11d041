use Rattle.std.proofs.Common.{◌∙◌}
use Rattle.sqlite.specs.Held.{state}
use Rattle.hh_sqlchanges.proofs.GroupLaws.{readings_put_or_not, volumes_put_or_not}
use Rattle.hh_sqlchanges.proofs.file_rows.insert_rows.Goals as goal

pub returns-in_ok-readings-in-Some-Meter-clause-writes : goal.returns-in_ok-readings-in-Some-Meter-clause-writes
returns-in_ok-readings-in-Some-Meter-clause-writes g c clean inside is =
    let old = state g.S.Store c.args.tx.now.conn.now in
    let new = state g.S.Store c.insert_whole.new.tx.conn.now in
    let are = c.as_slice.ensures.value ∙ c.in_ok-readings-in-Some-Meter.ensures in
    let put = c.insert_whole.ensures in
    readings_put_or_not old.now new.now c.args.rows.now c.as_slice.result.now are c.insert_whole.result put.whole (put.puts clean inside is)

pub returns-in_ok-volumes-in-Some-Contract-clause-writes : goal.returns-in_ok-volumes-in-Some-Contract-clause-writes
returns-in_ok-volumes-in-Some-Contract-clause-writes g c clean inside is =
    let old = state g.S.Store c.args.tx.now.conn.now in
    let new = state g.S.Store c.insert_whole-in-Some-Contract.new.tx.conn.now in
    let are = c.as_slice-in-Some-Contract.ensures.value ∙ c.in_ok-volumes-in-Some-Contract.ensures in
    let put = c.insert_whole-in-Some-Contract.ensures in
    volumes_put_or_not old.now new.now c.args.rows.now c.as_slice-in-Some-Contract.result.now are c.insert_whole-in-Some-Contract.result put.whole (put.puts clean inside is)
