use Rattle.std.proofs.Common.{arith}
use Rattle.std.proofs.lemmas.Result.{on_ok_weaker}
use Rattle.sqlite.specs.Held.{state}
use Rattle.sqlite.specs.State.{HasCleanDisk}
use Rattle.hh_sqlschema.proofs.NewLaws.{new_office}
use Rattle.hh_sqlschema.proofs.making.write_new_office.Goals as goal

pub returns-clause-writes : goal.returns-clause-writes
returns-clause-writes g c clean inside is =
    let made = state g.S.Store c.make_tables.new.tx.conn.now in
    let set = state g.S.Store c.replace.new.tx.conn.now in
    let last = state g.S.Store c.replace-2.new.tx.conn.now in
    let clean_set : HasCleanDisk set = omega (arith, c.replace-2.ensures.frame.survives.clean, clean) in
    let clean_made : HasCleanDisk made = omega (arith, c.in_ok-replace.ensures.frame.survives.clean, clean_set) in
    let in_made = c.in_ok-make_tables.ensures.frame.inside clean_made inside in
    let in_set = c.in_ok-replace.ensures.frame.inside clean_set in_made in
    let empty = c.in_ok-make_tables.ensures.makes clean_made inside is in
    let settings = c.in_ok-replace.ensures.puts clean_set in_made empty.is_office in
    on_ok_weaker c.replace-2.result (new_office c.args.settings.now made.now set.now last.now empty settings) (c.replace-2.ensures.puts clean in_set settings.is_office)
