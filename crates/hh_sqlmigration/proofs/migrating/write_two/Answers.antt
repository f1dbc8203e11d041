use Rattle.std.proofs.Common.{arith}
use Rattle.std.proofs.lemmas.Result.{on_ok_weaker}
use Rattle.sqlite.specs.Held.{state}
use Rattle.sqlite.specs.State.{HasCleanDisk}
use Rattle.hh_sqlmigration.proofs.StatementFacts.{leads_made}
use Rattle.hh_sqlmigration.proofs.StepLaws.{written}
use Rattle.hh_sqlmigration.proofs.migrating.write_two.Goals as goal

pub returns-clause-writes : goal.returns-clause-writes
returns-clause-writes g c clean inside is =
    let old = state g.S.Store c.args.tx.now.conn.now in
    let made = state g.S.Store c.create_table.new.tx.conn.now in
    let led = state g.S.Store c.replace_all.new.tx.conn.now in
    let last = state g.S.Store c.replace.new.tx.conn.now in
    let clean_led : HasCleanDisk led = omega (arith, c.replace.ensures.frame.survives.clean, clean) in
    let clean_made : HasCleanDisk made = omega (arith, c.in_ok-replace_all.ensures.frame.survives.clean, clean_led) in
    let in_made = c.in_ok-create_table.ensures.frame.inside clean_made inside in
    let in_led = c.in_ok-replace_all.ensures.frame.inside clean_led in_made in
    let makes = c.in_ok-create_table.ensures.makes _ _ _ leads_made clean_made inside is in
    let leading = c.in_ok-replace_all.ensures.puts clean_led in_made makes.is_office in
    on_ok_weaker c.replace.result (written c.args.leads.now c.args.settings.now _ old.now made.now led.now last.now makes leading) (c.replace.ensures.puts clean in_led leading.is_office)
