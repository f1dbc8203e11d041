use Rattle.std.proofs.Common.{rules}
use Rattle.sqlite.specs.Held.{state}
use Rattle.sqlite.specs.State.{HasCleanDisk}
use Rattle.hh_sqlstore.proofs.ContentLaws.{clean_while_open}
use Rattle.hh_sqlstore.specs.Leaving.{LeavesDatabase}
use Rattle.hh_kept_office.proofs.migrating.migrate_in_database.Goals as goal

pub returns-in-Err-clause-undone : goal.returns-in-Err-clause-undone
returns-in-Err-clause-undone g c other up =
    let found = state g.S.Store c.args.connection in
    let left = state g.S.Store c.migrate-migrated.result.1 in
    let clean : HasCleanDisk left = clean_while_open g.S.Store c.migrate-migrated.result.1 g.met.S.Store.shut_if_dirty up in
    let undone : HasCleanDisk left → LeavesDatabase found left = search rules in
    undone clean up
