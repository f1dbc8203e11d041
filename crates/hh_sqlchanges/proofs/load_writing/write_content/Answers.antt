use Rattle.std.proofs.Common.{arith}
use Rattle.sqlite.specs.Held.{state}
use Rattle.sqlite.specs.State.{HasCleanDisk}
use Rattle.hh_sqlchanges.proofs.LoadLaws.{load_made}
use Rattle.hh_sqlchanges.proofs.load_writing.write_content.Goals as goal

pub returns-clause-writes : goal.returns-clause-writes
returns-clause-writes g c clean inside is =
    let old = state g.S.Store c.args.tx.now.conn.now in
    let first = state g.S.Store c.replace.new.tx.conn.now in
    let second = state g.S.Store c.write_file_rows.new.tx.conn.now in
    let third = state g.S.Store c.write_unit_steps.new.tx.conn.now in
    let new = state g.S.Store c.replace_all.new.tx.conn.now in
    let clean_third : HasCleanDisk third = omega (arith, c.replace_all.ensures.frame.survives.clean, clean) in
    let clean_second : HasCleanDisk second = omega (arith, c.in_ok-write_unit_steps.ensures.frame.survives.clean, clean_third) in
    let clean_first : HasCleanDisk first = omega (arith, c.in_ok-write_file_rows.ensures.frame.survives.clean, clean_second) in
    let in_first = c.in_ok-replace.ensures.frame.inside clean_first inside in
    let in_second = c.in_ok-write_file_rows.ensures.frame.inside clean_second in_first in
    let in_third = c.in_ok-write_unit_steps.ensures.frame.inside clean_third in_second in
    let file = c.in_ok-replace.ensures.puts clean_first inside is in
    let rows = c.in_ok-write_file_rows.ensures.writes clean_second in_first file.is_office in
    let leads = c.in_ok-write_unit_steps.ensures.writes clean_third in_second rows.stays.is_office in
    load_made c.args.change.now c.args.steps.now c.key.result c.file.result.now c.rows.result.now c.references.result.now c.key.ensures c.file.ensures c.rows.ensures c.references.ensures old.now first.now second.now third.now new.now c.replace_all.result file rows leads
    (c.replace_all.ensures.puts clean in_third leads.stays.is_office)
