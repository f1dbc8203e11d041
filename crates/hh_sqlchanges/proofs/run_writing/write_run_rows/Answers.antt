use Rattle.std.proofs.Common.{arith}
use Rattle.sqlite.specs.Held.{state}
use Rattle.sqlite.specs.State.{HasCleanDisk}
use Rattle.hh_sqlchanges.proofs.RunLaws.{run_made}
use Rattle.hh_sqlchanges.proofs.run_writing.write_run_rows.Goals as goal

pub returns-clause-writes : goal.returns-clause-writes
returns-clause-writes g c clean inside is =
    let old = state g.S.Store c.args.tx.now.conn.now in
    let first = state g.S.Store c.replace.new.tx.conn.now in
    let second = state g.S.Store c.insert_results.new.tx.conn.now in
    let third = state g.S.Store c.insert_all.new.tx.conn.now in
    let new = state g.S.Store c.replace_all.new.tx.conn.now in
    let clean_third : HasCleanDisk third = omega (arith, c.replace_all.ensures.frame.survives.clean, clean) in
    let clean_second : HasCleanDisk second = omega (arith, c.in_ok-insert_all.ensures.frame.survives.clean, clean_third) in
    let clean_first : HasCleanDisk first = omega (arith, c.in_ok-insert_results.ensures.frame.survives.clean, clean_second) in
    let in_first = c.in_ok-replace.ensures.frame.inside clean_first inside in
    let in_second = c.in_ok-insert_results.ensures.frame.inside clean_second in_first in
    let in_third = c.in_ok-insert_all.ensures.frame.inside clean_third in_second in
    let run = c.in_ok-replace.ensures.puts clean_first inside is in
    let results = c.in_ok-insert_results.ensures.puts clean_second in_first run.is_office in
    let credits = c.in_ok-insert_all.ensures.puts clean_third in_second results.is_office in
    run_made c.args.change.now c.key.result c.summary.result c.results.result.now c.credits.result.now c.postings.result.now c.key.ensures c.summary.ensures c.results.ensures c.credits.ensures c.postings.ensures old.now first.now second.now third.now new.now c.replace_all.result run results credits (c.replace_all.ensures.puts clean in_third credits.is_office)
