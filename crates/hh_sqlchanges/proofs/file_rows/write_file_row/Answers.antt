use Rattle.std.proofs.Common.{OnOk, subst, sym}
use Rattle.std.proofs.lemmas.Result.{on_ok_weaker}
use Rattle.sqlite.specs.Held.{state}
use Rattle.hh_rows.specs.declared.rows.Row.{Row}
use Rattle.hh_sqlchanges.specs.steps.Becoming.{Becomes}
use Rattle.hh_sqlchanges.specs.steps.FileRows.{with_file_row}
use Rattle.hh_sqlchanges.proofs.LoadLaws.{contract_put, meter_put, party_put, price_put, reallocation_put, unit_row_none}
use Rattle.hh_sqlchanges.proofs.file_rows.write_file_row.Goals as goal

pub returns-in-Party-clause-writes : goal.returns-in-Party-clause-writes
returns-in-Party-clause-writes g c clean inside is =
    let old = state g.S.Store c.args.tx.now.conn.now in
    let new = state g.S.Store c.replace.new.tx.conn.now in
    subst (λ (r : Row). OnOk c.replace.result (Becomes (with_file_row r) old.now new.now)) (sym c.in-Party.is)
    (on_ok_weaker c.replace.result (party_put old.now new.now c.in-Party.row) (c.replace.ensures.puts clean inside is))

pub returns-in-Unit-clause-writes : goal.returns-in-Unit-clause-writes
returns-in-Unit-clause-writes g c clean inside is =
    subst (λ (r : Row). Becomes (with_file_row r) (state g.S.Store c.args.tx.now.conn.now).now (state g.S.Store c.args.tx.now.conn.now).now) (sym c.in-Unit.is)
    (unit_row_none c.in-Unit.field-0 (state g.S.Store c.args.tx.now.conn.now).now is)

pub returns-in-Meter-clause-writes : goal.returns-in-Meter-clause-writes
returns-in-Meter-clause-writes g c clean inside is =
    let old = state g.S.Store c.args.tx.now.conn.now in
    let new = state g.S.Store c.replace-in-Meter.new.tx.conn.now in
    subst (λ (r : Row). OnOk c.replace-in-Meter.result (Becomes (with_file_row r) old.now new.now)) (sym c.in-Meter.is)
    (on_ok_weaker c.replace-in-Meter.result (meter_put old.now new.now c.in-Meter.row) (c.replace-in-Meter.ensures.puts clean inside is))

pub returns-in-Price-clause-writes : goal.returns-in-Price-clause-writes
returns-in-Price-clause-writes g c clean inside is =
    let old = state g.S.Store c.args.tx.now.conn.now in
    let new = state g.S.Store c.replace-in-Price.new.tx.conn.now in
    subst (λ (r : Row). OnOk c.replace-in-Price.result (Becomes (with_file_row r) old.now new.now)) (sym c.in-Price.is)
    (on_ok_weaker c.replace-in-Price.result (price_put old.now new.now c.in-Price.row) (c.replace-in-Price.ensures.puts clean inside is))

pub returns-in-Contract-clause-writes : goal.returns-in-Contract-clause-writes
returns-in-Contract-clause-writes g c clean inside is =
    let old = state g.S.Store c.args.tx.now.conn.now in
    let new = state g.S.Store c.replace-in-Contract.new.tx.conn.now in
    subst (λ (r : Row). OnOk c.replace-in-Contract.result (Becomes (with_file_row r) old.now new.now)) (sym c.in-Contract.is)
    (on_ok_weaker c.replace-in-Contract.result (contract_put old.now new.now c.in-Contract.row) (c.replace-in-Contract.ensures.puts clean inside is))

pub returns-in-Reallocation-clause-writes : goal.returns-in-Reallocation-clause-writes
returns-in-Reallocation-clause-writes g c clean inside is =
    let old = state g.S.Store c.args.tx.now.conn.now in
    let new = state g.S.Store c.replace-in-Reallocation.new.tx.conn.now in
    subst (λ (r : Row). OnOk c.replace-in-Reallocation.result (Becomes (with_file_row r) old.now new.now)) (sym c.in-Reallocation.is)
    (on_ok_weaker c.replace-in-Reallocation.result (reallocation_put old.now new.now c.in-Reallocation.row) (c.replace-in-Reallocation.ensures.puts clean inside is))
