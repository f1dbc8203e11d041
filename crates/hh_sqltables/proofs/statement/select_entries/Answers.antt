use Rattle.std.proofs.Common.{◌≡◌, IfOk, List, Some, inl, map, rules, subst}
use Rattle.sqlite_value.specs.Order.{Row}
use Rattle.sqlite.specs.Held.{state}
use Rattle.hh_keyed_rows.specs.KeyedRows.{entry_in}
use Rattle.hh_keyed_rows.proofs.QueryLaws.{clean_by, failed_left, shown_open, shown_same, was_open_by}
use Rattle.hh_sqltables.proofs.FrameLaws.{query_faults, query_leaves}
use Rattle.hh_sqltables.proofs.AnswerLaws.{left_by, read_result, stays_result}
use Rattle.hh_sqltables.proofs.statement.select_entries.Goals as goal

pub returns-in-Ok-clause-read : goal.returns-in-Ok-clause-read
returns-in-Ok-clause-read g c stands =
    let clean = clean_by _ _ (g.met.S.Store.shut_if_dirty c.query_all.new.self.store) stands in
    read_result _ _ (state g.S.Store c.args.conn.now) (state g.S.Store c.query_all.new.self) g.K.Columned.codec g.V.Columned.codec c.in-Ok.rows.items c.read_entries.result (c.in-Ok.ensures.ok clean)
    (subst (λ (rows : List Row). IfOk c.read_entries.result (λ found. map (entry_in g.K.Columned.codec g.V.Columned.codec) rows ≡ map Some found.items)) c.as_slice.ensures.value c.read_entries.ensures.ok)

pub returns-in-Ok-clause-frame : goal.returns-in-Ok-clause-frame
returns-in-Ok-clause-frame g c =
    let old = state g.S.Store c.args.conn.now in
    let new = state g.S.Store c.query_all.new.self in
    record {
      stood = λ stands. let clean = clean_by _ _ (g.met.S.Store.shut_if_dirty c.query_all.new.self.store) stands in shown_open _ _ old new c.in-Ok.rows.items (c.in-Ok.ensures.ok clean);
      left = λ stands plain settled. let clean = clean_by _ _ (g.met.S.Store.shut_if_dirty c.query_all.new.self.store) stands in left_by old new (inl (shown_same _ _ old new c.in-Ok.rows.items plain (c.in-Ok.ensures.ok clean))) stands settled;
      outside = search rules;
      stays = λ opened clean. stays_result _ _ old new c.in-Ok.rows.items c.read_entries.result (c.in-Ok.ensures.ok clean);
      honest = search rules;
      faults = query_faults c.args.text.now _ old new c.query_all.ensures.survives;
      crash = query_leaves c.args.text.now _ old new c.query_all.ensures.survives;
    }

pub returns-in-Err-clause-frame : goal.returns-in-Err-clause-frame
returns-in-Err-clause-frame g c =
    let old = state g.S.Store c.args.conn.now in
    let new = state g.S.Store c.query_all.new.self in
    record {
      stood = λ stands. let clean = clean_by _ _ (g.met.S.Store.shut_if_dirty c.query_all.new.self.store) stands in was_open_by old new (failed_left _ _ old new _ (c.in-Err.ensures.err clean)) stands;
      left = λ stands plain settled. let clean = clean_by _ _ (g.met.S.Store.shut_if_dirty c.query_all.new.self.store) stands in left_by old new (failed_left _ _ old new _ (c.in-Err.ensures.err clean)) stands settled;
      outside = search rules;
      stays = λ opened clean. tt;
      honest = search rules;
      faults = query_faults c.args.text.now _ old new c.query_all.ensures.survives;
      crash = query_leaves c.args.text.now _ old new c.query_all.ensures.survives;
    }
