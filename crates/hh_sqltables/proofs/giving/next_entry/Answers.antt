use Rattle.std.proofs.Common.{◌≡◌, IfOk, Option, Some, subst}
use Rattle.std.specs.Prelude.{option_map}
use Rattle.sqlite_value.specs.Order.{Row}
use Rattle.hh_keyed_rows.specs.KeyedRows.{entry_in}
use Rattle.sqlite.specs.Held.{state}
use Rattle.hh_keyed_rows.proofs.QueryLaws.{clean_by, was_open_by}
use Rattle.hh_sqltables.proofs.AnswerLaws.{open_result}
use Rattle.hh_sqltables.proofs.StreamLaws.{cleaner_before, kept_or_back, next_taken, none_taken}
use Rattle.hh_sqltables.proofs.giving.next_entry.Goals as goal

pub returns-in-Ok-clause-next : goal.returns-in-Ok-clause-next
returns-in-Ok-clause-next g c start sql params taken before =
    let moved = c.in-Ok.ensures in
    let read = subst (λ (row : Option Row). IfOk c.entry_of.result (λ entry. option_map (entry_in g.K.Columned.codec g.V.Columned.codec) row ≡ option_map (λ e. Some e) entry)) c.get.ensures c.entry_of.ensures in
    next_taken g.S.Store g.K.Columned.codec g.V.Columned.codec sql params start c.args.rows.now.conn.now c.advance.new.self.conn.now taken (cleaner_before _ _ _ moved.survives) before _ c.entry_of.result
    moved.ok moved.same read

pub returns-in-Ok-clause-stood : goal.returns-in-Ok-clause-stood
returns-in-Ok-clause-stood g c stands =
    let clean = clean_by _ _ (g.met.S.Store.shut_if_dirty c.advance.new.self.conn.now.store) stands in
    (c.in-Ok.ensures.same clean).0.was_open

pub returns-in-Ok-clause-stays : goal.returns-in-Ok-clause-stays
returns-in-Ok-clause-stays g c clean =
    open_result (state g.S.Store c.advance.new.self.conn.now) c.entry_of.result (c.in-Ok.ensures.same clean).0.is_open

pub returns-in-Err-clause-next : goal.returns-in-Err-clause-next
returns-in-Err-clause-next g c start sql params taken before =
    let moved = c.in-Err.ensures in
    none_taken g.S.Store g.K.Columned.codec g.V.Columned.codec sql params start c.args.rows.now.conn.now c.advance.new.self.conn.now taken (cleaner_before _ _ _ moved.survives) before
    (λ clean. kept_or_back _ _ _ _ (moved.kept clean))

pub returns-in-Err-clause-stood : goal.returns-in-Err-clause-stood
returns-in-Err-clause-stood g c stands =
    let clean = clean_by _ _ (g.met.S.Store.shut_if_dirty c.advance.new.self.conn.now.store) stands in
    was_open_by _ _ (kept_or_back _ _ _ _ (c.in-Err.ensures.kept clean)) stands
