use Rattle.std.proofs.Common.{◌≡◌, []}
use Rattle.sqlite.specs.Values.{bound}
use Rattle.hh_devices.specs.DeviceChanges.{change}
use Rattle.hh_sqltables.proofs.StreamLaws.{IsGiving}
use Rattle.hh_sqltables.proofs.giving.give_entries.Given as goal

-- the rows so far were taken
abbrev pub invariant-rows : goal.invariant-rows
invariant-rows g l =
    (l.rows.conn.ghost_name ≡ l.initial.rows.conn.ghost_name)
    × IsGiving g.S.Store g.K.Columned.codec g.V.Columned.codec l.text (bound l.params) l.fn.conn l.rows.conn.now (λ taken. (begun : g.row.O.Denot) (report : g.T.RowTaker.Report)
    → g.T.RowTaker.has (change g.O.Sink.taken g.O.Sink.failures begun l.fn.out) l.fn.taker report []
    → g.T.RowTaker.has (change g.O.Sink.taken g.O.Sink.failures begun l.out) l.taker report taken)
