use Rattle.std.proofs.Common.{Ok, Err, map, subst, sym}
use Rattle.sqlite.specs.Held.{state}
use Rattle.hh_devices.specs.DeviceChanges.{change}
use Rattle.hh_reports.specs.Exports.{balances_text}
use Rattle.hh_reports.specs.Nets.{sum_for}
use Rattle.hh_store.specs.Outputs.{Outputs, balances_in}
use Rattle.hh_store.specs.declared.output_fault.OutputFault.{OutputFault}
use Rattle.hh_sqlrows.specs.Contents.{content_of, posted_amount}
use Rattle.hh_sqlrows.specs.Forms.{rows_under_keys}
use Rattle.hh_sqlrows.specs.OfficeTables.{parties, postings}
use Rattle.hh_sqlstore.specs.Stores.{Stored, content_in}
use Rattle.hh_sqlparts.proofs.ReadingLaws.{only}
use Rattle.hh_sqlstore.proofs.IdleLaws.{of_committed}
use Rattle.hh_sqlstore.proofs.ReportLaws.{balanced}
use Rattle.hh_sqlstore.proofs.CrashLaws.{reading_adds_nothing}
use Rattle.hh_sqlstore.proofs.tables.SqlTablesTables.balances.Goals as goal

pub returns-in-Ok-clause-writes : goal.returns-in-Ok-clause-writes
returns-in-Ok-clause-writes g c stands =
    let device = change g.O.Sink.taken g.O.Sink.failures c.args.out.now c.write_balances.new.out in
    let trees = (state g.S.Store c.self.inside.connection).committed.trees in
    let written = of_committed g.S.Store _ c.self.invariant c.write_balances.new.conn c.self.inside.refusals (only _ _ _ c.in-Ok.ensures.frame)
    (λ trees. Outputs device {A = Unit {0}} (balances_text (map (λ e. e.0) (rows_under_keys parties trees)) (λ a. sum_for a (map posted_amount (rows_under_keys postings trees)))) (Ok tt)) c.in-Ok.ensures.writes stands in
    let told : Outputs device {A = Unit {0}} (balances_in (content_of c.self.inside.settings trees)) (Ok tt) = balanced {A = Unit {0}} device (Ok tt) (map (λ e. e.0) (rows_under_keys parties trees)) (rows_under_keys postings trees) written in
    subst (λ (t : Stored _). Outputs device {A = Unit {0}} (balances_in (content_in g.S.Store t)) (Ok tt)) c.self.view_is told

pub returns-in-Err-clause-writes : goal.returns-in-Err-clause-writes
returns-in-Err-clause-writes g c stands =
    let device = change g.O.Sink.taken g.O.Sink.failures c.args.out.now c.write_balances.new.out in
    let trees = (state g.S.Store c.self.inside.connection).committed.trees in
    let written = of_committed g.S.Store _ c.self.invariant c.write_balances.new.conn c.self.inside.refusals (only _ _ _ c.in-Err.ensures.frame)
    (λ trees. Outputs device {A = Unit {0}} (balances_text (map (λ e. e.0) (rows_under_keys parties trees)) (λ a. sum_for a (map posted_amount (rows_under_keys postings trees)))) (Err c.in-Err.fault)) c.in-Err.ensures.writes stands in
    let told : Outputs device {A = Unit {0}} (balances_in (content_of c.self.inside.settings trees)) (Err c.in-Err.fault) = balanced {A = Unit {0}} device (Err c.in-Err.fault) (map (λ e. e.0) (rows_under_keys parties trees)) (rows_under_keys postings trees) written in
    subst (λ (fault : OutputFault). Outputs device {A = Unit {0}} (balances_in (content_in g.S.Store c.args.self.now)) (Err fault)) (sym c.refuse_report.ensures.same)
    (subst (λ (t : Stored _). Outputs device {A = Unit {0}} (balances_in (content_in g.S.Store t)) (Err c.in-Err.fault)) c.self.view_is told)

pub returns-in-Ok-clause-crash : goal.returns-in-Ok-clause-crash
returns-in-Ok-clause-crash g c =
    reading_adds_nothing g.S.Store _ c.self.invariant c.write_balances.new.conn c.self.inside.refusals (λ P. P) c.in-Ok.ensures.frame.stays c.in-Ok.ensures.frame.honest c.in-Ok.ensures.frame.crash _ c.self.view_is

pub returns-in-Err-clause-crash : goal.returns-in-Err-clause-crash
returns-in-Err-clause-crash g c =
    reading_adds_nothing g.S.Store _ c.self.invariant c.write_balances.new.conn c.refuse_report.new.refusals (λ P. Unit {0}) (λ stands clean. tt) c.in-Err.ensures.frame.honest c.in-Err.ensures.frame.crash _ c.self.view_is
