use Rattle.std.proofs.Common.{IsTrue, subst, sym}
use Rattle.sqlite.specs.Held.{state}
use Rattle.hh_devices.specs.DeviceChanges.{change}
use Rattle.hh_session.specs.Errands.{errand_of}
use Rattle.hh_session.specs.Refusals.{CountsMore}
use Rattle.hh_sqlstore.specs.Stores.{content_in}
use Rattle.hh_kept_office.specs.Kept.{LeavesKept}
use Rattle.hh_kept_office.proofs.CrashLaws.{connection_leaves}
use Rattle.hh_kept_office.proofs.errands.run_with_tables.Goals as goal

pub returns-clause-ends : goal.returns-clause-ends
returns-clause-ends g c up =
    let tables = c.run_over-ended.result.1 in
    let stood : IsTrue (state g.S.Store tables.connection).is_open = subst (λ k. IsTrue (state g.S.Store k).is_open) c.of.ensures.connection up in
    subst (λ n. LeavesKept (g.H.Host.view c.args.host.now) (CountsMore c.args.tables.refusals n) (change g.O.Sink.taken g.O.Sink.failures c.args.out.now c.run_over-ended.new.out)
    (content_in g.S.Store c.args.tables) (state g.S.Store c.of.result.connection).committed (errand_of c.args.errand.now) c.run_over-ended.result.0) (sym c.of.ensures.refusals)
    (content_in g.S.Store tables, c.of.ensures.holds up, c.run_over-ended.ensures.ends stood)

pub returns-clause-left : goal.returns-clause-left
returns-clause-left g c =
    connection_leaves g.S.Store (g.H.Host.view c.args.host.now) c.args.tables c.run_over-ended.result.1 c.of.result.connection c.of.ensures.connection
    (errand_of c.args.errand.now) c.run_over-ended.result.0 c.run_over-ended.ensures.left
