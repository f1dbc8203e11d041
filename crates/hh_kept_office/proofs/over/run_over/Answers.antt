use Rattle.std.proofs.Common.{IsTrue, subst, sym}
use Rattle.hh_devices.specs.DeviceChanges.{change}
use Rattle.hh_session.specs.Refusals.{CountsMore}
use Rattle.hh_session.specs.Errands.{errand_of}
use Rattle.hh_kept_office.proofs.CrashLaws.{leaves_over}
use Rattle.hh_kept_office.proofs.KeptLaws.{over_market}
use Rattle.hh_kept_office.proofs.over.run_over.Goals as goal

pub returns-clause-ends : goal.returns-clause-ends
returns-clause-ends g c up =
    let stood = subst (λ t. IsTrue (g.T.Tables.is_open t)) c.into_tables.ensures.same up in
    over_market (g.H.Host.view c.args.host.now) (CountsMore (g.T.Tables.refusals c.args.tables) (g.T.Tables.refusals c.into_tables.result)) c.london.result c.london.ensures
    (g.T.Tables.content c.args.tables) (g.T.Tables.content c.into_tables.result) c.run_errand-ended.new.office.seen c.into_tables.ensures.content
    (change g.O.Sink.taken g.O.Sink.failures c.args.out.now c.run_errand-ended.new.out) (errand_of c.args.errand.now) c.run_errand-ended.result
    (rw (c.new-office.ensures.seen, c.new-office.ensures.tables, sym c.into_tables.ensures.same) at (c.run_errand-ended.ensures.ends stood))

pub returns-clause-left : goal.returns-clause-left
returns-clause-left g c =
    leaves_over g.T.Tables.is_honest g.T.Tables.is_open g.T.Tables.may_leave g.T.Tables.holds (g.H.Host.view c.args.host.now) c.london.result c.london.ensures (g.T.Tables.content c.args.tables) c.args.tables
    c.run_errand-ended.new.office c.shows_left.ensures.holds c.new-office.result c.new-office.ensures.seen c.new-office.ensures.tables c.into_tables.result c.into_tables.ensures.same
    (errand_of c.args.errand.now) c.run_errand-ended.result c.run_errand-ended.ensures.left
