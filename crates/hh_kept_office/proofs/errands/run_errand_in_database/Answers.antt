use Rattle.std.proofs.Common.{ap, inr, refl, subst, sym, Err}
use Rattle.sqlite.specs.Held.{state}
use Rattle.hh_devices.specs.DeviceChanges.{change}
use Rattle.hh_session.specs.Errands.{errand_of}
use Rattle.hh_session.specs.errand.ErrandStop.TheVariants as stop
use Rattle.hh_sqlstore.specs.Stores.{content_in}
use Rattle.hh_kept_office.specs.Crashes.{KeptLeaves}
use Rattle.hh_kept_office.proofs.CrashLaws.{unused_leaves, used_leaves}
use Rattle.hh_kept_office.proofs.KeptLaws.{kept}
use Rattle.hh_kept_office.proofs.errands.run_errand_in_database.Goals as goal

pub returns-in-Ok-clause-ends : goal.returns-in-Ok-clause-ends
returns-in-Ok-clause-ends g c up =
    let tables = c.in-Ok.tables in
    let before = content_in g.S.Store tables in
    let stood = c.run_with_tables.ensures.sure up in
    kept (g.H.Host.view c.args.host.now) (change g.O.Sink.taken g.O.Sink.failures c.args.out.now c.run_with_tables.new.out) (errand_of c.args.errand.now)
    c.run_with_tables.result.0 (state g.S.Store c.args.connection).committed (state g.S.Store c.run_with_tables.result.1.connection).committed before (c.in-Ok.ensures.holds stood)
    tables.refusals c.run_with_tables.result.1.refusals c.in-Ok.ensures.unrefused (c.run_with_tables.ensures.ends up)

pub returns-in-Err-clause-ends : goal.returns-in-Err-clause-ends
returns-in-Err-clause-ends g c up =
    inr (c.in-Err.fault, ap (λ fault. Err (stop.Refused fault)) c.from.ensures, refl, (c.in-Err.ensures.left up).2)

pub returns-in-Ok-clause-left : goal.returns-in-Ok-clause-left
returns-in-Ok-clause-left g c =
    let tables = c.in-Ok.tables in
    used_leaves g.S.Store (g.H.Host.view c.args.host.now) c.args.connection tables.connection c.run_with_tables.result.1.connection (content_in g.S.Store tables)
    c.in-Ok.ensures.open c.in-Ok.ensures.content (errand_of c.args.errand.now) c.run_with_tables.result.0 c.run_with_tables.ensures.left

pub returns-in-Err-clause-left : goal.returns-in-Err-clause-left
returns-in-Err-clause-left g c =
    let found = state g.S.Store c.args.connection in
    subst (λ fault. KeptLeaves (g.H.Host.view c.args.host.now) found (state g.S.Store c.in-Err.connection) (errand_of c.args.errand.now) (Err (stop.Refused fault))) (sym c.from.ensures)
    (unused_leaves (g.H.Host.view c.args.host.now) found (state g.S.Store c.in-Err.connection) c.in-Err.ensures.keeps c.in-Err.fault (errand_of c.args.errand.now))
