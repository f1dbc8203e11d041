use Rattle.std.proofs.Common.{◌≡◌, ◌≢◌, ◌⊎◌, ◌∙◌, ◌<◌, ap, inr, refl, rules, subst, sym, true}
use Rattle.std.specs.Prelude.{⊤, IfErr}
use Rattle.hh_devices.specs.DeviceChanges.{change}
use Rattle.hh_session.specs.errand.ErrandStop.TheVariants as stop
use Rattle.hh_session.specs.Errands.{IsReport, errand_of}
use Rattle.hh_kept_office.specs.declared.path.PathStop.TheVariants.{Errand}
use Rattle.hh_kept_office.specs.Paths.{at_path}
use Rattle.hh_kept_office.specs.Places.{places_of, shown_by}
use Rattle.hh_kept_office.proofs.KeptLaws.{kept_then}
use Rattle.hh_kept_office.proofs.PathLaws.{err_is, turned}
use Rattle.hh_kept_office.proofs.path.run_errand_at.Goals as goal

pub returns-in_err-ended-clause-ends : goal.returns-in_err-ended-clause-ends
returns-in_err-ended-clause-ends g c =
    let places = places_of g.D.DatabaseHost.finds g.D.DatabaseHost.refuses g.D.DatabaseHost.opens g.D.DatabaseHost.closes g.D.DatabaseHost.discards (shown_by g.S.Store) c.args.host.now in
    let device = change g.O.Sink.taken g.O.Sink.failures c.args.out.now c.run_errand_in_database-ended.new.out in
    let found = shown_by g.S.Store c.in_ok-connection.connection in
    let after = c.run_errand_in_database-ended.result.1 in
    let left = shown_by g.S.Store after.connection in
    let ended = c.run_errand_in_database-ended.result.0 in
    let present : places.finds c.args.path.now true = search rules in
    inr (inr (
      present,
      (
        found,
        left,
        ended,
        (c.in_ok-connection.connection, c.in_ok-connection.ensures.opened, refl),
        (c.into_connection.result, c.close.ensures, ap (shown_by g.S.Store) (sym c.into_connection.ensures)),
        err_is c.from_residual-in_err-ended.result (Errand c.in_err-ended.field-0.0) c.from_residual-in_err-ended.ensures.1 ∙ ap at_path (sym c.in_err-ended.was),
        (λ up. kept_then (0 < after.refusals) ⊤ (λ more. tt) (g.D.Host.view c.args.host.now) device (errand_of c.args.errand.now) ended found.committed left.committed
            (c.run_errand_in_database-ended.ensures.ends up)),
      ),
    ))

pub returns-in_err-ended-clause-untouched : goal.returns-in_err-ended-clause-untouched
returns-in_err-ended-clause-untouched g c =
    turned _ Errand stop.Output c.from_residual-in_err-ended.result c.in_err-ended.field-0.0 c.from_residual-in_err-ended.ensures.1
    (subst (λ r. IfErr r (λ why. why ≢ stop.Output → IsReport (errand_of c.args.errand.now) ⊎ (c.run_errand_in_database-ended.new.out ≡ c.args.out.now))) c.in_err-ended.was c.run_errand_in_database-ended.ensures.untouched)

pub returns-clause-ends : goal.returns-clause-ends
returns-clause-ends g c =
    let places = places_of g.D.DatabaseHost.finds g.D.DatabaseHost.refuses g.D.DatabaseHost.opens g.D.DatabaseHost.closes g.D.DatabaseHost.discards (shown_by g.S.Store) c.args.host.now in
    let device = change g.O.Sink.taken g.O.Sink.failures c.args.out.now c.run_errand_in_database-ended.new.out in
    let found = shown_by g.S.Store c.in_ok-connection.connection in
    let after = c.run_errand_in_database-ended.result.1 in
    let left = shown_by g.S.Store after.connection in
    let ended = c.run_errand_in_database-ended.result.0 in
    let present : places.finds c.args.path.now true = search rules in
    inr (inr (
      present,
      (
        found,
        left,
        ended,
        (c.in_ok-connection.connection, c.in_ok-connection.ensures.opened, refl),
        (c.into_connection.result, c.close.ensures, ap (shown_by g.S.Store) (sym c.into_connection.ensures)),
        ap at_path (sym c.in_ok-ended.was),
        (λ up. kept_then (0 < after.refusals) ⊤ (λ more. tt) (g.D.Host.view c.args.host.now) device (errand_of c.args.errand.now) ended found.committed left.committed
            (c.run_errand_in_database-ended.ensures.ends up)),
      ),
    ))
