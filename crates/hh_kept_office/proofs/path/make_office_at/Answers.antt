use Rattle.std.proofs.Common.{◌≡◌, ◌≢◌, ◌∙◌, ap, inr, refl, rules, subst, sym, false}
use Rattle.std.specs.Prelude.{IfErr}
use Rattle.hh_devices.specs.DeviceChanges.{change}
use Rattle.hh_session.specs.errand.ErrandStop.TheVariants as stop
use Rattle.hh_kept_office.specs.declared.path.PathStop.TheVariants.{Errand}
use Rattle.hh_kept_office.specs.Paths.{at_path}
use Rattle.hh_kept_office.specs.Places.{places_of, shown_by}
use Rattle.hh_kept_office.proofs.PathLaws.{err_is, made, put_then, same_taken, turned}
use Rattle.hh_kept_office.proofs.path.make_office_at.Goals as goal

pub returns-in_err-ended-clause-makes : goal.returns-in_err-ended-clause-makes
returns-in_err-ended-clause-makes g c =
    let places = places_of g.D.DatabaseHost.finds g.D.DatabaseHost.refuses g.D.DatabaseHost.opens g.D.DatabaseHost.closes g.D.DatabaseHost.discards (shown_by g.S.Store) c.args.host.now in
    let device = change g.O.Sink.taken g.O.Sink.failures c.args.out.now c.make_office_in_database-ended.new.out in
    let path = c.args.path.now in
    let found = shown_by g.S.Store c.in_ok-connection.connection in
    let connection = c.make_office_in_database-ended.result.1 in
    let left = shown_by g.S.Store connection in
    let ended = c.make_office_in_database-ended.result.0 in
    let says = c.make_office_in_database-ended.ensures in
    let absent : places.finds path false = search rules in
    inr (inr (
      absent,
      (
        found,
        left,
        ended,
        (c.in_ok-connection.connection, c.in_ok-connection.ensures.opened, refl),
        put_then (g.D.DatabaseHost.closes c.args.host.now path connection) (g.D.DatabaseHost.discards c.args.host.now path connection)
            (places.closes path left) (places.discards path left) (λ closed. (connection, closed, refl)) (λ discarded. (connection, discarded, refl)) ended c.put_away.ensures,
        err_is c.from_residual-in_err-ended.result (Errand c.in_err-ended.field-0.0) c.from_residual-in_err-ended.ensures.1 ∙ ap at_path (sym c.in_err-ended.was),
        made places path device c.args.settings found left ended says.made says.told says.untold says.cut says.undone
            (same_taken g.O.Sink.taken c.args.out.now c.make_office_in_database-ended.new.out ended says.untouched),
      ),
    ))

pub returns-in_err-ended-clause-untouched : goal.returns-in_err-ended-clause-untouched
returns-in_err-ended-clause-untouched g c =
    turned _ Errand stop.Output c.from_residual-in_err-ended.result c.in_err-ended.field-0.0 c.from_residual-in_err-ended.ensures.1
    (subst (λ r. IfErr r (λ why. why ≢ stop.Output → c.make_office_in_database-ended.new.out ≡ c.args.out.now)) c.in_err-ended.was c.make_office_in_database-ended.ensures.untouched)

pub returns-clause-makes : goal.returns-clause-makes
returns-clause-makes g c =
    let places = places_of g.D.DatabaseHost.finds g.D.DatabaseHost.refuses g.D.DatabaseHost.opens g.D.DatabaseHost.closes g.D.DatabaseHost.discards (shown_by g.S.Store) c.args.host.now in
    let device = change g.O.Sink.taken g.O.Sink.failures c.args.out.now c.make_office_in_database-ended.new.out in
    let path = c.args.path.now in
    let found = shown_by g.S.Store c.in_ok-connection.connection in
    let connection = c.make_office_in_database-ended.result.1 in
    let left = shown_by g.S.Store connection in
    let ended = c.make_office_in_database-ended.result.0 in
    let says = c.make_office_in_database-ended.ensures in
    let absent : places.finds path false = search rules in
    inr (inr (
      absent,
      (
        found,
        left,
        ended,
        (c.in_ok-connection.connection, c.in_ok-connection.ensures.opened, refl),
        put_then (g.D.DatabaseHost.closes c.args.host.now path connection) (g.D.DatabaseHost.discards c.args.host.now path connection)
            (places.closes path left) (places.discards path left) (λ closed. (connection, closed, refl)) (λ discarded. (connection, discarded, refl)) ended c.put_away.ensures,
        ap at_path (sym c.in_ok-ended.was),
        made places path device c.args.settings found left ended says.made says.told says.untold says.cut says.undone
            (same_taken g.O.Sink.taken c.args.out.now c.make_office_in_database-ended.new.out ended says.untouched),
      ),
    ))
