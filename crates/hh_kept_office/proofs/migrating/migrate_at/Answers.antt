use Rattle.std.proofs.Common.{◌≡◌, ◌≢◌, ◌∙◌, ap, inr, refl, rules, subst, sym, true}
use Rattle.std.specs.Prelude.{IfErr}
use Rattle.sqlite.specs.Held.{state}
use Rattle.hh_devices.specs.DeviceChanges.{change}
use Rattle.hh_session.specs.errand.ErrandStop.TheVariants as stop
use Rattle.hh_sqlstore.proofs.ContentLaws.{clean_while_open}
use Rattle.hh_kept_office.specs.declared.path.PathStop.TheVariants.{Errand}
use Rattle.hh_kept_office.specs.Paths.{at_path}
use Rattle.hh_kept_office.specs.Places.{places_of, shown_by}
use Rattle.hh_kept_office.proofs.PathLaws.{err_is, migrated, same_taken, turned}
use Rattle.hh_kept_office.proofs.migrating.migrate_at.Goals as goal

pub returns-in_err-ended-clause-migrates : goal.returns-in_err-ended-clause-migrates
returns-in_err-ended-clause-migrates g c =
    let places = places_of g.D.DatabaseHost.finds g.D.DatabaseHost.refuses g.D.DatabaseHost.opens g.D.DatabaseHost.closes g.D.DatabaseHost.discards (shown_by g.S.Store) c.args.host.now in
    let device = change g.O.Sink.taken g.O.Sink.failures c.args.out.now c.migrate_in_database-ended.new.out in
    let path = c.args.path.now in
    let opened = c.in_ok-connection.connection in
    let connection = c.migrate_in_database-ended.result.1 in
    let ended = c.migrate_in_database-ended.result.0 in
    let says = c.migrate_in_database-ended.ensures in
    let present : places.finds path true = search rules in
    inr (inr (
      present,
      (
        shown_by g.S.Store opened,
        shown_by g.S.Store connection,
        ended,
        (opened, c.in_ok-connection.ensures.opened, refl),
        (connection, c.close.ensures, refl),
        err_is c.from_residual-in_err-ended.result (Errand c.in_err-ended.field-0.0) c.from_residual-in_err-ended.ensures.1 ∙ ap at_path (sym c.in_err-ended.was),
        migrated places path device (state g.S.Store opened) (state g.S.Store connection) (clean_while_open g.S.Store connection g.met.S.Store.shut_if_dirty) ended
            says.migrated says.told says.untold says.cut says.refused says.undone
            (same_taken g.O.Sink.taken c.args.out.now c.migrate_in_database-ended.new.out ended says.untouched),
      ),
    ))

pub returns-in_err-ended-clause-untouched : goal.returns-in_err-ended-clause-untouched
returns-in_err-ended-clause-untouched g c =
    turned _ Errand stop.Output c.from_residual-in_err-ended.result c.in_err-ended.field-0.0 c.from_residual-in_err-ended.ensures.1
    (subst (λ r. IfErr r (λ why. why ≢ stop.Output → c.migrate_in_database-ended.new.out ≡ c.args.out.now)) c.in_err-ended.was c.migrate_in_database-ended.ensures.untouched)

pub returns-clause-migrates : goal.returns-clause-migrates
returns-clause-migrates g c =
    let places = places_of g.D.DatabaseHost.finds g.D.DatabaseHost.refuses g.D.DatabaseHost.opens g.D.DatabaseHost.closes g.D.DatabaseHost.discards (shown_by g.S.Store) c.args.host.now in
    let device = change g.O.Sink.taken g.O.Sink.failures c.args.out.now c.migrate_in_database-ended.new.out in
    let path = c.args.path.now in
    let opened = c.in_ok-connection.connection in
    let connection = c.migrate_in_database-ended.result.1 in
    let ended = c.migrate_in_database-ended.result.0 in
    let says = c.migrate_in_database-ended.ensures in
    let present : places.finds path true = search rules in
    inr (inr (
      present,
      (
        shown_by g.S.Store opened,
        shown_by g.S.Store connection,
        ended,
        (opened, c.in_ok-connection.ensures.opened, refl),
        (connection, c.close.ensures, refl),
        ap at_path (sym c.in_ok-ended.was),
        migrated places path device (state g.S.Store opened) (state g.S.Store connection) (clean_while_open g.S.Store connection g.met.S.Store.shut_if_dirty) ended
            says.migrated says.told says.untold says.cut says.refused says.undone
            (same_taken g.O.Sink.taken c.args.out.now c.migrate_in_database-ended.new.out ended says.untouched),
      ),
    ))
