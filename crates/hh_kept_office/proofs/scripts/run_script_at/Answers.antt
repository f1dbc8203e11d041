use Rattle.std.proofs.Common.{◌∙◌, ap, inr, refl, rules, sym, true}
use Rattle.hh_kept_office.specs.declared.scripts.ScriptPathStop.TheVariants.{Script}
use Rattle.hh_kept_office.specs.Places.{places_of, shown_by}
use Rattle.hh_kept_office.specs.Scripts.{script_at}
use Rattle.hh_kept_office.proofs.PathLaws.{err_is}
use Rattle.hh_kept_office.proofs.scripts.run_script_at.Goals as goal

pub returns-in_err-ended-clause-ends : goal.returns-in_err-ended-clause-ends
returns-in_err-ended-clause-ends g c =
    let places = places_of g.D.DatabaseHost.finds g.D.DatabaseHost.refuses g.D.DatabaseHost.opens g.D.DatabaseHost.closes g.D.DatabaseHost.discards (shown_by g.S.Store) c.args.host.now in
    let present : places.finds c.args.path.now true = search rules in
    inr (inr (
      present,
      (
        shown_by g.S.Store c.in_ok-connection.connection,
        shown_by g.S.Store c.run_file-ended.result.1,
        c.run_file-ended.result.0,
        (c.in_ok-connection.connection, c.in_ok-connection.ensures.opened, refl),
        (c.run_file-ended.result.1, c.close.ensures, refl),
        err_is c.from_residual-in_err-ended.result (Script c.in_err-ended.field-0.0) c.from_residual-in_err-ended.ensures.1 ∙ ap script_at (sym c.in_err-ended.was),
        c.run_file-ended.ensures.runs,
      ),
    ))

pub returns-clause-ends : goal.returns-clause-ends
returns-clause-ends g c =
    let places = places_of g.D.DatabaseHost.finds g.D.DatabaseHost.refuses g.D.DatabaseHost.opens g.D.DatabaseHost.closes g.D.DatabaseHost.discards (shown_by g.S.Store) c.args.host.now in
    let present : places.finds c.args.path.now true = search rules in
    inr (inr (
      present,
      (
        shown_by g.S.Store c.in_ok-connection.connection,
        shown_by g.S.Store c.run_file-ended.result.1,
        c.run_file-ended.result.0,
        (c.in_ok-connection.connection, c.in_ok-connection.ensures.opened, refl),
        (c.run_file-ended.result.1, c.close.ensures, refl),
        ap script_at (sym c.in_ok-ended.was),
        c.run_file-ended.ensures.runs,
      ),
    ))
