use Rattle.std.proofs.Common.{ap, inl, refl}
use Rattle.hh_devices.specs.DeviceChanges.{change}
use Rattle.hh_sqlstore.specs.Stores.{content_in}
use Rattle.hh_session.specs.declared.script.ScriptStop.TheVariants as script
use Rattle.hh_kept_office.specs.Places.{shown_by}
use Rattle.hh_kept_office.proofs.ScriptLaws.{runs_file}
use Rattle.hh_kept_office.proofs.scripts.run_file.Goals as goal

pub returns-in-Ok-clause-runs : goal.returns-in-Ok-clause-runs
returns-in-Ok-clause-runs g c =
    let tables = c.in-Ok.tables in
    runs_file (g.H.Host.view c.args.host.now) (change g.O.Sink.taken g.O.Sink.failures c.args.out.now c.run_file_over.new.out) c.args.file.now
    (shown_by g.S.Store c.args.connection) (shown_by g.S.Store tables.connection) (shown_by g.S.Store c.run_file_over.result.1) (content_in g.S.Store tables)
    c.in-Ok.ensures.holds c.in-Ok.ensures.content c.in-Ok.ensures.left c.run_file_over.ensures.sure c.args.strict c.run_file_over.result.0 c.run_file_over.ensures.runs

pub returns-in-Err-clause-runs : goal.returns-in-Err-clause-runs
returns-in-Err-clause-runs g c =
    (inl ((c.in-Err.fault, ap (λ fault. script.Refused fault) c.from.ensures), c.in-Err.ensures.left), refl)
