use Rattle.std.proofs.Common.{map, subst, sym, IsTrue}
use Rattle.std.specs.Prelude.{⊤}
use Rattle.sqlite.specs.Held.{state}
use Rattle.hh_devices.specs.DeviceChanges.{change}
use Rattle.hh_script.specs.Steps.{step_of}
use Rattle.hh_kept_office.specs.Running.{EarlyOver, WritesOver}
use Rattle.hh_kept_office.proofs.RunningLaws.{if_early}
use Rattle.hh_session.specs.Course.{AllDone}
use Rattle.hh_session.specs.Refusals.{CountsMore}
use Rattle.hh_sqlstore.specs.Stores.{content_in}
use Rattle.hh_kept_office.specs.Places.{shown_by}
use Rattle.hh_kept_office.proofs.ScriptLaws.{early_file, early_then, writes_then}
use Rattle.hh_kept_office.proofs.scripts.run_file_over.Goals as goal

pub returns-in-Ok-run_over_database-clause-runs : goal.returns-in-Ok-run_over_database-clause-runs
returns-in-Ok-run_over_database-clause-runs g c =
    let host = g.H.Host.view c.args.host.now in
    let device = change g.O.Sink.taken g.O.Sink.failures c.args.out.now c.run_over_database.new.out in
    let steps = map step_of c.in-Ok-read_script.lines.items in
    let after = c.in-Ok-run_over_database.after in
    let content = content_in g.S.Store c.args.tables in
    let same = c.into_connection-in-Ok-run_over_database.ensures in (
      steps,
      (c.in-Ok.bytes.items, c.in-Ok.ensures.whole, c.in-Ok.ensures.small, rw c.deref.ensures.value at c.in-Ok-read_script.ensures.lines),
      λ up.
          subst (λ k. WritesOver host ⊤ device (state g.S.Store k).committed steps content (AllDone c.args.strict)) (sym same)
          (writes_then (CountsMore c.args.tables.refusals after.refusals) ⊤ (λ more. tt) host device (state g.S.Store after.connection).committed content (AllDone c.args.strict) steps
          (rw c.deref-2.ensures.value at (c.in-Ok-run_over_database.ensures.done (subst (λ k. IsTrue (state g.S.Store k).is_open) same up)))),
    )

pub returns-clause-runs : goal.returns-clause-runs
returns-clause-runs g c =
    let host = g.H.Host.view c.args.host.now in
    let device = change g.O.Sink.taken g.O.Sink.failures c.args.out.now c.run_over_database.new.out in
    let steps = map step_of c.in-Ok-read_script.lines.items in
    let after = c.in-Err-run_over_database.after in
    let says = c.in-Err-run_over_database.ensures in
    let content = content_in g.S.Store c.args.tables in
    let taken = shown_by g.S.Store c.args.tables.connection in
    let left = shown_by g.S.Store c.into_connection-in-Err-run_over_database.result in
    let same = c.into_connection-in-Err-run_over_database.ensures in
    early_file host device c.args.file.now c.args.strict content taken left c.stop_of.result c.in-Err-run_over_database.stop c.stop_of.ensures says.run steps
    (c.in-Ok.bytes.items, c.in-Ok.ensures.whole, c.in-Ok.ensures.small, rw c.deref.ensures.value at c.in-Ok-read_script.ensures.lines)
    (if_early c.in-Err-run_over_database.stop _ _
    (λ why cut up.
    subst (λ k. EarlyOver host ⊤ device (state g.S.Store k).committed c.args.strict steps content why) (sym same)
    (early_then (CountsMore c.args.tables.refusals after.refusals) ⊤ (λ more. tt) host device (state g.S.Store after.connection).committed content c.args.strict steps why
    (cut (subst (λ k. IsTrue (state g.S.Store k).is_open) same up))))
    (rw c.deref-2.ensures.value at says.cut))
