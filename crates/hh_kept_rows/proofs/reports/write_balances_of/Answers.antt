use Rattle.std.proofs.Common.{◌≡◌, subst, ◌∙◌}
use Rattle.std.specs.Io.KnownBytes.{Appends}
use Rattle.hh_devices.specs.DeviceChanges.{change}
use Rattle.hh_store.specs.Outputs.{Outputs}
use Rattle.hh_kept_rows.proofs.OutputLaws.{balances_read, told_as_output}
use Rattle.hh_kept_rows.proofs.reports.write_balances_of.Goals as goal

pub returns-in_err-write_balances-clause-writes : goal.returns-in_err-write_balances-clause-writes
returns-in_err-write_balances-clause-writes g c =
    let fault = c.in_err-write_balances.field-0.0 in
    let result = c.from_residual-in_err-write_balances.result in
    subst (λ text. Outputs (change g.S.Sink.taken g.S.Sink.failures c.args.out.now c.write_balances.new.out) text result)
    (balances_read c.args.parties.now c.args.postings.now _ _ (c.deref.ensures.value ∙ c.in_ok-ids.ensures) (c.deref-2.ensures.value ∙ c.in_ok-amounts.ensures))
    (told_as_output _ _ fault result c.from_residual-in_err-write_balances.ensures.1 c.in_err-write_balances.ensures.writes)

pub returns-clause-writes : goal.returns-clause-writes
returns-clause-writes g c =
    subst (λ text. Appends (g.S.Sink.taken c.args.out.now) (g.S.Sink.taken c.write_balances.new.out) text × (g.S.Sink.failures c.write_balances.new.out ≡ g.S.Sink.failures c.args.out.now))
    (balances_read c.args.parties.now c.args.postings.now _ _ (c.deref.ensures.value ∙ c.in_ok-ids.ensures) (c.deref-2.ensures.value ∙ c.in_ok-amounts.ensures))
    c.in_ok-write_balances.ensures.writes
