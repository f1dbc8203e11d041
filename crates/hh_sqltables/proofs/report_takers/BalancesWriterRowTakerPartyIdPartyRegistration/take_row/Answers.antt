use Rattle.std.proofs.Common.{◌++◌, [], ◌∷◌, List, ℕ, map, Err, subst, sym}
use Rattle.hh_devices.specs.DeviceChanges.{change}
use Rattle.hh_devices.specs.Devices.{AppendsFront}
use Rattle.hh_reports.specs.Exports.{balances_text}
use Rattle.hh_reports.specs.Nets.{sum_for}
use Rattle.hh_reports.specs.Output.{CountsFault}
use Rattle.hh_reports.specs.Writers.{HasBalances}
use Rattle.hh_rows.specs.declared.rows.PartyRegistration.{PartyRegistration}
use Rattle.hh_keyed_rows.specs.Outputs.{Outputs}
use Rattle.hh_keyed_rows.specs.StoreFaults.{output_fault}
use Rattle.hh_sqltables.proofs.AnswerLaws.{counted_alike, takes_stopped}
use Rattle.hh_sqltables.proofs.ManyLaws.{map_last}
use Rattle.hh_sqltables.proofs.report_takers.BalancesWriterRowTakerPartyIdPartyRegistration.take_row.Goals as goal

abbrev id_of : List ℕ × PartyRegistration → List ℕ
id_of e = e.0

pub returns-in_err-party : goal.returns-in_err-party
returns-in_err-party g c begun report rows has =
    let fault = c.in_err-party.field-0.0 in
    let device = change g.O.Sink.taken g.O.Sink.failures begun c.party.new.out in
    let listed = sym (map_last id_of rows (c.args.key.now, c.args._value.now)) in
    let sent = subst (λ ids. AppendsFront device.old device.new (balances_text ids (λ a. sum_for a report)) × CountsFault device fault) listed (c.in_err-party.ensures begun report (map id_of rows) has) in
    let told : Outputs device {A = Unit {0}} (balances_text (map id_of (rows ++ (c.args.key.now, c.args._value.now) ∷ [])) (λ a. sum_for a report)) (Err (output_fault fault)) = (sent.0, counted_alike device fault sent.1) in
    takes_stopped (λ rs. HasBalances device c.party.new.self report (map id_of rs)) (λ f rs. Outputs device {A = Unit {0}} (balances_text (map id_of rs) (λ a. sum_for a report)) (Err f)) rows _ c.from_residual.result (output_fault fault) c.from_residual.ensures.1 told

pub returns : goal.returns
returns g c begun report rows has =
    let device = change g.O.Sink.taken g.O.Sink.failures begun c.party.new.out in
    let listed = sym (map_last id_of rows (c.args.key.now, c.args._value.now)) in
    subst (HasBalances device c.party.new.self report) listed (c.in_ok-party.ensures begun report (map id_of rows) has)
