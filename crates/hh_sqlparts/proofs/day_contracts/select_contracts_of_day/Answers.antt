use Rattle.std.proofs.Common.{◌≡◌, rules, subst, sym}
use Rattle.sqlite.specs.Held.{state}
use Rattle.hh_rules.specs.History.{Registered, nothing_registered}
use Rattle.hh_rows.proofs.KeyLaws.{contract_key_total}
use Rattle.hh_kept_rows.specs.DayRows.{HasContractsOn}
use Rattle.hh_sqlrows.specs.Contents.{registered_of}
use Rattle.hh_sqlrows.specs.OfficeTables.{contracts}
use Rattle.hh_sqlparts.specs.steps.DayParts.{with_day_contracts}
use Rattle.hh_sqlparts.proofs.DayLaws.{contracts_of_day_part}
use Rattle.hh_sqlparts.proofs.NamedForms.{rows_rise}
use Rattle.hh_sqlparts.proofs.day_contracts.select_contracts_of_day.Goals as goal

pub returns-clause-value : goal.returns-clause-value
returns-clause-value g c stands is settled =
    let whole = registered_of (state g.S.Store c.args.conn.now).now.trees in
    let same : c.select_contracts.new.part ≡ with_day_contracts c.args.date whole nothing_registered = search rules in
    subst (λ (part : Registered). HasContractsOn c.args.date whole part) (sym same)
    (contracts_of_day_part c.args.date whole (rows_rise contracts contract_key_total (state g.S.Store c.args.conn.now).now.trees))
