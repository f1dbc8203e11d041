use Rattle.std.proofs.Common.{◌≡◌, ◌∙◌, ap}
use Rattle.std.specs.Prelude.{filter}
use Rattle.std.specs.List.{flat_map}
use Rattle.std.proofs.lemmas.Result.{IfOk-weaker}
use Rattle.hh_states.specs.DaySettlement.{from_one_to}
use Rattle.hh_states.specs.Reads.{contracts_of}
use Rattle.hh_kept_rows.specs.steps.KeptContracts.{is_in_period}
use Rattle.hh_kept_rows.proofs.ContractLaws.{contracts_by_period}
use Rattle.hh_kept_rows.proofs.kept_register.KeptRegister.contracts.Goals as goal

pub returns : goal.returns
returns c =
    let found = c.deref.ensures.value ∙ c.in_ok-found.ensures in
    IfOk-weaker c.in_periods.result (λ rows. rows.items ≡ flat_map (λ period. filter (is_in_period period) c.deref.result.now) (from_one_to 50)) (λ rows. rows.items ≡ contracts_of c.args.account.now c.args.date c.args.self.now)
    (λ rows sorted. sorted ∙ ap (λ es. flat_map (λ period. filter (is_in_period period) es) (from_one_to 50)) found ∙ contracts_by_period c.args.account.now c.args.date c.args.self.now) c.in_periods.ensures
