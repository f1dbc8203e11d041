use Rattle.std.proofs.Common.{◌≡◌, ◌∙◌, ap, subst, sym}
use Rattle.std.specs.Prelude.{filter_map, unwrap_or}
use Rattle.hh_tables.specs.Tables.{put_all}
use Rattle.hh_names.specs.Accounts.{bytes_cmp}
use Rattle.hh_rows.specs.Keys.{contract_key_cmp, reallocation_key_cmp, settlement_period_cmp, unit_period_cmp}
use Rattle.hh_rules.specs.Entries.{contract_entry, meter_entry, party_entry, price_entry, reallocation_entry, unit_entry}
use Rattle.hh_rules.specs.History.{Registered}
use Rattle.hh_rules.specs.Leads.{registered_units}
use Rattle.hh_states.specs.Changes.{registered_with}
use Rattle.hh_plain_tables.specs.declared.changed_tables.ChangedTables.{ChangedTables}
use Rattle.hh_plain_tables.specs.steps.KeptTables.{after_units, with_changed}
use Rattle.hh_plain_tables.proofs.KeptLaws.{changed_with}
use Rattle.hh_plain_tables.proofs.changed_tables.changed_by.Goals as goal

pub returns : goal.returns
returns c =
    let changed : ChangedTables = record { parties = c.in_ok-parties.parties; units = c.in_ok-units.units; references = c.in_ok-references.references; meters = c.in_ok-meters.meters; prices = c.in_ok-prices.prices; contracts = c.in_ok-contracts.contracts; reallocations = c.in_ok-reallocations.reallocations } in
    subst (λ t. with_changed changed t ≡ registered_with c.args.change.now t) c.register.view_is
    (changed_with c.args.change.now (record { parties = c.register.inside.parties; units = c.register.inside.units; leads = c.register.inside.leads; references = c.register.inside.references; meters = c.register.inside.meters; prices = c.register.inside.prices; contracts = c.register.inside.contracts; reallocations = c.register.inside.reallocations }) changed
    (c.in_ok-parties.ensures ∙ ap (λ es. put_all bytes_cmp es c.register.inside.parties) (c.in_ok-parties_of.ensures ∙ ap (filter_map party_entry) c.rows-rows.ensures))
    (subst (λ (t : Registered). unwrap_or c.in_ok-units.units (registered_units t) ≡ after_units (filter_map unit_entry c.args.change.now.rows) (registered_units t)) (sym c.register.view_is)
    (c.in_ok-units.ensures ∙ ap (λ es. after_units es (registered_units c.args.register.now)) (c.deref.ensures.value ∙ c.in_ok-of_units.ensures ∙ ap (filter_map unit_entry) c.rows-rows.ensures)))
    (c.in_ok-references.ensures ∙ ap (λ es. put_all bytes_cmp es c.register.inside.references) (c.in_ok-fixed.ensures.items ∙ c.references.ensures))
    (c.in_ok-meters.ensures ∙ ap (λ es. put_all unit_period_cmp es c.register.inside.meters) (c.in_ok-meters_of.ensures ∙ ap (filter_map meter_entry) c.rows-rows.ensures))
    (c.in_ok-prices.ensures ∙ ap (λ es. put_all settlement_period_cmp es c.register.inside.prices) (c.in_ok-prices_of.ensures ∙ ap (filter_map price_entry) c.rows-rows.ensures))
    (c.in_ok-contracts.ensures ∙ ap (λ es. put_all contract_key_cmp es c.register.inside.contracts) (c.in_ok-contracts_of.ensures ∙ ap (filter_map contract_entry) c.rows-rows.ensures))
    (c.in_ok-reallocations.ensures ∙ ap (λ es. put_all reallocation_key_cmp es c.register.inside.reallocations) (c.in_ok-reallocations_of.ensures ∙ ap (filter_map reallocation_entry) c.rows-rows.ensures)))
