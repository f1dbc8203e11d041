-- With all parties and units, with what rows name in the other tables, and with all registrations if a row names a unit, a part judges
-- the rows as the whole does.
use Rattle.std.proofs.Common.{◌≡◌, ◌∙◌, List, [], ap, cond, length, refl, sym, true}
use Rattle.std.specs.Prelude.{filter}
use Rattle.std.specs.Cmp.{Equal-is, eq_by_cmp_equiv}
use Rattle.std.specs.Ordering.{eq_by_cmp, is_eq}
use Rattle.std.specs.FinMap.{find}
use Rattle.std.specs.Option.{IfSome}
use Rattle.std.proofs.lemmas.List.Folds.{list_any_at}
use Rattle.hh_tables.specs.Tables.{IsTable, Table}
use Rattle.hh_tables.proofs.FilterLaws.{filter_within}
use Rattle.hh_names.specs.Accounts.{bytes_cmp}
use Rattle.hh_names.specs.declared.values.Reallocation.{Reallocation}
use Rattle.hh_names.proofs.AccountLaws.{bytes_total}
use Rattle.hh_rows.specs.declared.keys.ReallocationKey.{ReallocationKey}
use Rattle.hh_rows.specs.declared.keys.UnitPeriod.{UnitPeriod}
use Rattle.hh_rows.specs.declared.rows.Row.{Row}
use Rattle.hh_rows.specs.declared.rows.Row.TheVariants as row
use Rattle.hh_rows.specs.Keys.{contract_key_cmp, reallocation_key_cmp, settlement_period_cmp, unit_period_cmp}
use Rattle.hh_rows.proofs.KeyLaws.{exact_unit_periods}
use Rattle.hh_rules.specs.History.{Registered}
use Rattle.hh_rules.specs.RegisterView.{AgreesOn}
use Rattle.hh_kept_rows.specs.Parts.{leads_for, names_unit}
use Rattle.hh_sqlparts.specs.Named.{JudgesFor}
use Rattle.hh_sqlparts.specs.steps.Named.{FindsNamed, price_key_of, reading_key_of, reallocations_of, reference_of, unit_of, volume_key_of}
use Rattle.hh_sqlparts.proofs.NamedRows.{HasReallocations}

-- the reallocations of a unit in a Settlement Period are among those of the unit
in_period : (es : Table ReallocationKey Reallocation) (at : UnitPeriod)
    → filter (λ e. eq_by_cmp unit_period_cmp e.0.unit_period at) (reallocations_of es at.unit) ≡ filter (λ (e : ReallocationKey × Reallocation). eq_by_cmp unit_period_cmp e.0.unit_period at) es
in_period es at =
    filter_within (λ (e : ReallocationKey × Reallocation). eq_by_cmp unit_period_cmp e.0.unit_period at) (λ e. is_eq (bytes_cmp e.0.unit_period.unit at.unit))
    (λ e here. ap (λ (p : UnitPeriod). is_eq (bytes_cmp p.unit at.unit)) (exact_unit_periods e.0.unit_period at ((Equal-is (unit_period_cmp e.0.unit_period at)).0 here))
    ∙ (eq_by_cmp_equiv bytes_total).refl at.unit) es

-- the part has what each row is judged by
module _ (whole part : Registered) (parties : part.parties ≡ whole.parties) (units : part.units ≡ whole.units) where
  agrees_by_names : (r : Row) → IfSome (reference_of r) (λ k. find bytes_cmp k part.references ≡ find bytes_cmp k whole.references)
      → IfSome (reading_key_of r) (λ k. find unit_period_cmp k part.meters ≡ find unit_period_cmp k whole.meters)
      → IfSome (price_key_of r) (λ k. find settlement_period_cmp k part.prices ≡ find settlement_period_cmp k whole.prices)
      → IfSome (volume_key_of r) (λ k. find contract_key_cmp k part.contracts ≡ find contract_key_cmp k whole.contracts)
      → IfSome (unit_of r) (λ unit. reallocations_of part.reallocations unit ≡ reallocations_of whole.reallocations unit) → (names_unit r ≡ true → part.leads ≡ whole.leads) → AgreesOn whole part r
  agrees_by_names (row.Party r) reference reading price volume reallocated leads = ap (find bytes_cmp r.party) parties
  agrees_by_names (row.Unit r) reference reading price volume reallocated leads = (ap (find bytes_cmp r.registration.lead.party) parties, ap (find bytes_cmp r.unit) units, reallocated, leads refl)
  agrees_by_names (row.Meter r) reference reading price volume reallocated leads = (ap (find bytes_cmp r.key.unit) units, reading, leads refl)
  agrees_by_names (row.Price r) reference reading price volume reallocated leads = price
  agrees_by_names (row.Contract r) reference reading price volume reallocated leads =
      (ap (find bytes_cmp r.contract.counterparties.seller.party) parties, ap (find bytes_cmp r.contract.counterparties.buyer.party) parties, reference, volume)
  agrees_by_names (row.Reallocation r) reference reading price volume reallocated leads = (
    ap (find bytes_cmp r.key.account.party) parties,
    ap (find bytes_cmp r.key.unit_period.unit) units,
    sym (in_period part.reallocations r.key.unit_period)
        ∙ ap (filter (λ (e : ReallocationKey × Reallocation). eq_by_cmp unit_period_cmp e.0.unit_period r.key.unit_period)) reallocated
        ∙ in_period whole.reallocations r.key.unit_period,
    leads refl,
  )

  pub judges_by_names : (rows : List Row) → IsTable reallocation_key_cmp whole.reallocations
      → FindsNamed bytes_cmp reference_of rows whole.references part.references → FindsNamed unit_period_cmp reading_key_of rows whole.meters part.meters
      → FindsNamed settlement_period_cmp price_key_of rows whole.prices part.prices → FindsNamed contract_key_cmp volume_key_of rows whole.contracts part.contracts
      → HasReallocations rows whole.reallocations part.reallocations → part.leads ≡ leads_for rows whole.leads [] → JudgesFor rows whole part
  judges_by_names rows rises references meters prices volumes reallocated leads lead_minutes = record {
    rising = rises;
    part_rising = reallocated.0;
    lead_minutes = refl;
    parties = ap length parties;
    units = ap length units;
    agrees = λ k d below. agrees_by_names _ (references k d below) (meters k d below) (prices k d below) (volumes k d below) (reallocated.1 k d below)
        (λ names. leads ∙ ap (λ b. cond b whole.leads []) (list_any_at names_unit rows k d below names));
  }
