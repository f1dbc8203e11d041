-- A part of a register gets rows that the whole has, and then serves for the rows that name these.
use Rattle.std.proofs.Common.{◌≡◌, ℕ, ◌+◌, ◌<◌, List, [], ◌∷◌, length, take, get_or, refl, sym, ap, subst, ◌∙◌, true, false, cond, Some, None, Ordering, inl, inr}
use Rattle.std.specs.Prelude.{◌⊎◌, ℤ, All, OnOk, Result, Ok, Err}
use Rattle.std.specs.Cmp.{IsTotalOrder, Equal-is, eq_by_cmp_equiv}
use Rattle.std.specs.FinMap.{find, put}
use Rattle.std.specs.FinMap.Entries.{find-put}
use Rattle.std.specs.Ordering.{eq_by_cmp}
use Rattle.std.specs.declared.cmp.Ordering.TheVariants.{Equal}
use Rattle.std.proofs.lemmas.List.Elements.{All-head, All-more, All-tail, All-weaker}
use Rattle.std.proofs.lemmas.Map.Lookups.{exact_bytes}
use Rattle.hh_tables.specs.Tables.{Table}
use Rattle.hh_names.specs.declared.values.Counterparties.{Counterparties}
use Rattle.hh_names.specs.declared.values.Reading.{Reading}
use Rattle.hh_names.specs.Accounts.{bytes_cmp}
use Rattle.hh_names.proofs.AccountLaws.{bytes_total}
use Rattle.hh_rows.specs.declared.rows.Row.{Row}
use Rattle.hh_rows.specs.declared.rows.Row.TheVariants as row
use Rattle.hh_rows.specs.declared.rows.PartyRegistration.{PartyRegistration}
use Rattle.hh_rows.specs.declared.rows.UnitRegistration.{UnitRegistration}
use Rattle.hh_rows.specs.Keys.{contract_key_cmp, settlement_period_cmp, unit_period_cmp}
use Rattle.hh_rows.specs.declared.keys.ContractKey.{ContractKey}
use Rattle.hh_rows.specs.declared.keys.UnitPeriod.{UnitPeriod}
use Rattle.hh_rows.specs.declared.settlement_period.SettlementPeriod.{SettlementPeriod}
use Rattle.hh_rows.proofs.KeyLaws.{contract_key_total, exact_contract_keys, exact_settlement_periods, exact_unit_periods, settlement_period_total, unit_period_total}
use Rattle.hh_rules.specs.History.{Registered}
use Rattle.hh_rules.specs.RegisterView.{AgreesOnParty, AgreesOnReference, AgreesOnUnit, RegisterView, empty_part, holding_contract, holding_party, holding_price, holding_reading, holding_reference, holding_unit, tables_in}
use Rattle.hh_kept_rows.specs.Parts.{whole_of}
use Rattle.hh_kept_rows.specs.steps.Parts.{AgreesOnNames, AgreesOnUnits, Grows, GrowsTable, IsPartOf, IsPartOfTable}

module _ {K V : Type 0} {R : K → K → Ordering} (o : IsTotalOrder R) (exact : (x y : K) → R x y ≡ Equal → x ≡ y) (whole old : Table K V) (k : K) (v : V) (has : find R k whole ≡ Some v) where
  -- the part after an entry of the whole is put into it
  grows-put : GrowsTable R whole old (put R k v old)
  grows-put q = elim (eq_by_cmp R q k) as (λ b. eq_by_cmp R q k ≡ b → (find R q (put R k v old) ≡ find R q old) ⊎ (find R q (put R k v old) ≡ find R q whole)) [
    | true ↦ λ same. inr (find-put R o q k v old ∙ ap (λ b. cond b (Some v) (find R q old)) same ∙ sym has ∙ ap (λ x. find R x whole) (sym (exact q k ((Equal-is (R q k)).0 same))))
    | false ↦ λ apart. inl (find-put R o q k v old ∙ ap (λ b. cond b (Some v) (find R q old)) apart)
  ] refl

  agrees-put : find R k (put R k v old) ≡ find R k whole
  agrees-put = find-put R o k k v old ∙ ap (λ b. cond b (Some v) (find R k old)) ((eq_by_cmp_equiv o).refl k) ∙ sym has

module _ {K V : Type 0} (R : K → K → Ordering) (whole : Table K V) (k : K) where
  -- if the whole has nothing under a key, the part has nothing
  agrees-none : (part : Table K V) → IsPartOfTable R whole part → find R k whole ≡ None → find R k part ≡ find R k whole
  agrees-none part within none = elim (within k) as (λ _. find R k part ≡ find R k whole) [ inl nothing ↦ nothing ∙ sym none | inr same ↦ same ]

  -- a key that agrees still does
  agrees-grown : (old new : Table K V) → GrowsTable R whole old new → find R k old ≡ find R k whole → find R k new ≡ find R k whole
  agrees-grown old new grows agrees = elim (grows k) as (λ _. find R k new ≡ find R k whole) [ inl same ↦ same ∙ agrees | inr has ↦ has ]

module _ {K V : Type 0} (R : K → K → Ordering) (whole : Table K V) where
  within-grown : (old new : Table K V) → IsPartOfTable R whole old → GrowsTable R whole old new → IsPartOfTable R whole new
  within-grown old new within grows k = elim (grows k) as (λ _. (find R k new ≡ None) ⊎ (find R k new ≡ find R k whole)) [
    | inl same ↦ elim (within k) as (λ _. (find R k new ≡ None) ⊎ (find R k new ≡ find R k whole)) [ inl nothing ↦ inl (same ∙ nothing) | inr is ↦ inr (same ∙ is) ]
    | inr has ↦ inr has
  ]

  grows-both : (a b c : Table K V) → GrowsTable R whole a b → GrowsTable R whole b c → GrowsTable R whole a c
  grows-both a b c first second k = elim (second k) as (λ _. (find R k c ≡ find R k a) ⊎ (find R k c ≡ find R k whole)) [
    | inl same ↦ elim (first k) as (λ _. (find R k c ≡ find R k a) ⊎ (find R k c ≡ find R k whole)) [ inl before ↦ inl (same ∙ before) | inr has ↦ inr (same ∙ has) ]
    | inr has ↦ inr has
  ]

module _ {K V : Type 0} {R : K → K → Ordering} (exact : (x y : K) → R x y ≡ Equal → x ≡ y) (P : K → Type 0) where
  -- if the keys of all entries have a property, so has each key that is found
  found-among : (es : Table K V) → All (λ e. P e.0) es → (k : K) → (find R k es ≡ None) ⊎ P k
  found-among [] each k = inl refl
  found-among (e ∷ es) each k = elim (eq_by_cmp R k e.0) as (λ b. eq_by_cmp R k e.0 ≡ b → (cond b (Some e.1) (find R k es) ≡ None) ⊎ P k) [
    | true ↦ λ same. inr (subst P (sym (exact k e.0 ((Equal-is (R k e.0)).0 same))) (All-head (λ (e : K × V). P e.0) e es each))
    | false ↦ λ apart. found-among es (All-tail (λ (e : K × V). P e.0) e es each) k
  ] refl

module _ (whole : Registered) where
  pub grows_none : (part : RegisterView) → Grows whole part part
  grows_none part = record {
    lead_minutes = refl;
    party_count = refl;
    unit_count = refl;
    parties = λ k. inl refl;
    units = λ k. inl refl;
    references = λ k. inl refl;
    meters = λ k. inl refl;
    prices = λ k. inl refl;
    contracts = λ k. inl refl;
    reallocations = refl;
  }

  pub grows_twice : (a b c : RegisterView) → Grows whole a b → Grows whole b c → Grows whole a c
  grows_twice a b c first second = record {
    lead_minutes = second.lead_minutes ∙ first.lead_minutes;
    party_count = second.party_count ∙ first.party_count;
    unit_count = second.unit_count ∙ first.unit_count;
    parties = grows-both bytes_cmp whole.parties (tables_in a).parties (tables_in b).parties (tables_in c).parties first.parties second.parties;
    units = grows-both bytes_cmp whole.units (tables_in a).units (tables_in b).units (tables_in c).units first.units second.units;
    references = grows-both bytes_cmp whole.references (tables_in a).references (tables_in b).references (tables_in c).references first.references second.references;
    meters = grows-both unit_period_cmp whole.meters (tables_in a).meters (tables_in b).meters (tables_in c).meters first.meters second.meters;
    prices = grows-both settlement_period_cmp whole.prices (tables_in a).prices (tables_in b).prices (tables_in c).prices first.prices second.prices;
    contracts = grows-both contract_key_cmp whole.contracts (tables_in a).contracts (tables_in b).contracts (tables_in c).contracts first.contracts second.contracts;
    reallocations = second.reallocations ∙ first.reallocations;
  }

  pub part_grown : (lead_minutes : ℕ) (old new : RegisterView) → IsPartOf (whole_of lead_minutes whole) old → Grows whole old new → IsPartOf (whole_of lead_minutes whole) new
  part_grown lead_minutes old new part grows = record {
    lead_minutes = grows.lead_minutes ∙ part.lead_minutes;
    party_count = grows.party_count ∙ part.party_count;
    unit_count = grows.unit_count ∙ part.unit_count;
    parties = within-grown bytes_cmp whole.parties (tables_in old).parties (tables_in new).parties part.parties grows.parties;
    units = within-grown bytes_cmp whole.units (tables_in old).units (tables_in new).units part.units grows.units;
    references = within-grown bytes_cmp whole.references (tables_in old).references (tables_in new).references part.references grows.references;
    meters = within-grown unit_period_cmp whole.meters (tables_in old).meters (tables_in new).meters part.meters grows.meters;
    prices = within-grown settlement_period_cmp whole.prices (tables_in old).prices (tables_in new).prices part.prices grows.prices;
    contracts = within-grown contract_key_cmp whole.contracts (tables_in old).contracts (tables_in new).contracts part.contracts grows.contracts;
    reallocations = grows.reallocations ∙ part.reallocations;
  }

  module _ (old new : RegisterView) (grows : Grows whole old new) where
    pub party_grown : (party : List ℕ) → AgreesOnParty whole (tables_in old) party → AgreesOnParty whole (tables_in new) party
    party_grown party = agrees-grown bytes_cmp whole.parties party (tables_in old).parties (tables_in new).parties grows.parties

    pub unit_grown : (unit : List ℕ) → AgreesOnUnit whole (tables_in old) unit → AgreesOnUnit whole (tables_in new) unit
    unit_grown unit = agrees-grown bytes_cmp whole.units unit (tables_in old).units (tables_in new).units grows.units

    pub reference_grown : (reference : List ℕ) → AgreesOnReference whole (tables_in old) reference → AgreesOnReference whole (tables_in new) reference
    reference_grown reference = agrees-grown bytes_cmp whole.references reference (tables_in old).references (tables_in new).references grows.references

    pub units_grown : AgreesOnUnits whole (tables_in old) → AgreesOnUnits whole (tables_in new)
    units_grown agrees unit = unit_grown unit (agrees unit)

    -- one more unit agrees
    pub units_more : (units : Table (List ℕ) UnitRegistration) (i : ℕ) (d : List ℕ × UnitRegistration) → i < length units → d ≡ get_or units i d
        → All (λ e. AgreesOnUnit whole (tables_in old) e.0) (take i units) → AgreesOnUnit whole (tables_in new) d.0 → All (λ e. AgreesOnUnit whole (tables_in new) e.0) (take (i + 1) units)
    units_more units i d inside is so_far own =
        let agrees : RegisterView → List ℕ × UnitRegistration → Type 0 = λ part e. AgreesOnUnit whole (tables_in part) e.0 in
        All-more (agrees new) units i d inside
        (All-weaker (agrees old) (agrees new) (λ e. unit_grown e.0) (take i units) so_far)
        (subst (agrees new) is own)

    -- what a row names still agrees
    pub names_grown : (r : Row) → AgreesOnNames whole (tables_in old) r → AgreesOnNames whole (tables_in new) r
    names_grown (row.Party r) party = party_grown r.party party
    names_grown (row.Unit r) (party, unit) = (party_grown r.registration.lead.party party, unit_grown r.unit unit)
    names_grown (row.Meter r) (unit, reading) =
        (unit_grown r.key.unit unit, agrees-grown unit_period_cmp whole.meters r.key (tables_in old).meters (tables_in new).meters grows.meters reading)
    names_grown (row.Price r) price = agrees-grown settlement_period_cmp whole.prices r.at (tables_in old).prices (tables_in new).prices grows.prices price
    names_grown (row.Contract r) (seller, buyer, reference, volume) = (
      party_grown r.contract.counterparties.seller.party seller,
      party_grown r.contract.counterparties.buyer.party buyer,
      reference_grown r.key.reference reference,
      agrees-grown contract_key_cmp whole.contracts r.key (tables_in old).contracts (tables_in new).contracts grows.contracts volume,
    )
    names_grown (row.Reallocation r) (party, unit) = (party_grown r.key.account.party party, unit_grown r.key.unit_period.unit unit)

  module _ (old : RegisterView) where
    -- rows and references of the whole that the part gets
    pub grows_party : (party : List ℕ) (p : PartyRegistration) → find bytes_cmp party whole.parties ≡ Some p → Grows whole old (holding_party old party p)
    grows_party party p has = record {
      lead_minutes = refl;
      party_count = refl;
      unit_count = refl;
      parties = grows-put bytes_total exact_bytes whole.parties (tables_in old).parties party p has;
      units = λ k. inl refl;
      references = λ k. inl refl;
      meters = λ k. inl refl;
      prices = λ k. inl refl;
      contracts = λ k. inl refl;
      reallocations = refl;
    }

    pub agrees_party : (party : List ℕ) (p : PartyRegistration) → find bytes_cmp party whole.parties ≡ Some p → AgreesOnParty whole (tables_in (holding_party old party p)) party
    agrees_party party p has = agrees-put bytes_total exact_bytes whole.parties (tables_in old).parties party p has

    pub grows_unit : (unit : List ℕ) (u : UnitRegistration) → find bytes_cmp unit whole.units ≡ Some u → Grows whole old (holding_unit old unit u)
    grows_unit unit u has = record {
      lead_minutes = refl;
      party_count = refl;
      unit_count = refl;
      parties = λ k. inl refl;
      units = grows-put bytes_total exact_bytes whole.units (tables_in old).units unit u has;
      references = λ k. inl refl;
      meters = λ k. inl refl;
      prices = λ k. inl refl;
      contracts = λ k. inl refl;
      reallocations = refl;
    }

    pub agrees_unit : (unit : List ℕ) (u : UnitRegistration) → find bytes_cmp unit whole.units ≡ Some u → AgreesOnUnit whole (tables_in (holding_unit old unit u)) unit
    agrees_unit unit u has = agrees-put bytes_total exact_bytes whole.units (tables_in old).units unit u has

    pub grows_reference : (reference : List ℕ) (c : Counterparties) → find bytes_cmp reference whole.references ≡ Some c → Grows whole old (holding_reference old reference c)
    grows_reference reference c has = record {
      lead_minutes = refl;
      party_count = refl;
      unit_count = refl;
      parties = λ k. inl refl;
      units = λ k. inl refl;
      references = grows-put bytes_total exact_bytes whole.references (tables_in old).references reference c has;
      meters = λ k. inl refl;
      prices = λ k. inl refl;
      contracts = λ k. inl refl;
      reallocations = refl;
    }

    pub agrees_reference : (reference : List ℕ) (c : Counterparties) → find bytes_cmp reference whole.references ≡ Some c → AgreesOnReference whole (tables_in (holding_reference old reference c)) reference
    agrees_reference reference c has = agrees-put bytes_total exact_bytes whole.references (tables_in old).references reference c has

    pub grows_reading : (key : UnitPeriod) (reading : Reading) → find unit_period_cmp key whole.meters ≡ Some reading → Grows whole old (holding_reading old key reading)
    grows_reading key reading has = record {
      lead_minutes = refl;
      party_count = refl;
      unit_count = refl;
      parties = λ k. inl refl;
      units = λ k. inl refl;
      references = λ k. inl refl;
      meters = grows-put unit_period_total exact_unit_periods whole.meters (tables_in old).meters key reading has;
      prices = λ k. inl refl;
      contracts = λ k. inl refl;
      reallocations = refl;
    }

    pub agrees_reading : (key : UnitPeriod) (reading : Reading) → find unit_period_cmp key whole.meters ≡ Some reading
        → find unit_period_cmp key (tables_in (holding_reading old key reading)).meters ≡ find unit_period_cmp key whole.meters
    agrees_reading key reading has = agrees-put unit_period_total exact_unit_periods whole.meters (tables_in old).meters key reading has

    pub grows_price : (at : SettlementPeriod) (price : ℤ) → find settlement_period_cmp at whole.prices ≡ Some price → Grows whole old (holding_price old at price)
    grows_price at price has = record {
      lead_minutes = refl;
      party_count = refl;
      unit_count = refl;
      parties = λ k. inl refl;
      units = λ k. inl refl;
      references = λ k. inl refl;
      meters = λ k. inl refl;
      prices = grows-put settlement_period_total exact_settlement_periods whole.prices (tables_in old).prices at price has;
      contracts = λ k. inl refl;
      reallocations = refl;
    }

    pub agrees_price : (at : SettlementPeriod) (price : ℤ) → find settlement_period_cmp at whole.prices ≡ Some price
        → find settlement_period_cmp at (tables_in (holding_price old at price)).prices ≡ find settlement_period_cmp at whole.prices
    agrees_price at price has = agrees-put settlement_period_total exact_settlement_periods whole.prices (tables_in old).prices at price has

    pub grows_contract : (key : ContractKey) (volume : ℤ) → find contract_key_cmp key whole.contracts ≡ Some volume → Grows whole old (holding_contract old key volume)
    grows_contract key volume has = record {
      lead_minutes = refl;
      party_count = refl;
      unit_count = refl;
      parties = λ k. inl refl;
      units = λ k. inl refl;
      references = λ k. inl refl;
      meters = λ k. inl refl;
      prices = λ k. inl refl;
      contracts = grows-put contract_key_total exact_contract_keys whole.contracts (tables_in old).contracts key volume has;
      reallocations = refl;
    }

    pub agrees_contract : (key : ContractKey) (volume : ℤ) → find contract_key_cmp key whole.contracts ≡ Some volume
        → find contract_key_cmp key (tables_in (holding_contract old key volume)).contracts ≡ find contract_key_cmp key whole.contracts
    agrees_contract key volume has = agrees-put contract_key_total exact_contract_keys whole.contracts (tables_in old).contracts key volume has

  -- the part has nothing that the whole doesn't have
  module _ (lead_minutes : ℕ) (part : RegisterView) (is : IsPartOf (whole_of lead_minutes whole) part) where
    pub no_party : (party : List ℕ) → find bytes_cmp party whole.parties ≡ None → AgreesOnParty whole (tables_in part) party
    no_party party none = agrees-none bytes_cmp whole.parties party (tables_in part).parties is.parties none

    pub no_unit : (unit : List ℕ) → find bytes_cmp unit whole.units ≡ None → AgreesOnUnit whole (tables_in part) unit
    no_unit unit none = agrees-none bytes_cmp whole.units unit (tables_in part).units is.units none

    -- if all entries of units agree, all units do
    pub all_units : All (λ e. AgreesOnUnit whole (tables_in part) e.0) whole.units → AgreesOnUnits whole (tables_in part)
    all_units each unit = elim (found-among exact_bytes (AgreesOnUnit whole (tables_in part)) whole.units each unit) as (λ _. AgreesOnUnit whole (tables_in part) unit) [
      | inl none ↦ no_unit unit none
      | inr agrees ↦ agrees
    ]

    pub no_reading : (key : UnitPeriod) → find unit_period_cmp key whole.meters ≡ None → find unit_period_cmp key (tables_in part).meters ≡ find unit_period_cmp key whole.meters
    no_reading key none = agrees-none unit_period_cmp whole.meters key (tables_in part).meters is.meters none

    pub no_price : (at : SettlementPeriod) → find settlement_period_cmp at whole.prices ≡ None → find settlement_period_cmp at (tables_in part).prices ≡ find settlement_period_cmp at whole.prices
    no_price at none = agrees-none settlement_period_cmp whole.prices at (tables_in part).prices is.prices none

    pub no_contract : (key : ContractKey) → find contract_key_cmp key whole.contracts ≡ None → find contract_key_cmp key (tables_in part).contracts ≡ find contract_key_cmp key whole.contracts
    no_contract key none = agrees-none contract_key_cmp whole.contracts key (tables_in part).contracts is.contracts none

-- if a call succeeds with two properties, it succeeds with what follows from both
pub where_both : {X E P Q S : Type 0} (r : Result X E) → (P → Q → S) → OnOk r P → OnOk r Q → OnOk r S
where_both (Ok x) both p q = both p q
where_both (Err e) both p q = tt

-- a part that counts all parties and units, but holds none of them yet
pub empty_is_part : (whole : Registered) (lead_minutes parties units : ℕ) → parties ≡ length whole.parties → units ≡ length whole.units → IsPartOf (whole_of lead_minutes whole) (empty_part lead_minutes parties units)
empty_is_part whole lead_minutes parties units all_parties all_units = record {
  lead_minutes = refl;
  party_count = all_parties;
  unit_count = all_units;
  parties = λ k. inl refl;
  units = λ k. inl refl;
  references = λ k. inl refl;
  meters = λ k. inl refl;
  prices = λ k. inl refl;
  contracts = λ k. inl refl;
  reallocations = refl;
}
