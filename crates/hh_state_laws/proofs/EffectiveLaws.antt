-- What is registered stays effective if no range shrinks and no reference changes its counterparties. And what accepted rows name is
-- effective.
use Rattle.std.proofs.Common.{◌≡◌, ◌≢◌, ℕ, ◌≤◌, List, refl, sym, ap, ◌∙◌, true, false, cond, Some, None, arith}
use Rattle.std.specs.Prelude.{nat_le, not, is_none, is_some, IsTrue}
use Rattle.std.specs.Cmp.{Equal-is, eq_by_cmp_equiv}
use Rattle.std.specs.FinMap.{find, put}
use Rattle.std.specs.FinMap.Entries.{find-put}
use Rattle.std.proofs.lemmas.Bool.{and_from, and_parts, le-leb, leb-true, not-false}
use Rattle.hh_tables.proofs.TableLaws.{false_is_not_true}
use Rattle.hh_names.specs.declared.account.Account.{Account}
use Rattle.hh_names.specs.declared.values.Counterparties.{Counterparties}
use Rattle.hh_names.specs.Accounts.{account_cmp, bytes_cmp, is_same_account}
use Rattle.hh_names.specs.CounterpartyRule.{are_same_counterparties, is_moved}
use Rattle.hh_names.proofs.AccountLaws.{account_total, bytes_total, exact_accounts}
use Rattle.hh_rows.specs.DateRanges.{Range, earlier, holds, is_inside}
use Rattle.hh_rows.specs.declared.keys.ContractKey.{ContractKey}
use Rattle.hh_rows.specs.declared.keys.ReallocationKey.{ReallocationKey}
use Rattle.hh_rows.specs.declared.rows.PartyRegistration.{PartyRegistration}
use Rattle.hh_rows.specs.declared.rows.UnitRegistration.{UnitRegistration}
use Rattle.hh_registrations.specs.Registrations.{widened}
use Rattle.hh_rules.specs.Effects.{put_new}
use Rattle.hh_rules.specs.History.{Registered}
use Rattle.hh_rules.specs.Refusals.{is_party_off, is_some_that, is_unit_off, whole_standing}
use Rattle.hh_states.specs.Soundness.{HasCounterparties, IsPartyEffective, IsUnitEffective}
use Rattle.hh_successions.proofs.RowFacts.{earlier_left}
use Rattle.hh_state_laws.proofs.PutLaws.{stays-put_new}

-- accounts that aren't the same differ
pub two_accounts : (a b : Account) → is_same_account a b ≡ false → a ≢ b
two_accounts a b apart one = absurd (false_is_not_true (sym apart ∙ sym (ap (is_same_account a) one) ∙ (eq_by_cmp_equiv account_total).refl a))

-- accounts that are the same are equal
pub one_account : (a b : Account) → is_same_account a b ≡ true → a ≡ b
one_account a b same = exact_accounts a b ((Equal-is (account_cmp a b)).0 same)

-- counterparties that are the same are equal
one_pair : (a b : Counterparties) → are_same_counterparties a b ≡ true → a ≡ b
one_pair a b same =
    let parts = and_parts (is_same_account a.seller b.seller) (is_same_account a.buyer b.buyer) same in
    λ i. record { seller = one_account a.seller b.seller parts.0 i; buyer = one_account a.buyer b.buyer parts.1 i }

-- a range lies inside itself
pub inside_itself : (a : Range) → IsTrue (is_inside a a)
inside_itself a = and_from _ _ (le-leb a.from a.from (omega arith)) (le-leb a.to a.to (omega arith))

-- a range inside a range is inside a wider one
inside_wider : (a b c : Range) → IsTrue (is_inside a b) → IsTrue (is_inside b c) → IsTrue (is_inside a c)
inside_wider a b c inner outer =
    let near = and_parts _ _ inner in
    let far = and_parts _ _ outer in
    let near_from : b.from ≤ a.from = leb-true _ _ near.0 in
    let near_to : a.to ≤ b.to = leb-true _ _ near.1 in
    let far_from : c.from ≤ b.from = leb-true _ _ far.0 in
    let far_to : b.to ≤ c.to = leb-true _ _ far.1 in
    and_from _ _ (le-leb c.from a.from (omega arith)) (le-leb a.to c.to (omega arith))

-- a wider range has the dates that the range has
pub wider_holds : (a b : Range) (date : ℕ) → IsTrue (is_inside a b) → IsTrue (holds a date) → IsTrue (holds b date)
wider_holds a b date inside held =
    let wide = and_parts _ _ inside in
    let at = and_parts _ _ held in
    let from_wide : b.from ≤ a.from = leb-true _ _ wide.0 in
    let to_wide : a.to ≤ b.to = leb-true _ _ wide.1 in
    let from_at : a.from ≤ date = leb-true _ _ at.0 in
    let to_at : date ≤ a.to = leb-true _ _ at.1 in
    and_from _ _ (le-leb b.from date (omega arith)) (le-leb date b.to (omega arith))

-- a party keeps at least the dates that it has
abbrev pub KeepsParty : PartyRegistration → PartyRegistration → Type 0
KeepsParty p q = IsTrue (is_inside p.range q.range)

-- a unit keeps at least the dates that it has
abbrev pub KeepsUnit : UnitRegistration → UnitRegistration → Type 0
KeepsUnit u v = IsTrue (is_inside u.range v.range)

-- a unit that is widened to a row that ends no earlier keeps its dates
pub widened_keeps : (u new : UnitRegistration) → u.range.to ≤ new.range.to → KeepsUnit u (widened (Some u) new)
widened_keeps u new high = and_from (nat_le (earlier u.range.from new.range.from) u.range.from) (nat_le u.range.to new.range.to)
    (le-leb (earlier u.range.from new.range.from) u.range.from (earlier_left u.range.from new.range.from)) (le-leb u.range.to new.range.to high)

-- a row of units has a lead party that is registered, and its range lies inside that party's
pub record IsInsideLead (tables : Registered) (unit : UnitRegistration) : Type 0 where
  pub lead : PartyRegistration
  pub registered : find bytes_cmp unit.lead.party tables.parties ≡ Some lead
  pub inside : IsTrue (is_inside unit.range lead.range)

-- a reallocation's unit and its account's party are effective on its date
pub record IsOfEffective (tables : Registered) (key : ReallocationKey) : Type 0 where
  pub unit : IsUnitEffective tables key.unit_period.unit key.unit_period.at.date
  pub party : IsPartyEffective tables key.account.party key.unit_period.at.date

-- what is registered stays: no range shrinks, and no reference changes its counterparties
pub record Keeps (old new : Registered) : Type 0 where
  pub parties : (party : List ℕ) (p : PartyRegistration) → find bytes_cmp party old.parties ≡ Some p
      → (q : PartyRegistration) × (find bytes_cmp party new.parties ≡ Some q) × KeepsParty p q
  pub units : (unit : List ℕ) (u : UnitRegistration) → find bytes_cmp unit old.units ≡ Some u
      → (v : UnitRegistration) × (find bytes_cmp unit new.units ≡ Some v) × KeepsUnit u v
  pub references : (reference : List ℕ) (c : Counterparties) → find bytes_cmp reference old.references ≡ Some c → find bytes_cmp reference new.references ≡ Some c

-- if what is registered stays
module _ (old new : Registered) (keeps : Keeps old new) where
  -- a party stays effective
  pub party_stays : (party : List ℕ) (date : ℕ) → IsPartyEffective old party date → IsPartyEffective new party date
  party_stays party date was =
      let now = keeps.parties party was.registration was.registered in
      record { registration = now.0; registered = now.1; holding = wider_holds was.registration.range now.0.range date now.2 was.holding }

  -- a unit stays effective
  abbrev pub unit_stays : (unit : List ℕ) (date : ℕ) → IsUnitEffective old unit date → IsUnitEffective new unit date
  unit_stays unit date was =
      let now = keeps.units unit was.registration was.registered in
      record { registration = now.0; registered = now.1; holding = wider_holds was.registration.range now.0.range date now.2 was.holding }

  -- a row of units stays inside its lead party
  pub lead_stays : (u : UnitRegistration) → IsInsideLead old u → IsInsideLead new u
  lead_stays u was =
      let now = keeps.parties u.lead.party was.lead was.registered in
      record { lead = now.0; registered = now.1; inside = inside_wider u.range was.lead.range now.0.range was.inside now.2 }

  -- a contract keeps its counterparties
  pub counterparties_stay : (key : ContractKey) → HasCounterparties old key → HasCounterparties new key
  counterparties_stay key was = record {
    counterparties = was.counterparties;
    fixed = keeps.references key.reference was.counterparties was.fixed;
    different = was.different;
    seller = party_stays was.counterparties.seller.party key.at.date was.seller;
    buyer = party_stays was.counterparties.buyer.party key.at.date was.buyer;
  }

  -- a reallocation's unit and party stay effective
  pub reallocation_stays : (key : ReallocationKey) → IsOfEffective old key → IsOfEffective new key
  reallocation_stays key was = record {
    unit = unit_stays key.unit_period.unit key.unit_period.at.date was.unit;
    party = party_stays key.account.party key.unit_period.at.date was.party;
  }

module _ (tables : Registered) where
  -- a party that is known, and registered for the date, is effective
  pub party_effective : (party : List ℕ) (date : ℕ) → is_none (find bytes_cmp party tables.parties) ≡ false → is_party_off (whole_standing tables) party date ≡ false → IsPartyEffective tables party date
  party_effective party date =
      elim (find bytes_cmp party tables.parties) as (λ o. find bytes_cmp party tables.parties ≡ o
      → is_none o ≡ false → is_some_that (λ (p : PartyRegistration). not (holds p.range date)) o ≡ false → IsPartyEffective tables party date) [
        | None ↦ λ is known on. absurd (false_is_not_true (sym known))
        | Some p ↦ λ is known on. record { registration = p; registered = is; holding = not-false (holds p.range date) on }
      ] refl

  -- a unit that is known, and registered for the date, is effective
  pub unit_effective : (unit : List ℕ) (date : ℕ) → is_none (find bytes_cmp unit tables.units) ≡ false → is_unit_off (whole_standing tables) unit date ≡ false → IsUnitEffective tables unit date
  unit_effective unit date =
      elim (find bytes_cmp unit tables.units) as (λ o. find bytes_cmp unit tables.units ≡ o
      → is_none o ≡ false → is_some_that (λ (u : UnitRegistration). not (holds u.range date)) o ≡ false → IsUnitEffective tables unit date) [
        | None ↦ λ is known on. absurd (false_is_not_true (sym known))
        | Some u ↦ λ is known on. record { registration = u; registered = is; holding = not-false (holds u.range date) on }
      ] refl

  -- a row of units is inside its lead party if that is known and has its dates
  pub inside_lead : (u : UnitRegistration) → is_none (find bytes_cmp u.lead.party tables.parties) ≡ false
      → is_some_that (λ (p : PartyRegistration). not (is_inside u.range p.range)) (find bytes_cmp u.lead.party tables.parties) ≡ false → IsInsideLead tables u
  inside_lead u =
      elim (find bytes_cmp u.lead.party tables.parties) as (λ o. find bytes_cmp u.lead.party tables.parties ≡ o
      → is_none o ≡ false → is_some_that (λ (p : PartyRegistration). not (is_inside u.range p.range)) o ≡ false → IsInsideLead tables u) [
        | None ↦ λ is known wide. absurd (false_is_not_true (sym known))
        | Some p ↦ λ is known wide. record { lead = p; registered = is; inside = not-false (is_inside u.range p.range) wide }
      ] refl

  -- if a reference is new or has these counterparties, it has them after they are put, which only happens if it is new
  pub fixed_by_row : (reference : List ℕ) (c : Counterparties) → is_moved (find bytes_cmp reference tables.references) c ≡ false
      → find bytes_cmp reference (put_new bytes_cmp (Some (reference, c)) tables.references) ≡ Some c
  fixed_by_row reference c =
      elim (find bytes_cmp reference tables.references) as (λ o. find bytes_cmp reference tables.references ≡ o
      → is_moved o c ≡ false → find bytes_cmp reference (put_new bytes_cmp (Some (reference, c)) tables.references) ≡ Some c) [
        | None ↦ λ is stays.
            ap (λ o. find bytes_cmp reference (cond (is_some o) tables.references (put bytes_cmp reference c tables.references))) is
            ∙ find-put bytes_cmp bytes_total reference reference c tables.references
            ∙ ap (λ b. cond b (Some c) (find bytes_cmp reference tables.references)) ((eq_by_cmp_equiv bytes_total).refl reference)
        | Some known ↦ λ is stays.
            stays-put_new bytes_total reference c tables.references reference known is
            ∙ ap (λ x. Some x) (one_pair known c (not-false (are_same_counterparties known c) stays))
      ] refl

  -- parties stay as they are
  pub same_parties : (party : List ℕ) (p : PartyRegistration) → find bytes_cmp party tables.parties ≡ Some p
      → (q : PartyRegistration) × (find bytes_cmp party tables.parties ≡ Some q) × KeepsParty p q
  same_parties party p found = (p, found, inside_itself p.range)

  -- units stay as they are
  pub same_units : (unit : List ℕ) (u : UnitRegistration) → find bytes_cmp unit tables.units ≡ Some u
      → (v : UnitRegistration) × (find bytes_cmp unit tables.units ≡ Some v) × KeepsUnit u v
  same_units unit u found = (u, found, inside_itself u.range)
