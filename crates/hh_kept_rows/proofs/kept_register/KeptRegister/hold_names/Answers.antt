use Rattle.std.proofs.Common.{subst, sym}
use Rattle.std.specs.Prelude.{OnOk}
use Rattle.std.proofs.lemmas.Result.{on_ok_weaker}
use Rattle.hh_rules.specs.RegisterView.{tables_in}
use Rattle.hh_kept_rows.specs.steps.Parts.{AgreesOnNames}
use Rattle.hh_kept_rows.proofs.PartLaws.{grows_twice, part_grown, party_grown, reference_grown, unit_grown, where_both}
use Rattle.hh_kept_rows.proofs.kept_register.KeptRegister.hold_names.Goals as goal

pub returns-in_ok-hold_party-in-Unit-clause-grows : goal.returns-in_ok-hold_party-in-Unit-clause-grows
returns-in_ok-hold_party-in-Unit-clause-grows c = on_ok_weaker c.hold_unit.result (grows_twice c.args.self.now c.args.part.now c.hold_party-in-Unit.new.part c.hold_unit.new.part c.in_ok-hold_party-in-Unit.ensures.grows) c.hold_unit.ensures.grows

pub returns-in_ok-hold_party-in-Unit-clause-agrees : goal.returns-in_ok-hold_party-in-Unit-clause-agrees
returns-in_ok-hold_party-in-Unit-clause-agrees c lead_minutes part =
    let whole = c.args.self.now in
    let held = part_grown whole lead_minutes c.args.part.now c.hold_party-in-Unit.new.part part c.in_ok-hold_party-in-Unit.ensures.grows in
    subst (λ r. OnOk c.hold_unit.result (AgreesOnNames whole (tables_in c.hold_unit.new.part) r)) (sym c.in-Unit.is)
    (where_both c.hold_unit.result (λ grows own. (party_grown whole c.hold_party-in-Unit.new.part c.hold_unit.new.part grows c.in-Unit.row.registration.lead.party (c.in_ok-hold_party-in-Unit.ensures.agrees lead_minutes part), own)) c.hold_unit.ensures.grows (c.hold_unit.ensures.agrees lead_minutes held))

pub returns-in_ok-hold_unit_unless-in-Meter-clause-grows : goal.returns-in_ok-hold_unit_unless-in-Meter-clause-grows
returns-in_ok-hold_unit_unless-in-Meter-clause-grows c = on_ok_weaker c.hold_reading.result (grows_twice c.args.self.now c.args.part.now c.hold_unit_unless.new.part c.hold_reading.new.part c.in_ok-hold_unit_unless-in-Meter.ensures.grows) c.hold_reading.ensures.grows

pub returns-in_ok-hold_unit_unless-in-Meter-clause-agrees : goal.returns-in_ok-hold_unit_unless-in-Meter-clause-agrees
returns-in_ok-hold_unit_unless-in-Meter-clause-agrees c lead_minutes part =
    let whole = c.args.self.now in
    let held = part_grown whole lead_minutes c.args.part.now c.hold_unit_unless.new.part part c.in_ok-hold_unit_unless-in-Meter.ensures.grows in
    subst (λ r. OnOk c.hold_reading.result (AgreesOnNames whole (tables_in c.hold_reading.new.part) r)) (sym c.in-Meter.is)
    (where_both c.hold_reading.result (λ grows own. (unit_grown whole c.hold_unit_unless.new.part c.hold_reading.new.part grows c.in-Meter.row.key.unit (c.in_ok-hold_unit_unless-in-Meter.ensures.agrees lead_minutes part), own)) c.hold_reading.ensures.grows (c.hold_reading.ensures.agrees lead_minutes held))

pub returns-in_ok-hold_party-in-Reallocation-clause-grows : goal.returns-in_ok-hold_party-in-Reallocation-clause-grows
returns-in_ok-hold_party-in-Reallocation-clause-grows c = on_ok_weaker c.hold_unit-in-Reallocation.result (grows_twice c.args.self.now c.args.part.now c.hold_party-in-Reallocation.new.part c.hold_unit-in-Reallocation.new.part c.in_ok-hold_party-in-Reallocation.ensures.grows) c.hold_unit-in-Reallocation.ensures.grows

pub returns-in_ok-hold_party-in-Reallocation-clause-agrees : goal.returns-in_ok-hold_party-in-Reallocation-clause-agrees
returns-in_ok-hold_party-in-Reallocation-clause-agrees c lead_minutes part =
    let whole = c.args.self.now in
    let held = part_grown whole lead_minutes c.args.part.now c.hold_party-in-Reallocation.new.part part c.in_ok-hold_party-in-Reallocation.ensures.grows in
    subst (λ r. OnOk c.hold_unit-in-Reallocation.result (AgreesOnNames whole (tables_in c.hold_unit-in-Reallocation.new.part) r)) (sym c.in-Reallocation.is)
    (where_both c.hold_unit-in-Reallocation.result (λ grows own. (party_grown whole c.hold_party-in-Reallocation.new.part c.hold_unit-in-Reallocation.new.part grows c.in-Reallocation.row.key.account.party (c.in_ok-hold_party-in-Reallocation.ensures.agrees lead_minutes part), own)) c.hold_unit-in-Reallocation.ensures.grows (c.hold_unit-in-Reallocation.ensures.agrees lead_minutes held))

pub returns-in_ok-hold_reference-in-Contract-clause-grows : goal.returns-in_ok-hold_reference-in-Contract-clause-grows
returns-in_ok-hold_reference-in-Contract-clause-grows c =
    let whole = c.args.self.now in
    let parties = grows_twice whole c.args.part.now c.hold_party-in-Contract.new.part c.hold_party-in-Contract-2.new.part c.in_ok-hold_party-in-Contract.ensures.grows c.in_ok-hold_party-in-Contract-2.ensures.grows in
    let names = grows_twice whole c.args.part.now c.hold_party-in-Contract-2.new.part c.hold_reference.new.part parties c.in_ok-hold_reference-in-Contract.ensures.grows in
    on_ok_weaker c.hold_contract.result (grows_twice whole c.args.part.now c.hold_reference.new.part c.hold_contract.new.part names) c.hold_contract.ensures.grows

pub returns-in_ok-hold_reference-in-Contract-clause-agrees : goal.returns-in_ok-hold_reference-in-Contract-clause-agrees
returns-in_ok-hold_reference-in-Contract-clause-agrees c lead_minutes part =
    let whole = c.args.self.now in
    let seller = c.in-Contract.row.contract.counterparties.seller.party in
    let buyer = c.in-Contract.row.contract.counterparties.buyer.party in
    let reference = c.in-Contract.row.key.reference in
    let first = part_grown whole lead_minutes c.args.part.now c.hold_party-in-Contract.new.part part c.in_ok-hold_party-in-Contract.ensures.grows in
    let second = part_grown whole lead_minutes c.hold_party-in-Contract.new.part c.hold_party-in-Contract-2.new.part first c.in_ok-hold_party-in-Contract-2.ensures.grows in
    let third = part_grown whole lead_minutes c.hold_party-in-Contract-2.new.part c.hold_reference.new.part second c.in_ok-hold_reference-in-Contract.ensures.grows in
    let of_seller = party_grown whole c.hold_party-in-Contract-2.new.part c.hold_reference.new.part c.in_ok-hold_reference-in-Contract.ensures.grows seller (party_grown whole c.hold_party-in-Contract.new.part c.hold_party-in-Contract-2.new.part c.in_ok-hold_party-in-Contract-2.ensures.grows seller (c.in_ok-hold_party-in-Contract.ensures.agrees lead_minutes part)) in
    let of_buyer = party_grown whole c.hold_party-in-Contract-2.new.part c.hold_reference.new.part c.in_ok-hold_reference-in-Contract.ensures.grows buyer (c.in_ok-hold_party-in-Contract-2.ensures.agrees lead_minutes first) in
    let of_reference = c.in_ok-hold_reference-in-Contract.ensures.agrees lead_minutes second in
    subst (λ r. OnOk c.hold_contract.result (AgreesOnNames whole (tables_in c.hold_contract.new.part) r)) (sym c.in-Contract.is)
    (where_both c.hold_contract.result (λ grows volume. (
      party_grown whole c.hold_reference.new.part c.hold_contract.new.part grows seller of_seller,
      party_grown whole c.hold_reference.new.part c.hold_contract.new.part grows buyer of_buyer,
      reference_grown whole c.hold_reference.new.part c.hold_contract.new.part grows reference of_reference,
      volume,
    )) c.hold_contract.ensures.grows (c.hold_contract.ensures.agrees lead_minutes third))
