use Rattle.std.proofs.Common.{◌∙◌, ◌≡◌, length, rules, sym, subst}
use Rattle.std.specs.Prelude.{All}
use Rattle.hh_calc.specs.steps.Ready.{IsCreditListed}
use Rattle.hh_calc.specs.steps.Sums.{greatest_volume}
use Rattle.hh_calc.proofs.CreditLaws.{unit_named}
use Rattle.hh_calc.proofs.LedgerLaws.{appended, reordered, unit_added, unit_grown, unit_room}
use Rattle.hh_calc.proofs.ledger.add_unit.Goals as goal

pub add_credits-requires-clause-listed : goal.add_credits-requires-clause-listed
add_credits-requires-clause-listed c =
    let first : c.len-first.result ≡ length c.args.credits.now.items = search rules in
    let are = appended _ _ _ _ first (c.deref.ensures.value ∙ c.in_ok-push_credits.ensures.credits) in
    subst (All (IsCreditListed c.args.accounts.now)) (sym are) (unit_named c.args.accounts.now c.args.unit.now c.requires.listed)

pub add_to-requires-clause-room : goal.add_to-requires-clause-room
add_to-requires-clause-room c =
    let first : c.len-first.result ≡ length c.args.credits.now.items = search rules in
    let are = appended _ _ _ _ first (c.deref.ensures.value ∙ c.in_ok-push_credits.ensures.credits) in
    unit_room c.args.unit.now _ are c.args.sums.now c.add_credits.new.sums c.add_credits.new.sums c.requires.few c.requires.room c.add_credits.ensures.grown

pub returns-clause-added : goal.returns-clause-added
returns-clause-added c =
    let first : c.len-first.result ≡ length c.args.credits.now.items = search rules in
    let are = appended _ _ _ _ first (c.deref.ensures.value ∙ c.in_ok-push_credits.ensures.credits) in
    unit_added c.args.unit.now _ are c.args.sums.now c.add_credits.new.sums c.add_to.new.sums c.args.accounts.now _ (search rules) c.lead.result c.lead.ensures
    c.amounts_of_balancing.result c.amounts_of_balancing.ensures.amounts c.add_credits.ensures.added c.add_to.ensures.added

pub returns-clause-grown : goal.returns-clause-grown
returns-clause-grown c =
    let first : c.len-first.result ≡ length c.args.credits.now.items = search rules in
    let are = appended _ _ _ _ first (c.deref.ensures.value ∙ c.in_ok-push_credits.ensures.credits) in
    unit_grown c.args.unit.now _ are c.args.sums.now c.add_credits.new.sums c.add_to.new.sums c.add_credits.ensures.grown
    (c.add_to.ensures.grown greatest_volume c.amounts_of_balancing.ensures.small)

pub returns-clause-credits : goal.returns-clause-credits
returns-clause-credits c =
    reordered _ c.deref_mut.result.now c.put_last_in_place.new.credits _ c.len-first.result _ (c.deref_mut.ensures.value ∙ c.in_ok-push_credits.ensures.credits)
    c.deref_mut.ensures.len c.put_last_in_place.ensures
