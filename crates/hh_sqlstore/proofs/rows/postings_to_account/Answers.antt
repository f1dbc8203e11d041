use Rattle.std.proofs.Common.{◌∙◌, ap, subst, sym}
use Rattle.std.specs.Prelude.{filter_map}
use Rattle.sqlite.specs.Held.{state}
use Rattle.hh_states.specs.Reads.{posting_to}
use Rattle.hh_sqlstore.specs.Stores.{ArePosted}
use Rattle.hh_sqlstore.proofs.rows.postings_to_account.Goals as goal

pub returns-clause-value : goal.returns-clause-value
returns-clause-value g c at_hand stands office settled =
    let taken = subst (ArePosted (state g.S.Store c.args.conn.now)) (sym c.take.ensures.value) at_hand in
    c.in_ok-found.ensures ∙ ap (filter_map (posting_to c.args.account.now)) (c.deref.ensures.value ∙ c.in_ok-rows.ensures.value taken stands office settled)

pub returns-clause-posted : goal.returns-clause-posted
returns-clause-posted g c at_hand stands office settled opened =
    c.in_ok-rows.ensures.value (subst (ArePosted (state g.S.Store c.args.conn.now)) (sym c.take.ensures.value) at_hand) stands office settled
