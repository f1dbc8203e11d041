use Rattle.std.proofs.Common.{arith, ap, rules, sym, ◌∙◌}
use Rattle.std.proofs.lemmas.Map.Lookups.{exact_bytes}
use Rattle.hh_names.proofs.AccountLaws.{bytes_total}
use Rattle.hh_period.specs.Rows.{accepted_or, period_contract_entry, refusal_among}
use Rattle.hh_period.proofs.ContractFacts.{accepted_more, judged, kept_more, known_counterparties, not_memory, refused_here}
use Rattle.hh_period.proofs.GatherFacts.{entries_more}
use Rattle.hh_period.proofs.gather.contracts_in_force.Goals as goal

pub returns-in-Some-clause-accepted : goal.returns-in-Some-clause-accepted
returns-in-Some-clause-accepted c =
    let row = c.index-rows-index.result in
    let known = known_counterparties _ _ c.loop-index.invariant.kept row _ c.in_ok-replaced.ensures.old _ (search rules) _ c.refusal_beside.ensures in
    let among = judged c.args.rows.now c.loop-index.index row (omega arith) c.index-rows-index.is _ known in
    rw c.at_row.ensures
    (not_memory _ row.contract.counterparties _ _ _ (sym c.refusal_beside.ensures ∙ c.in-Some.is)
    (ap (accepted_or c.args.rows.now) (refused_here (refusal_among c.args.rows.now) c.args.rows.now c.loop-index.index row (omega arith) c.index-rows-index.is _ c.loop-index.invariant.accepted _ (sym among ∙ c.in-Some.is))))

pub loop-index-preserved : goal.loop-index-preserved
loop-index-preserved c =
    let row = c.index-rows-index.result in
    let known = known_counterparties _ _ c.loop-index.invariant.kept row _ c.in_ok-replaced.ensures.old _ (search rules) _ c.refusal_beside.ensures in
    let among = judged c.args.rows.now c.loop-index.index row (omega arith) c.index-rows-index.is _ known in
    record {
      entries = entries_more bytes_total exact_bytes period_contract_entry c.args.rows.now c.loop-index.index row (omega arith) c.index-rows-index.is _ c.loop-index.invariant.entries _ c.in_ok-replaced.ensures.entries;
      accepted = accepted_more (refusal_among c.args.rows.now) c.args.rows.now c.loop-index.index row (omega arith) c.index-rows-index.is _ c.loop-index.invariant.accepted (sym among ∙ c.in_default.is);
      kept = kept_more c.args.rows.now c.loop-index.index row (omega arith) c.index-rows-index.is _ _ c.loop-index.invariant.kept (sym known ∙ c.in_default.is) c.in_ok-replaced.ensures.entries;
    }
