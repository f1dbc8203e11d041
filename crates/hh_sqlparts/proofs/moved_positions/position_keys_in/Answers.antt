use Rattle.std.proofs.Common.{◌+◌, subst, sym, take}
use Rattle.std.specs.BTreeSet.{BTreeSet}
use Rattle.std.specs.List.{All}
use Rattle.hh_rules.specs.Positions.{position_key_cmp}
use Rattle.hh_rules.specs.declared.positions.PositionKey.{PositionKey}
use Rattle.hh_sqlparts.specs.steps.Moved.{buyer_of, seller_of}
use Rattle.hh_sqlparts.specs.steps.Named.{IsAmong}
use Rattle.hh_sqlparts.proofs.MovedLaws.{among_listed, buyers_more, no_buyer_more, no_seller_more, sellers_more}
use Rattle.hh_sqlparts.proofs.moved_positions.position_keys_in.Goals as goal
use Rattle.hh_sqlparts.proofs.moved_positions.position_keys_in.Goals.{in-Contract+in_ok-insert_both, in_default}

pub loop-row-preserved : goal.loop-row-preserved
loop-row-preserved c =
    let rows = c.args.rows.now in
    let i = c.loop-row.row-index in
    let old = c.loop-row.keys in
    elim c.match-row.branch [
      | in-Contract+in_ok-insert_both w ↦ record {
        sellers = subst (λ (s : BTreeSet PositionKey). All (IsAmong position_key_cmp seller_of s.keys) (take (i + 1) rows)) (sym w.keys-is)
            (sellers_more rows i c.row-item.result c.loop-row-test.true c.row-item.is old w.insert_both.new.keys w.in-Contract.row w.in-Contract.is (w.in_ok-insert_both.ensures {u = tt}) c.loop-row.invariant.sellers);
        buyers = subst (λ (s : BTreeSet PositionKey). All (IsAmong position_key_cmp buyer_of s.keys) (take (i + 1) rows)) (sym w.keys-is)
            (buyers_more rows i c.row-item.result c.loop-row-test.true c.row-item.is old w.insert_both.new.keys w.in-Contract.row w.in-Contract.is (w.in_ok-insert_both.ensures {u = tt}) c.loop-row.invariant.buyers);
      }
      | in_default w ↦ record {
        sellers = no_seller_more rows i c.row-item.result c.loop-row-test.true c.row-item.is old c.match-row.keys w.keys-is w.in_default.not-Contract c.loop-row.invariant.sellers;
        buyers = no_buyer_more rows i c.row-item.result c.loop-row-test.true c.row-item.is old c.match-row.keys w.keys-is w.in_default.not-Contract c.loop-row.invariant.buyers;
      }
    ]

pub returns-clause-sellers : goal.returns-clause-sellers
returns-clause-sellers c = among_listed (λ list. list.items) seller_of c.args.rows.now c.loop-row.row-index c.loop-row.keys.keys c.loop-row-test.false c.loop-row.invariant.sellers c.names_of.result c.names_of.ensures

pub returns-clause-buyers : goal.returns-clause-buyers
returns-clause-buyers c = among_listed (λ list. list.items) buyer_of c.args.rows.now c.loop-row.row-index c.loop-row.keys.keys c.loop-row-test.false c.loop-row.invariant.buyers c.names_of.result c.names_of.ensures
