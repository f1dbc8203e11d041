use Rattle.std.proofs.Common.{ap, subst, sym, ◌∙◌}
use Rattle.std.specs.Prelude.{[]}
use Rattle.std.specs.List.{All}
use Rattle.sqlite.specs.Held.{state}
use Rattle.hh_tables.specs.Tables.{put_all}
use Rattle.hh_rules.specs.Positions.{position_key_cmp}
use Rattle.hh_sqlrows.specs.Forms.{rows_under_keys}
use Rattle.hh_sqlrows.specs.OfficeTables.{positions}
use Rattle.hh_sqlparts.specs.steps.Moved.{buyer_of, seller_of}
use Rattle.hh_sqlparts.specs.steps.Named.{IsAmong}
use Rattle.hh_sqlparts.proofs.MovedLaws.{serves_by_keys}
use Rattle.hh_sqlparts.proofs.moved_positions.select_positions_named.Goals as goal

pub returns-clause-value : goal.returns-clause-value
returns-clause-value g c stands office settled =
    let rows = c.args.rows.now in
    let trees = (state g.S.Store c.args.conn.now).now.trees in
    let sellers : All (IsAmong position_key_cmp seller_of c.deref.result.now) rows =
    subst (λ names. All (IsAmong position_key_cmp seller_of names) rows) (sym c.deref.ensures.value) c.in_ok-names.ensures.sellers in
    let buyers : All (IsAmong position_key_cmp buyer_of c.deref.result.now) rows =
    subst (λ names. All (IsAmong position_key_cmp buyer_of names) rows) (sym c.deref.ensures.value) c.in_ok-names.ensures.buyers in
    serves_by_keys rows (rows_under_keys positions trees) c.deref.result.now sellers buyers
    c.in_ok-found.found.items c.in_ok-positions_of.field-0 (c.in_ok-found.ensures.value stands office settled)
    (c.in_ok-positions_of.ensures ∙ ap (λ es. put_all position_key_cmp es []) c.deref-2.ensures.value)
