use Rattle.std.proofs.Common.{ap, subst, sym, ◌∙◌}
use Rattle.std.specs.Prelude.{[]}
use Rattle.std.specs.List.{All}
use Rattle.hh_rows.specs.Keys.{contract_key_cmp}
use Rattle.sqlite.specs.Held.{state}
use Rattle.hh_tables.specs.Tables.{put_all}
use Rattle.hh_sqlrows.specs.Forms.{rows_under_keys}
use Rattle.hh_sqlrows.specs.OfficeTables.{contracts}
use Rattle.hh_sqlparts.specs.steps.Named.{IsAmong, volume_key_of}
use Rattle.hh_sqlparts.proofs.NamedTables.{contracts_named}
use Rattle.hh_sqlparts.proofs.moved_positions.select_volumes_named.Goals as goal

pub returns-clause-value : goal.returns-clause-value
returns-clause-value g c stands office settled =
    let trees = (state g.S.Store c.args.conn.now).now.trees in
    let among : All (IsAmong contract_key_cmp volume_key_of c.deref.result.now) c.args.rows.now =
    subst (λ names. All (IsAmong contract_key_cmp volume_key_of names) c.args.rows.now) (sym c.deref.ensures.value) c.in_ok-names.ensures in
    contracts_named c.args.rows.now (rows_under_keys contracts trees) c.deref.result.now among
    c.in_ok-found.found.items c.in_ok-volumes_of.field-0 (c.in_ok-found.ensures.value stands office settled)
    (c.in_ok-volumes_of.ensures ∙ ap (λ es. put_all contract_key_cmp es []) c.deref-2.ensures.value)
