use Rattle.std.proofs.Common.{◌≡◌, ◌++◌, ℕ, Ok, OnOk, true}
use Rattle.sqlite.specs.Held.{state}
use Rattle.sqlite.specs.State.{ExecutesInside}
use Rattle.hh_sqltables.proofs.FrameLaws.{by_form}
use Rattle.hh_sqltables.proofs.PutLaws.{put_by}
use Rattle.hh_sqltables.proofs.table_calls.replace.Goals as goal

pub returns-clause-puts : goal.returns-clause-puts
returns-clause-puts g c clean inside is =
    let table = g.T.OfficeTable in
    let laws = g.met.T.OfficeTable in
    let k = c.args.key.now in
    let v = c.args.value.now in
    let old = state g.S.Store c.args.tx.now.conn.now in
    let new = state g.S.Store c.write_entry.new.tx.conn.now in
    let r = c.write_entry.result in
    put_by table.schema table.form laws.is_table.is_form k v old new is _ c.put.ensures r
    (by_form (λ key value. OnOk r ((key.fits k ≡ true) × (value.fits v ≡ true))) _ _ _ _ laws.is_table.keyed laws.is_table.valued c.write_entry.ensures.fits)
    (by_form (λ key value. OnOk r ((count : ℕ) × ExecutesInside 0 c.put.result.now (key.write k ++ value.write v) old new (Ok count))) _ _ _ _ laws.is_table.keyed laws.is_table.valued (c.write_entry.ensures.writes clean inside))
