use Rattle.std.proofs.Common.{List, ℕ, subst}
use Rattle.sqlite.specs.Held.{state}
use Rattle.hh_sqltables.specs.Texts.{Defines}
use Rattle.hh_sqlrows.specs.Making.{schema_up_to}
use Rattle.hh_sqlrows.proofs.MakeLaws.{made_one_more}
use Rattle.hh_sqlrows.proofs.TextFacts.{defines, table_at}
use Rattle.hh_sqlrows.proofs.make.make_table.Goals as goal

pub returns-clause-makes : goal.returns-clause-makes
returns-clause-makes g c clean inside is =
    let at = c.args.at in
    let old = state g.S.Store c.args.tx.now.conn.now in
    let new = state g.S.Store c.create_table.new.tx.conn.now in
    let facts = subst (λ (t : List ℕ). Defines (schema_up_to at) (schema_up_to (Rattle.std.specs.Prelude.◌+◌ at 1)) (table_at at) t) (Rattle.std.proofs.Common.sym c.text_of.ensures) (defines at c.requires) in
    made_one_more at facts old.now new.now c.create_table.result is (c.create_table.ensures.makes _ _ _ facts clean inside is.is_office)
