use Rattle.std.proofs.Common.{rules}
use Rattle.sqlite.specs.Held.{state}
use Rattle.hh_sqltables.proofs.CreateLaws.{makes_inside}
use Rattle.hh_sqltables.proofs.InsideLaws.{left_inside, stays_inside}
use Rattle.hh_sqltables.proofs.creating.create_table.Goals as goal

pub returns-clause-frame : goal.returns-clause-frame
returns-clause-frame g c =
    let old = state g.S.Store c.args.tx.now.conn.now in
    let new = state g.S.Store c.execute.new.self.conn.now in
    record {
      same_reference = search rules;
      inside = λ clean inside. stays_inside _ _ old new c.execute.result (c.execute.ensures.runs clean inside);
      kept = λ clean inside. left_inside _ _ old new c.execute.result (c.execute.ensures.runs clean inside);
      survives = search rules;
    }

pub returns-clause-makes : goal.returns-clause-makes
returns-clause-makes g c before after table facts clean inside is =
    makes_inside before after table c.args.text.now facts (state g.S.Store c.args.tx.now.conn.now) (state g.S.Store c.execute.new.self.conn.now) c.execute.result is (c.execute.ensures.runs clean inside)
