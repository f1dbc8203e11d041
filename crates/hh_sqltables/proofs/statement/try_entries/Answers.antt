use Rattle.std.proofs.Common.{◌∙◌, ap, rules}
use Rattle.sqlite.specs.Held.{state}
use Rattle.sqlite.specs.declared.error.Error.TheVariants.{SqliteFailure}
use Rattle.hh_sqltables.proofs.InsideLaws.{refused_whole}
use Rattle.hh_sqltables.proofs.statement.try_entries.Goals as goal

pub returns-in-Err-SqliteFailure-ConstraintViolation-clause-writes : goal.returns-in-Err-SqliteFailure-ConstraintViolation-clause-writes
returns-in-Err-SqliteFailure-ConstraintViolation-clause-writes g c clean inside =
    let it = c.in-Err-SqliteFailure-ConstraintViolation in
    (refused_whole _ _ (state g.S.Store c.args.tx.now.conn.now) (state g.S.Store c.execute.new.self.conn.now) _ _ (it.field-0-is ∙ ap SqliteFailure it.field-0-0-is) (it.ensures.runs clean inside)).0.now_is

pub returns-in-Err-SqliteFailure-ConstraintViolation-clause-frame : goal.returns-in-Err-SqliteFailure-ConstraintViolation-clause-frame
returns-in-Err-SqliteFailure-ConstraintViolation-clause-frame g c =
    let it = c.in-Err-SqliteFailure-ConstraintViolation in
    record {
      same_reference = search rules;
      inside = λ clean inside. (refused_whole _ _ (state g.S.Store c.args.tx.now.conn.now) (state g.S.Store c.execute.new.self.conn.now) _ _ (it.field-0-is ∙ ap SqliteFailure it.field-0-0-is) (it.ensures.runs clean inside)).0.mode ∙ inside;
      kept = search rules;
      survives = search rules;
    }
