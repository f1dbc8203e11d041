use Rattle.std.proofs.Common.{rules}
use Rattle.hh_sqltables.proofs.statement.select_by.Goals as goal

pub returns-in_err-to_columns-clause-frame : goal.returns-in_err-to_columns-clause-frame
returns-in_err-to_columns-clause-frame g c = record {
  stood = λ stands. stands;
  left = search rules;
  outside = search rules;
  stays = search rules;
  honest = search rules;
  faults = search rules;
  crash = search rules;
}
