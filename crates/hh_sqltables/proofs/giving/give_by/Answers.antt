use Rattle.std.proofs.Common.{[], inl, refl, rules}
use Rattle.hh_keyed_rows.specs.declared.row_fault.RowFault.TheVariants.{Memory}
use Rattle.hh_sqltables.proofs.AnswerLaws.{gives_stopped}
use Rattle.hh_sqltables.proofs.giving.give_by.Goals as goal

pub returns-in_err-to_columns-clause-gives : goal.returns-in_err-to_columns-clause-gives
returns-in_err-to_columns-clause-gives g c begun report has =
    gives_stopped _ _ _ _ c.from_residual.result _ c.from_residual.ensures.1 [] (g.met.T.RowTaker.ends _ _ report [] Memory has) (λ stands plain. inl refl)

pub returns-in_err-to_columns-clause-frame : goal.returns-in_err-to_columns-clause-frame
returns-in_err-to_columns-clause-frame g c = record {
  stood = λ stands. stands;
  left = search rules;
  outside = search rules;
  stays = search rules;
  honest = search rules;
  faults = search rules;
  crash = search rules;
}
