use Rattle.hh_kept_rows.proofs.PartLaws.{grows_none}
use Rattle.hh_kept_rows.proofs.kept_register.KeptRegister.hold_units_for.Goals as goal

pub returns-then-not-are_many_readings-clause-grows : goal.returns-then-not-are_many_readings-clause-grows
returns-then-not-are_many_readings-clause-grows c = grows_none c.args.self.now c.args.part.now
