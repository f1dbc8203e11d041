use Rattle.hh_kept_rows.proofs.PartLaws.{grows_none}
use Rattle.hh_kept_rows.proofs.kept_register.KeptRegister.hold_unit_unless.Goals as goal

pub returns-then-all_units-clause-grows : goal.returns-then-all_units-clause-grows
returns-then-all_units-clause-grows c = grows_none c.args.self.now c.args.part.now

pub returns-then-all_units-clause-agrees : goal.returns-then-all_units-clause-agrees
returns-then-all_units-clause-agrees c lead_minutes part = c.requires c.if-all_units.true c.args.unit.now
