use Rattle.hh_names.specs.Accounts.{bytes_cmp}
use Rattle.hh_rows.specs.Keys.{unit_period_cmp}
use Rattle.hh_kept_rows.proofs.NamedLaws.{still_named}
use Rattle.hh_kept_rows.proofs.named_units.NamedUnits.insert.Goals as goal

pub returns-in_ok-insert-in-Reallocation-clause-kept : goal.returns-in_ok-insert-in-Reallocation-clause-kept
returns-in_ok-insert-in-Reallocation-clause-kept c = record {
  periods = still_named unit_period_cmp c.args.self.now.periods c.insert.new.self _ c.in_ok-insert-in-Reallocation.ensures.updates;
  units = λ unit is_named. is_named;
}

pub returns-in_ok-insert-in-Unit-clause-kept : goal.returns-in_ok-insert-in-Unit-clause-kept
returns-in_ok-insert-in-Unit-clause-kept c = record {
  periods = λ at is_named. is_named;
  units = still_named bytes_cmp c.args.self.now.units c.insert-in-Unit.new.self _ c.in_ok-insert-in-Unit.ensures.updates;
}
