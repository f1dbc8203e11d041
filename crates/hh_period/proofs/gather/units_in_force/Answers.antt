use Rattle.hh_names.proofs.AccountLaws.{bytes_total}
use Rattle.std.proofs.lemmas.Map.Lookups.{exact_bytes}
use Rattle.hh_period.specs.Rows.{unit_data_entry}
use Rattle.hh_period.proofs.GatherFacts.{entries_more}
use Rattle.std.proofs.Common.{arith}
use Rattle.hh_period.proofs.gather.units_in_force.Goals as goal

pub loop-row-preserved : goal.loop-row-preserved
loop-row-preserved c =
    entries_more bytes_total exact_bytes unit_data_entry c.args.rows.now c.loop-row.row-index c.row-item.result (omega arith) c.row-item.is _ c.loop-row.invariant _ (rw c.unit_data_of.ensures at c.in_ok-insert.ensures.entries)
