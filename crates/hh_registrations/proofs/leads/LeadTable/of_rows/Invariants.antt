use Rattle.std.proofs.Common.{◌≡◌, [], take}
use Rattle.hh_tables.specs.Tables.{put_all}
use Rattle.hh_rows.specs.Keys.{lead_key_cmp}
use Rattle.hh_registrations.proofs.leads.LeadTable.of_rows.Given as goal

-- the rows so far are put
abbrev pub invariant-loop-row : goal.invariant-loop-row
invariant-loop-row l = l.table ≡ put_all lead_key_cmp (take l.row-index l.rows) []
