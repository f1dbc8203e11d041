use Rattle.std.proofs.Common.{◌≡◌, [], take}
use Rattle.hh_tables.specs.Tables.{put_all}
use Rattle.hh_rows.specs.Keys.{lead_key_cmp}
use Rattle.hh_registrations.proofs.leads.LeadTable.copied.Given as goal

-- the registrations so far are put
abbrev pub invariant-loop-row : goal.invariant-loop-row
invariant-loop-row l = l.copy ≡ put_all lead_key_cmp (take l.row-index l.row-items) []
