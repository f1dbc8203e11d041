use Rattle.std.proofs.Common.{◌≡◌, take}
use Rattle.hh_office.specs.Enquiries.{rows_of_account}
use Rattle.hh_office.proofs.enquiries.rows_of.Given as goal

-- what was found among the rows so far
abbrev pub invariant-loop-row : goal.invariant-loop-row
invariant-loop-row l = l.found.items ≡ rows_of_account l.account (take l.row-index l.rows)
