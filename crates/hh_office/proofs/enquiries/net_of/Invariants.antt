use Rattle.std.proofs.Common.{◌≡◌, ◌*◌, ◌^◌, ◌≤◌, take}
use Rattle.std.specs.Prelude.{unsigned_abs}
use Rattle.hh_office.specs.Enquiries.{net_of_rows}
use Rattle.hh_office.proofs.enquiries.net_of.Given as goal

-- the sum of the rows so far, each of two amounts of 64 bits
abbrev pub invariant-loop-row : goal.invariant-loop-row
invariant-loop-row l = record {
  sum : l.net ≡ net_of_rows (take l.row-index l.rows);
  size : unsigned_abs l.net ≤ l.row-index * 2 ^ 64;
}
