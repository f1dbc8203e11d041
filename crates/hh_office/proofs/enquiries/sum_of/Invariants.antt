use Rattle.std.proofs.Common.{◌≡◌, ◌*◌, ◌^◌, ◌≤◌, take}
use Rattle.std.specs.Prelude.{unsigned_abs}
use Rattle.hh_num.specs.Totals.{total}
use Rattle.hh_office.proofs.enquiries.sum_of.Given as goal

-- the sum of the postings so far, each of which fits 64 bits
abbrev pub invariant-loop-posting : goal.invariant-loop-posting
invariant-loop-posting l = record {
  sum : l.sum ≡ total (λ e. e.1) (take l.posting-index l.postings);
  size : unsigned_abs l.sum ≤ l.posting-index * 2 ^ 63;
}
