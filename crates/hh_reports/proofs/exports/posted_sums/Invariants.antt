use Rattle.std.proofs.Common.{take}
use Rattle.hh_reports.specs.Writers.{HasAmounts}
use Rattle.hh_reports.proofs.exports.posted_sums.Given as goal

-- the postings so far were given
abbrev pub invariant-loop-posting : goal.invariant-loop-posting
invariant-loop-posting l = HasAmounts l.sums (take l.posting-index l.postings)
