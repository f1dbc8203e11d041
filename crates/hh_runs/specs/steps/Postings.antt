-- The posting of one change.
use Rattle.std.specs.Prelude.{ℤ, if◌then◌else◌, Option, Some, None}
use Rattle.hh_names.specs.declared.account.Account.{Account}
use Rattle.hh_runs.specs.declared.posting.Posting.{Posting}
use Rattle.hh_runs.specs.DayNets.{is_difference}

-- the posting of a change, if it is not 0
abbrev pub posting_for : Account × ℤ → Option Posting
posting_for e = if is_difference e then Some (record { account = e.0; pence = e.1 }) else None
