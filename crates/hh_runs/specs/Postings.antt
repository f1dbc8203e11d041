-- Postings: the changes that are not 0.
use Rattle.std.specs.Prelude.{ℤ}
use Rattle.hh_names.specs.declared.account.Account.{Account}
use Rattle.hh_runs.specs.declared.posting.Posting.{Posting}

-- the account of a posting with its pence
abbrev pub entry_of : Posting → Account × ℤ
entry_of p = (p.account, p.pence)
