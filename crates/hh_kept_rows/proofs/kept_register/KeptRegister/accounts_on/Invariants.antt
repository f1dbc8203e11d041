use Rattle.std.proofs.Common.{◌≡◌, take}
use Rattle.std.specs.Prelude.{filter}
use Rattle.std.specs.List.{flat_map}
use Rattle.hh_rows.specs.DateRanges.{holds}
use Rattle.hh_names.specs.PartyAccounts.{both_accounts}
use Rattle.hh_kept_rows.proofs.kept_register.KeptRegister.accounts_on.Given as goal

-- both accounts of the parties so far whose range has the date
abbrev pub invariant-loop-party : goal.invariant-loop-party
invariant-loop-party l = l.accounts.items ≡ flat_map (λ e. both_accounts e.0) (filter (λ e. holds e.1.range l.date) (take l.party-index l.party-items))
