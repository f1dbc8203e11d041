-- The rows that are written for a run are its own.
use Rattle.std.specs.Prelude.{◌≡◌, ℤ, List}
use Rattle.std.specs.List.{AllByRecursion}
use Rattle.hh_states.specs.result.AccountRow.{AccountRow}
use Rattle.hh_states.specs.run_key.RunKey.{RunKey}
use Rattle.hh_states.specs.declared.run_keys.CreditKey.{CreditKey}
use Rattle.hh_states.specs.declared.run_keys.PostingKey.{PostingKey}
use Rattle.hh_states.specs.declared.run_keys.ResultKey.{ResultKey}

-- each of these rows is under a key of the run
pub record AreOwnRows (run : RunKey) (results : List (ResultKey × AccountRow)) (credits : List (CreditKey × ℤ))
    (postings : List (PostingKey × ℤ)) : Type 0 where
  pub result_keys : AllByRecursion (λ e. e.0.run ≡ run) results
  pub credit_keys : AllByRecursion (λ e. e.0.run ≡ run) credits
  pub posting_keys : AllByRecursion (λ e. e.0.run ≡ run) postings
