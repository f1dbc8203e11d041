-- Enquiries about accounts and runs, and what the machine replies.
use Rattle.std.specs.Prelude.{ℕ, ℤ, List, [], ◌∷◌, filter, Option, Some, None}
use Rattle.hh_num.specs.Totals.{total}
use Rattle.hh_time.specs.Days.{Midnights}
use Rattle.hh_names.specs.declared.account.Account.{Account}
use Rattle.hh_names.specs.declared.fault.Refusal.TheVariants.{NoRun}
use Rattle.hh_names.specs.Accounts.{is_same_account}
use Rattle.hh_names.specs.Faults.{plain_fault}
use Rattle.hh_calc.specs.declared.result.AccountRow.{AccountRow}
use Rattle.hh_calc.specs.Settled.{paid_by}
use Rattle.hh_runs.specs.declared.run_key.RunKey.{RunKey}
use Rattle.hh_requests.specs.declared.reply.Reply.{Reply}
use Rattle.hh_requests.specs.declared.reply.Reply.TheVariants as reply
use Rattle.hh_states.specs.Reads.{contracts_of}
use Rattle.hh_states.specs.RunReads.{rows_in_run}
use Rattle.hh_states.specs.Runs.{Run, latest_run}
use Rattle.hh_states.specs.States.{State}
use Rattle.hh_states.specs.Steps.{kinds_on, registered_at, timetable_at}
use Rattle.hh_states.specs.Sums.{moved_by_runs}

-- the sum of what the rows of an account pay
abbrev pub net_of_rows : List (ℕ × AccountRow) → ℤ
net_of_rows rows = total (λ e. paid_by e.1) rows

-- the rows of an account among those of a run
abbrev pub rows_of_account : Account → List (ℕ × AccountRow) → List (ℕ × AccountRow)
rows_of_account a rows = filter (λ e. is_same_account e.1.account a) rows

-- the reply given the rows of an account in a run: it is refused if there are none
abbrev pub reply_by_rows : Account → RunKey → List (ℕ × AccountRow) → Reply
reply_by_rows a run [] = reply.Refused (plain_fault NoRun)
reply_by_rows a run (row ∷ rows) =
    reply.Account (record { account = a; run = run; net = net_of_rows (row ∷ rows); rows = row ∷ rows })

module _ (midnight : Midnights) (s : State) where
  -- the reply about an account given the latest run of a date: it is refused if there is no run, or if the account has no rows in it
  abbrev pub reply_by_run : Account → Option Run → Reply
  reply_by_run a None = reply.Refused (plain_fault NoRun)
  reply_by_run a (Some run) = reply_by_rows a run.key (rows_of_account a (rows_in_run midnight s run))

  -- what an account has and pays in the latest run of a date
  abbrev pub account_reply : Account → ℕ → Reply
  account_reply a date = reply_by_run a (latest_run date s.runs)

  -- what the runs of all dates have posted to an account: its day nets in the latest run of every date
  abbrev pub balance_reply : Account → Reply
  balance_reply a = reply.Balance a (moved_by_runs (timetable_at midnight s) s a)

  -- the contracts in force of an account on a date
  abbrev pub contracts_reply : Account → ℕ → Reply
  contracts_reply a date = reply.Contracts (record {
    account = a;
    date = date;
    contracts = contracts_of a date (registered_at midnight s);
  })

  -- the runs of a date
  abbrev pub runs_reply : ℕ → Reply
  runs_reply date = reply.Runs (record { date = date; kinds = kinds_on s date })
