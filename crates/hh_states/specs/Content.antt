-- The tables that an office keeps, and those that represent a state.
use Rattle.std.specs.Prelude.{ℤ, List, [], map, Bool, true, Option}
use Rattle.std.specs.List.{flat_map}
use Rattle.std.specs.Ordering.{nat_cmp, on, then_cmp}
use Rattle.std.specs.declared.cmp.Ordering.{Ordering}
use Rattle.hh_rules.specs.Tables.{Table, in_key_order}
use Rattle.hh_rules.specs.Days.{Midnights}
use Rattle.hh_rules.specs.Accounts.{account_cmp, bytes_cmp}
use Rattle.hh_rules.specs.settings.Settings.{Settings}
use Rattle.hh_rules.specs.settlement_period.SettlementPeriod.{SettlementPeriod}
use Rattle.hh_rules.specs.History.{Registered, nothing_registered, registered_in}
use Rattle.hh_rules.specs.Lateness.{Timetable}
use Rattle.hh_calc.specs.declared.result.AccountRow.{AccountRow}
use Rattle.hh_calc.specs.declared.result.CreditRow.{CreditRow}
use Rattle.hh_calc.specs.Terms.{Settled}
use Rattle.hh_runs.specs.declared.summary.Summary.{Summary}
use Rattle.hh_runs.specs.DayNets.{DayNets}
use Rattle.hh_runs.specs.declared.run_key.RunKey.{RunKey}
use Rattle.hh_states.specs.declared.file_key.FileKey.{FileKey}
use Rattle.hh_states.specs.declared.run_keys.CreditKey.{CreditKey}
use Rattle.hh_states.specs.declared.run_keys.PostingKey.{PostingKey}
use Rattle.hh_states.specs.declared.run_keys.ResultKey.{ResultKey}
use Rattle.hh_states.specs.Runs.{Run, postings_after, run_key_cmp, settled_by, summary_after, with_former}
use Rattle.hh_states.specs.States.{KeptFileView, State, file_key_cmp, office_timetable}

-- results in the order of their runs, then of their periods, then of their accounts
abbrev pub result_key_cmp : ResultKey → ResultKey → Ordering
result_key_cmp =
    then_cmp (on (λ k. k.run) run_key_cmp) (then_cmp (on (λ k. k.period) nat_cmp) (on (λ k. k.account) account_cmp))

-- credits in the order of their runs, then of their periods, then of their units, then of their accounts
abbrev pub credit_key_cmp : CreditKey → CreditKey → Ordering
credit_key_cmp =
    then_cmp (on (λ k. k.run) run_key_cmp)
    (then_cmp (on (λ k. k.period) nat_cmp) (then_cmp (on (λ k. k.unit) bytes_cmp) (on (λ k. k.account) account_cmp)))

-- postings in the order of their runs, then of their accounts
abbrev pub posting_key_cmp : PostingKey → PostingKey → Ordering
posting_key_cmp = then_cmp (on (λ k. k.run) run_key_cmp) (on (λ k. k.account) account_cmp)

-- The fourteen tables: the settings, the eight of what is registered and in force, the files, and four of the runs. A store also
-- keeps data so that a run settles again only what has changed; is_in_step says whether these data agree with the tables.
pub record Content : Type 0 where
  pub settings : Settings
  pub registered : Registered
  pub files : Table FileKey KeptFileView
  pub runs : Table RunKey Summary
  pub results : Table ResultKey AccountRow
  pub credits : Table CreditKey ℤ
  pub postings : Table PostingKey ℤ
  pub is_in_step : Bool

-- the tables of an office with these settings, in which nothing has been accepted
abbrev pub empty_content : Settings → Content
empty_content settings = record {
  settings = settings;
  registered = nothing_registered;
  files = [];
  runs = [];
  results = [];
  credits = [];
  postings = [];
  is_in_step = true;
}

-- the key of an account's row in a Settlement Period of a run
abbrev pub result_key : RunKey → SettlementPeriod → AccountRow → ResultKey
result_key run at r = record { run = run; period = at.period; account = r.account }

-- the key of a credit in a Settlement Period of a run
abbrev pub credit_key : RunKey → SettlementPeriod → CreditRow → CreditKey
credit_key run at c = record { run = run; period = at.period; unit = c.unit; account = c.account }

-- the results of a run under their keys, from the settlements of its periods
abbrev pub result_entries : RunKey → List (SettlementPeriod × Settled) → List (ResultKey × AccountRow)
result_entries run day =
    flat_map (λ q. map (λ r. (result_key run q.0 r, r)) q.1.accounts) day

-- the credits of a run under their keys, from the settlements of its periods
abbrev pub credit_entries : RunKey → List (SettlementPeriod × Settled) → List (CreditKey × ℤ)
credit_entries run day =
    flat_map (λ q. map (λ c. (credit_key run q.0 c, c.credited)) q.1.credits) day

-- the postings of a run under their keys, from what it posts to each account
abbrev pub posting_entries : RunKey → DayNets → List (PostingKey × ℤ)
posting_entries run nets = map (λ e. (record { run = run; account = e.0 }, e.1)) nets

-- each run of a state, with the run of its date before it
abbrev pub runs_with_former : State → List (Option Run × Run)
runs_with_former s = with_former [] s.runs

module _ (timetable : Timetable) (s : State) where
  -- the summary of each run of a state
  abbrev pub all_summaries : List (RunKey × Summary)
  all_summaries = map (λ r. (r.1.key, summary_after timetable s.history r.0 r.1)) (runs_with_former s)

  -- the rows of accounts of all runs of a state
  abbrev pub all_results : List (ResultKey × AccountRow)
  all_results = flat_map (λ r. result_entries r.key (settled_by timetable s.history r)) s.runs

  -- the credits of all runs of a state
  abbrev pub all_credits : List (CreditKey × ℤ)
  all_credits = flat_map (λ r. credit_entries r.key (settled_by timetable s.history r)) s.runs

  -- the postings of all runs of a state
  abbrev pub all_postings : List (PostingKey × ℤ)
  all_postings = flat_map (λ r. posting_entries r.1.key (postings_after timetable s.history r.0 r.1)) (runs_with_former s)

-- the tables that represent a state, each in the order of its keys; what a store keeps besides agrees with them
abbrev pub tables_of : Midnights → State → Content
tables_of midnight s =
    let timetable : Timetable = office_timetable midnight s.settings in
    record {
      settings = s.settings;
      registered = registered_in timetable s.history;
      files = in_key_order file_key_cmp s.files;
      runs = in_key_order run_key_cmp (all_summaries timetable s);
      results = in_key_order result_key_cmp (all_results timetable s);
      credits = in_key_order credit_key_cmp (all_credits timetable s);
      postings = in_key_order posting_key_cmp (all_postings timetable s);
      is_in_step = true;
    }
