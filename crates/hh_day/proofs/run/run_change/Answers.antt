use Rattle.std.proofs.Common.{rules, refl, ap, subst, sym, ◌∙◌, ◌≤◌}
use Rattle.std.specs.Prelude.{◌≡◌, map}
use Rattle.std.specs.List.{AllByRecursion}
use Rattle.hh_num.specs.Totals.{total}
use Rattle.hh_calc.specs.Settled.{moved_by_row}
use Rattle.hh_states.specs.Amounts.{greatest_turnover}
use Rattle.hh_runs.specs.DayNets.{differences}
use Rattle.hh_runs.specs.Postings.{entry_of}
use Rattle.hh_state_laws.proofs.RunRowLaws.{credits_own, postings_own, results_own}
use Rattle.hh_day.specs.NewRuns.{summary_of, writes_of_run}
use Rattle.hh_day.specs.RunLimits.{AreTurnoversSmall, FitsFields}
use Rattle.hh_day.proofs.FitLaws.{turnover_by_entries}
use Rattle.hh_day.proofs.NetLaws.{paid_by_entries}
use Rattle.hh_day.proofs.run.run_change.Goals as goal

pub new-requires : goal.new-requires
new-requires c =
    let run = c.args.run in record {
      own = record {
        result_keys = subst (AllByRecursion (λ e. e.0.run ≡ run)) (sym c.in_ok-results.ensures) (results_own run c.args.day.now);
        credit_keys = subst (AllByRecursion (λ e. e.0.run ≡ run)) (sym c.in_ok-credits.ensures) (credits_own run c.args.day.now);
        posting_keys = subst (AllByRecursion (λ e. e.0.run ≡ run)) (sym c.in_ok-posted.ensures) (postings_own run _);
      };
    }

pub returns-clause-written : goal.returns-clause-written
returns-clause-written c = record {
  old = c.in_ok-former_nets.former_nets;
  new = c.in_ok-new_nets.new_nets;
  paid_before = c.in_ok-former_nets.ensures.nets;
  paid_now = λ a. c.in_ok-new_nets.ensures.nets a
      ∙ ap (λ es. total (λ e. moved_by_row a e.1) es) (c.deref.ensures.value ∙ c.in_ok-results.ensures)
      ∙ paid_by_entries c.args.run a c.args.day.now;
  written = cc (c.new.ensures, c.in_ok-results.ensures, c.in-Some.ensures.1, c.in_ok-credits.ensures, c.in_ok-posted.ensures, c.in_ok-postings.ensures);
}

pub returns-in_err-new_nets-clause-memory_alone : goal.returns-in_err-new_nets-clause-memory_alone
returns-in_err-new_nets-clause-memory_alone c fits =
    let entries = c.deref.ensures.value ∙ c.in_ok-results.ensures in
    let fault = c.in_err-new_nets.ensures.memory_alone (subst AreTurnoversSmall (sym entries)
    (λ a. subst (λ n. n ≤ greatest_turnover) (sym (turnover_by_entries c.args.run a c.args.day.now)) (fits.now a))) in
    search (rules, fault)

pub returns-in_default-clause-memory_alone : goal.returns-in_default-clause-memory_alone
returns-in_default-clause-memory_alone c fits =
    let old = c.in_ok-former_nets.former_nets in
    let new = c.in_ok-new_nets.new_nets in
    let summed = fits.summary (writes_of_run c.args.run c.args.day.now (differences old new)) (record {
      old = old;
      new = new;
      paid_before = c.in_ok-former_nets.ensures.nets;
      paid_now = λ a. c.in_ok-new_nets.ensures.nets a
          ∙ ap (λ es. total (λ e. moved_by_row a e.1) es) (c.deref.ensures.value ∙ c.in_ok-results.ensures)
          ∙ paid_by_entries c.args.run a c.args.day.now;
      written = refl;
    }) in
    absurd (c.in_default.ensures (subst (λ posts. FitsFields (summary_of c.args.day.now posts)) (sym (ap (map entry_of) c.deref-2.ensures.value ∙ c.in_ok-postings.ensures)) summed))
