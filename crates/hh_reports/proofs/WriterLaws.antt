-- The outcomes of the writers of reports, row after row.
use Rattle.std.proofs.Common.{◌≡◌, ℕ, List, [], ◌∷◌, ◌++◌, Option, Result, Ok, Err, sym, ap, ◌∙◌, append_assoc}
use Rattle.std.specs.List.{flat_map}
use Rattle.std.specs.Prelude.{codes, ℤ}
use Rattle.std.proofs.lemmas.List.{append-nil}
use Rattle.std.proofs.lemmas.List.Concat.{flat_map-append}
use Rattle.hh_devices.specs.DeviceChanges.{DeviceChange}
use Rattle.hh_names.specs.declared.account.Account.{Account}
use Rattle.hh_calc.specs.declared.result.AccountRow.{AccountRow}
use Rattle.hh_reports.specs.declared.run.ReportedRun.{ReportedRun}
use Rattle.hh_reports.specs.declared.fault.ReportFault.{ReportFault}
use Rattle.hh_reports.specs.Beginnings.{BalancesGoOn, ResultsGoOn}
use Rattle.hh_reports.specs.Exports.{balances_text, party_lines, result_line, results_text}
use Rattle.hh_reports.specs.Nets.{Amounts, sum_for}
use Rattle.hh_reports.specs.steps.Output.{Passes}
use Rattle.hh_reports.specs.Writers.{BalancesState, GivesBalances, GivesResults, HasBalances, HasResults, ResultsState, Rows}
use Rattle.hh_reports.proofs.ListLaws.{stopped_early}
use Rattle.hh_reports.proofs.OutputLaws.{changed, stopped_on, went_on, Stops}

-- the lines of a list are followed by those of the list after it
lines_on : {X : Type 0} (line : X → List ℕ) (header : List ℕ) (xs ys : List X) → header ++ flat_map line (xs ++ ys) ≡ (header ++ flat_map line xs) ++ flat_map line ys
lines_on line header xs ys = ap (λ l. header ++ l) (flat_map-append line xs ys) ∙ sym (append_assoc header (flat_map line xs) (flat_map line ys))

pub results_on : (run : ReportedRun) (rows later : Rows) → results_text run (rows ++ later) ≡ results_text run rows ++ flat_map (result_line run) later
unfolding results_text
results_on run rows later = lines_on (result_line run) (codes "date,kind,account,period,credited,balancing,contracts,imbalance,charge,share\n") rows later

pub balances_on : (balance : Account → ℤ) (parties later : List (List ℕ)) → balances_text (parties ++ later) balance ≡ balances_text parties balance ++ flat_map (party_lines balance) later
unfolding balances_text
balances_on balance parties later = lines_on (party_lines balance) (codes "account,moved_pence\n") parties later

-- the line of one element
one_line : {X : Type 0} (line : X → List ℕ) (x : X) → flat_map line (x ∷ []) ≡ line x
one_line line x = append-nil (line x)

-- a row was written behind those before it
pub results_row : {A : Type 0} (a b c : Option (List ℕ)) (f g n : ℕ) (old new : ResultsState) (run : ReportedRun) (rows : Rows) (e : ℕ × AccountRow) (r : Result A ReportFault)
    → new.run ≡ old.run → Passes (changed b c g n) new.held (old.held ++ result_line old.run e) r
    → HasResults (changed a b f g) old run rows → GivesResults (changed a c f n) new run (rows ++ e ∷ []) r
results_row a b c f g n old new run rows e (Ok x) same now before =
    record {
      run_is = same ∙ before.run_is;
      sent = rw (results_on run rows (e ∷ []), one_line (result_line run) e, ← before.run_is)
          (went_on a b c [] old.held new.held f g n (results_text old.run rows) (result_line old.run e) (rw before.run_is before.sent) now);
    }
results_row a b c f g n old new run rows e (Err fault) same now before =
    rw (results_on run rows (e ∷ []), one_line (result_line run) e, ← before.run_is)
    (stopped_on a b c [] old.held f g n (results_text old.run rows) (result_line old.run e) fault (rw before.run_is before.sent) now)

-- the lines of a party were written behind those before them
pub balances_party : {A : Type 0} (a b c : Option (List ℕ)) (f g n : ℕ) (old new : BalancesState) (amounts : Amounts) (parties : List (List ℕ)) (party : List ℕ) (r : Result A ReportFault)
    → new.sums ≡ old.sums → Passes (changed b c g n) new.held (old.held ++ party_lines (λ a. sum_for a amounts) party) r
    → HasBalances (changed a b f g) old amounts parties → GivesBalances (changed a c f n) new amounts (parties ++ party ∷ []) r
balances_party a b c f g n old new amounts parties party (Ok x) same now before =
    let balance : Account → ℤ = λ a. sum_for a amounts in
    record {
      sums = same ∙ before.sums;
      sent = rw (balances_on balance parties (party ∷ []), one_line (party_lines balance) party)
          (went_on a b c [] old.held new.held f g n (balances_text parties balance) (party_lines balance party) before.sent now);
    }
balances_party a b c f g n old new amounts parties party (Err fault) same now before =
    let balance : Account → ℤ = λ a. sum_for a amounts in
    rw (balances_on balance parties (party ∷ []), one_line (party_lines balance) party)
    (stopped_on a b c [] old.held f g n (balances_text parties balance) (party_lines balance party) fault before.sent now)

-- the header with no lines
pub results_begun : (run : ReportedRun) → codes "date,kind,account,period,credited,balancing,contracts,imbalance,charge,share\n" ≡ results_text run []
unfolding results_text
results_begun run = sym (append-nil (codes "date,kind,account,period,credited,balancing,contracts,imbalance,charge,share\n"))

pub balances_begun : (balance : Account → ℤ) → codes "account,moved_pence\n" ≡ balances_text [] balance
unfolding balances_text
balances_begun balance = sym (append-nil (codes "account,moved_pence\n"))

-- a beginning of the text of some rows is a beginning of the text of more rows
pub results_stopped : (device : DeviceChange) (run : ReportedRun) (rows later all : Rows) (fault : ReportFault) → rows ++ later ≡ all
    → Stops device (results_text run rows) fault → Stops device (results_text run all) fault
results_stopped device run rows later all fault is now =
    stopped_early device (results_text run rows) (flat_map (result_line run) later) (results_text run all) fault
    (sym (results_on run rows later) ∙ ap (results_text run) is) now

pub balances_stopped : (device : DeviceChange) (balance : Account → ℤ) (parties later all : List (List ℕ)) (fault : ReportFault) → parties ++ later ≡ all
    → Stops device (balances_text parties balance) fault → Stops device (balances_text all balance) fault
balances_stopped device balance parties later all fault is now =
    stopped_early device (balances_text parties balance) (flat_map (party_lines balance) later) (balances_text all balance) fault
    (sym (balances_on balance parties later) ∙ ap (λ all. balances_text all balance) is) now

-- the whole text goes on from the text of some rows
pub results_go_on : ResultsGoOn
results_go_on run rows later = (flat_map (result_line run) later, results_on run rows later)

pub balances_go_on : BalancesGoOn
balances_go_on balance parties later = (flat_map (party_lines balance) later, balances_on balance parties later)
