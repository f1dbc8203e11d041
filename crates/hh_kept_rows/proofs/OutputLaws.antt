-- Writing reports, with the faults as the tables tell them; and the balances that are written from all postings.
use Rattle.std.proofs.Common.{◌≡◌, ℕ, List, map, Result, Ok, Err, sym, ap, subst, ◌∙◌}
use Rattle.std.specs.Prelude.{ℤ, IsErrAnd, filter_map}
use Rattle.hh_num.specs.Totals.{total}
use Rattle.hh_num.proofs.TotalLaws.{total-map}
use Rattle.hh_devices.specs.DeviceChanges.{DeviceChange}
use Rattle.hh_devices.specs.Devices.{AppendsFront}
use Rattle.hh_tables.specs.Tables.{Table}
use Rattle.hh_names.specs.declared.account.Account.{Account}
use Rattle.hh_rows.specs.declared.rows.PartyRegistration.{PartyRegistration}
use Rattle.hh_calc.specs.Formulas.{if_same_account}
use Rattle.hh_store.specs.Exports.{balances_text}
use Rattle.hh_store.specs.Nets.{Amounts, sum_for}
use Rattle.hh_store.specs.Output.{CountsFault}
use Rattle.hh_store.specs.fault.ReportFault.{ReportFault}
use Rattle.hh_store.specs.fault.ReportFault.TheVariants as report
use Rattle.hh_states.specs.declared.run_keys.PostingKey.{PostingKey}
use Rattle.hh_states.specs.Reads.{posting_to}
use Rattle.hh_states.proofs.ReadLaws.{postings_read}
use Rattle.hh_store.specs.declared.output_fault.OutputFault.{OutputFault}
use Rattle.hh_store.specs.Outputs.{CountsOutput, Outputs}
use Rattle.hh_store.specs.StoreFaults.{output_fault}

counted_alike : (device : DeviceChange) (fault : ReportFault) → CountsFault device fault → CountsOutput device (output_fault fault)
counted_alike device report.Memory counts = counts
counted_alike device report.Write counts = counts

-- the fault of a writer is passed on
pub told_as_output : {A : Type 0} (device : DeviceChange) (text : List ℕ) (fault : ReportFault) (r : Result A OutputFault)
    → IsErrAnd r (λ e. e ≡ output_fault fault) → AppendsFront device.old device.new text × CountsFault device fault → Outputs device text r
told_as_output device text fault (Ok x) is sent = absurd is
told_as_output device text fault (Err e) is sent = (sent.0, subst (CountsOutput device) (sym is) (counted_alike device fault sent.1))

-- all postings, each with its account
abbrev amounts_posted : Table PostingKey ℤ → Amounts
amounts_posted postings = map (λ e. (e.0.account, e.1)) postings

-- their sum for an account is that of the postings that are read for the account
sum_read : (a : Account) (postings : Table PostingKey ℤ) → sum_for a (amounts_posted postings) ≡ total (λ e. e.1) (filter_map (posting_to a) postings)
sum_read a postings =
    total-map (λ (e : Account × ℤ). if_same_account a e.0 e.1) (λ (e : PostingKey × ℤ). (e.0.account, e.1)) postings ∙ sym (postings_read a postings)

-- so the balances by them are those by the postings that are read for each account
pub balances_read : (registered : Table (List ℕ) PartyRegistration) (postings : Table PostingKey ℤ) (parties : List (List ℕ)) (amounts : Amounts)
    → parties ≡ map (λ e. e.0) registered → amounts ≡ amounts_posted postings
    → balances_text parties (λ a. sum_for a amounts) ≡ balances_text (map (λ e. e.0) registered) (λ a. total (λ e. e.1) (filter_map (posting_to a) postings))
balances_read registered postings parties amounts are come =
    λ i. balances_text (are i) (λ a. (ap (sum_for a) come ∙ sum_read a postings) i)
