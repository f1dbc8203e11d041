-- Reports that are written from the tables of a database.
use Rattle.std.proofs.Common.{◌≡◌, ◌∙◌, ◌++◌, ℕ, List, [], ◌∷◌, Option, None, Some, Result, Ok, Err, map, append_assoc, refl, sym, ap, subst}
use Rattle.std.specs.Prelude.{ℤ, IsErrAnd, filter_map}
use Rattle.std.specs.Io.KnownBytes.{Appends}
use Rattle.std.proofs.lemmas.List.{append-nil}
use Rattle.hh_num.specs.Totals.{total}
use Rattle.hh_num.proofs.TotalLaws.{total-map}
use Rattle.hh_devices.specs.DeviceChanges.{DeviceChange}
use Rattle.hh_devices.specs.Devices.{AppendsFront, Failed}
use Rattle.hh_tables.specs.Tables.{Table}
use Rattle.hh_names.specs.declared.account.Account.{Account}
use Rattle.hh_calc.specs.declared.result.AccountRow.{AccountRow}
use Rattle.hh_calc.specs.Formulas.{if_same_account}
use Rattle.hh_reports.specs.declared.fault.ReportFault.{ReportFault}
use Rattle.hh_reports.specs.declared.fault.ReportFault.TheVariants as report
use Rattle.hh_reports.specs.declared.run.ReportedRun.{ReportedRun}
use Rattle.hh_reports.specs.Beginnings.{GoesOnFrom}
use Rattle.hh_reports.specs.Exports.{balances_text}
use Rattle.hh_reports.specs.Nets.{sum_for}
use Rattle.hh_reports.specs.Output.{CountsFault}
use Rattle.hh_states.specs.Reads.{posting_to}
use Rattle.hh_states.specs.declared.run_keys.PostingKey.{PostingKey}
use Rattle.hh_states.proofs.ReadLaws.{postings_read}
use Rattle.hh_store.specs.Outputs.{CountsOutcome, CountsOutput, Outputs}
use Rattle.hh_store.specs.StoreFaults.{output_fault}
use Rattle.hh_store.specs.declared.output_fault.OutputFault.{OutputFault}
use Rattle.hh_store.specs.declared.output_fault.OutputFault.TheVariants as output
use Rattle.hh_sqlrows.specs.Contents.{posted_amount}

-- ---- what was written if a report stops

-- nothing was written
pub appends_none : (known : Option (List ℕ)) → Appends known known []
appends_none None = tt
appends_none (Some bytes) = sym (append-nil bytes)

-- a beginning of a text is also a beginning of any longer text
pub front_of_more : (device : DeviceChange) (begun text : List ℕ) → GoesOnFrom begun text → AppendsFront device.old device.new begun → AppendsFront device.old device.new text
front_of_more device begun text on sent =
    (sent.0, sent.1 ++ on.0, on.1 ∙ ap (λ t. t ++ on.0) sent.2 ∙ append_assoc sent.0 sent.1 on.0, sent.3)

map_both : {X Y : Type 0} (f : X → Y) (xs ys : List X) → map f (xs ++ ys) ≡ map f xs ++ map f ys
map_both f [] ys = refl
map_both f (x ∷ xs) ys = ap (λ zs. f x ∷ zs) (map_both f xs ys)

-- if the rows taken are the first of a report's rows, their text is a beginning of the report's text
pub goes_on_by : {X Y : Type 0} (row : X → Y) (text_of whole_of : List Y → List ℕ) (taken all : List X) → ((rest : List X) × (all ≡ taken ++ rest))
    → ((later : List Y) → map row taken ++ later ≡ map row all → GoesOnFrom (text_of (map row taken)) (whole_of (map row taken ++ later)))
    → GoesOnFrom (text_of (map row taken)) (whole_of (map row all))
goes_on_by row text_of whole_of taken all more on =
    let is = sym (ap (map row) more.1 ∙ map_both row taken more.0) in
    subst (λ rows. GoesOnFrom (text_of (map row taken)) (whole_of rows)) is (on (map row more.0) is)

-- a text that was written after nothing
appends_behind : (first mid last : Option (List ℕ)) (text : List ℕ) → Appends first mid [] → Appends mid last text → Appends first last text
appends_behind None mid last text none went = tt
appends_behind (Some x) None last text none went = absurd none
appends_behind (Some x) (Some y) None text none went = absurd went
appends_behind (Some x) (Some y) (Some z) text none went = went ∙ ap (λ bytes. bytes ++ text) (none ∙ append-nil x)

abbrev changed : Option (List ℕ) → Option (List ℕ) → ℕ → ℕ → DeviceChange
changed old new f n = record { old = old; new = new; old_failures = f; new_failures = n }

counted_behind : (first mid last : Option (List ℕ)) (f g n : ℕ) (fault : OutputFault) → g ≡ f → CountsOutput (changed mid last g n) fault → CountsOutput (changed first last f n) fault
counted_behind first mid last f g n output.Memory same counts = counts ∙ same
counted_behind first mid last f g n output.Store same counts = counts ∙ same
counted_behind first mid last f g n output.Write same counts = subst (λ m. Failed m n) same counts

pub behind_nothing : {A : Type 0} (first mid last : Option (List ℕ)) (f g n : ℕ) (text : List ℕ) (r : Result A OutputFault) → Appends first mid [] → g ≡ f
    → Outputs (changed mid last g n) text r → Outputs (changed first last f n) text r
behind_nothing first mid last f g n text (Ok x) none same went = (appends_behind first mid last text none went.0, went.1 ∙ same)
behind_nothing first mid last f g n text (Err fault) none same went =
    let (front, rest, cut, sent) = went.0 in
    ((front, rest, cut, appends_behind first mid last front none sent), counted_behind first mid last f g n fault same went.1)

counted_alike : (device : DeviceChange) (fault : ReportFault) → CountsFault device fault → CountsOutput device (output_fault fault)
counted_alike device report.Memory counts = counts
counted_alike device report.Write counts = counts

-- the fault of a writer is told
pub told_as_output : {A : Type 0} (device : DeviceChange) (text : List ℕ) (fault : ReportFault) (r : Result A OutputFault)
    → IsErrAnd r (λ e. e ≡ output_fault fault) → AppendsFront device.old device.new text × CountsFault device fault → Outputs device text r
told_as_output device text fault (Ok x) is sent = absurd is
told_as_output device text fault (Err e) is sent = (sent.0, subst (CountsOutput device) (sym is) (counted_alike device fault sent.1))

-- so is a fault of the tables
pub told_on : {A : Type 0} (device : DeviceChange) (text : List ℕ) (fault : OutputFault) (r : Result A OutputFault)
    → IsErrAnd r (λ e. e ≡ fault) → AppendsFront device.old device.new text × CountsOutput device fault → Outputs device text r
told_on device text fault (Ok x) is sent = absurd is
told_on device text fault (Err e) is sent = (sent.0, subst (CountsOutput device) (sym is) sent.1)

-- what was written counts
pub counted_by : {A : Type 0} (device : DeviceChange) (text : List ℕ) (r : Result A OutputFault) → Outputs device text r → CountsOutcome device r
counted_by device text (Ok x) went = went.1
counted_by device text (Err fault) went = went.1

-- ---- what was written is the report

module _ {A : Type 0} (device : DeviceChange) (r : Result A OutputFault) where
  -- of a run as its reports show it, from the rows that are listed
  pub reported_so : (text_of : ReportedRun → List (ℕ × AccountRow) → List ℕ) (shown run : ReportedRun) → shown ≡ run
      → (rows listed : List (ℕ × AccountRow)) → rows ≡ listed
      → Outputs device (text_of shown rows) r → Outputs device (text_of run listed) r
  reported_so text_of shown run is rows listed same went =
      subst (λ q. Outputs device (text_of q listed) r) is (subst (λ es. Outputs device (text_of shown es) r) same went)

  -- the sum of amounts is what is read from the postings of an account
  sum_read : (a : Account) (postings : Table PostingKey ℤ) → sum_for a (map posted_amount postings) ≡ total (λ e. e.1) (filter_map (posting_to a) postings)
  sum_read a postings = total-map (λ (e : Account × ℤ). if_same_account a e.0 e.1) posted_amount postings ∙ sym (postings_read a postings)

  -- the balances
  pub balanced : (parties : List (List ℕ)) (postings : Table PostingKey ℤ) → Outputs device (balances_text parties (λ a. sum_for a (map posted_amount postings))) r
      → Outputs device (balances_text parties (λ a. total (λ e. e.1) (filter_map (posting_to a) postings))) r
  balanced parties postings went = subst (λ text. Outputs device text r) (λ i. balances_text parties (λ a. sum_read a postings i)) went
