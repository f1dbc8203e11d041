-- What becomes of a file's rows, one row after another.
use Rattle.std.proofs.Common.{◌≡◌, ◌<◌, ℕ, ◌+◌, ℤ, List, [], ◌∷◌, ◌++◌, true, false, cond, refl, sym, ap, subst, ◌∙◌, Option, Some, None, Ok, Err, map, length, take, drop, get_or, arith}
use Rattle.std.specs.Prelude.{filter, not, is_none, option_to_list, Result}
use Rattle.std.specs.Result.{IsErr, IsErrAnd}
use Rattle.std.specs.List.{cons_option}
use Rattle.std.proofs.Common.{length-append}
use Rattle.std.proofs.lemmas.List.Elements.{All-head}
use Rattle.std.proofs.lemmas.List.{append-nil, append_assoc, drop_all, drop_more, map-append, take_all, take_more}
use Rattle.jiff.specs.declared.tz.timezone.TimeZone.{TimeZone}
use Rattle.hh_tables.proofs.TableLaws.{false_is_not_true}
use Rattle.hh_names.specs.Faults.{ByRefusal, IsOutcomeOrNoMemory, Refuses, faults, row_fault}
use Rattle.hh_names.specs.declared.values.Counterparties.{Counterparties}
use Rattle.hh_names.specs.declared.fault.Fault.{Fault}
use Rattle.hh_names.specs.declared.fault.Refusal.{Refusal}
use Rattle.hh_names.specs.declared.fault.Refusal.TheVariants as refusal
use Rattle.hh_rows.specs.declared.rows.Row.{Row}
use Rattle.hh_rows.specs.declared.rows.Row.TheVariants as row
use Rattle.hh_rules.specs.declared.row_done.RowDone.{RowDone}
use Rattle.hh_rules.specs.declared.row_done.RowDone.TheVariants.{Applied, Late}
use Rattle.hh_rules.specs.Effects.{fixes_reference, row_done}
use Rattle.hh_rules.specs.Entries.{reference_entry}
use Rattle.hh_rules.specs.FileRows.{FileRowsView, JudgesFile, ServesAfterHistory, coming_at, file_outcome, first_fault, fixed_by, fixed_references, judged_file, late_count, refusal_after, register_of, timely_rows}
use Rattle.hh_rules.specs.steps.FileRows.{judged_row, judged_row_at, no_rows, with_done, with_volumes_of}
use Rattle.hh_rules.specs.History.{History, Registered, registered_in}
use Rattle.hh_rules.specs.Lateness.{Timetable, Accepted, accepted_at, is_in_time}
use Rattle.hh_rules.specs.RegisterView.{AgreesOn, RegisterView, ServesAfter, ServesFor, done_at, refusal_at, register_after, tables_in, timetable_in, timetable_of}
use Rattle.hh_rules.proofs.HistoryLaws.{filter-append}
use Rattle.hh_rules.proofs.ServingLaws.{part_refuses, part_serves}
use Rattle.hh_rules.proofs.StandingLaws.{standing-append}

module _ (timetable : Timetable) where
  timely-append : (rows : History) (a : Accepted) → timely_rows timetable (rows ++ a ∷ []) ≡ cond (is_in_time timetable a) (timely_rows timetable rows ++ a.row ∷ []) (timely_rows timetable rows)
  timely-append rows a =
      ap (map (λ b. b.row)) (filter-append (is_in_time timetable) rows a)
      ∙ elim (is_in_time timetable a) as (λ t. map (λ b. b.row) (cond t (filter (is_in_time timetable) rows ++ a ∷ []) (filter (is_in_time timetable) rows)) ≡ cond t (timely_rows timetable rows ++ a.row ∷ []) (timely_rows timetable rows)) [
        | true ↦ map-append (λ b. b.row) (filter (is_in_time timetable) rows) (a ∷ [])
        | false ↦ refl
      ]

  late-append : (rows : History) (a : Accepted) → late_count timetable (rows ++ a ∷ []) ≡ cond (is_in_time timetable a) (late_count timetable rows) (late_count timetable rows + 1)
  late-append rows a =
      ap length (filter-append (λ b. not (is_in_time timetable b)) rows a)
      ∙ elim (is_in_time timetable a) as (λ t. length (cond (not t) (filter (λ b. not (is_in_time timetable b)) rows ++ a ∷ []) (filter (λ b. not (is_in_time timetable b)) rows)) ≡ cond t (late_count timetable rows) (late_count timetable rows + 1)) [
        | true ↦ refl
        | false ↦ length-append (filter (λ b. not (is_in_time timetable b)) rows) (a ∷ [])
      ]

  -- the reference that a row fixes after a history, if it fixes one
  abbrev fixed_after : History → Accepted → Option (List ℕ × Counterparties)
  fixed_after history a = fixed_by (fixes_reference (registered_in timetable history) a.row) (reference_entry a.row)

  cons_option-append : {X : Type 0} (o : Option X) (xs ys : List X) → cons_option o (xs ++ ys) ≡ cons_option o xs ++ ys
  cons_option-append None xs ys = refl
  cons_option-append (Some x) xs ys = refl

  cons_option-none : {X : Type 0} (o : Option X) → cons_option o [] ≡ option_to_list o
  cons_option-none None = refl
  cons_option-none (Some x) = refl

  fixed-append : (history rows : History) (a : Accepted)
      → fixed_references timetable history (rows ++ a ∷ []) ≡ fixed_references timetable history rows ++ option_to_list (fixed_after (history ++ rows) a)
  fixed-append history [] a = cons_option-none (fixed_after history a) ∙ ap (λ h. option_to_list (fixed_after h a)) (sym (append-nil history))
  fixed-append history (b ∷ rows) a =
      ap (cons_option (fixed_after history b)) (fixed-append (history ++ b ∷ []) rows a ∙ ap (λ h. fixed_references timetable (history ++ b ∷ []) rows ++ option_to_list (fixed_after h a)) (append_assoc history (b ∷ []) rows))
      ∙ cons_option-append (fixed_after history b) (fixed_references timetable (history ++ b ∷ []) rows) (option_to_list (fixed_after (history ++ b ∷ rows) a))

  -- the outcome of a file's rows with one more row
  pub file_outcome-append : (history rows : History) (a : Accepted)
      → file_outcome timetable history (rows ++ a ∷ [])
      ≡ with_done a.row (row_done (is_in_time timetable a) (fixes_reference (registered_in timetable (history ++ rows)) a.row)) (file_outcome timetable history rows)
  file_outcome-append history rows a =
      (λ i. record { rows = timely-append rows a i; late = late-append rows a i; references = fixed-append history rows a i })
      ∙ elim (is_in_time timetable a) as (λ t.
      record {
        rows = cond t (timely_rows timetable rows ++ a.row ∷ []) (timely_rows timetable rows);
        late = cond t (late_count timetable rows) (late_count timetable rows + 1);
        references = fixed_references timetable history rows ++ option_to_list (fixed_after (history ++ rows) a);
      }
      ≡ with_done a.row (row_done t (fixes_reference (registered_in timetable (history ++ rows)) a.row)) (file_outcome timetable history rows)) [
        | true ↦ refl
        | false ↦ refl
      ]

-- a part of a register that agrees on a row tells whether the row fixes its reference
same_fixes : (whole part : Registered) (r : Row) → AgreesOn whole part r → fixes_reference part r ≡ fixes_reference whole r
same_fixes whole part (row.Party r) agrees = refl
same_fixes whole part (row.Unit r) agrees = refl
same_fixes whole part (row.Meter r) agrees = refl
same_fixes whole part (row.Price r) agrees = refl
same_fixes whole part (row.Contract r) (seller, buyer, reference, volume) = ap is_none reference
same_fixes whole part (row.Reallocation r) agrees = refl

-- if one outcome leads to another, the answer to the first (itself, or that memory was refused) is one to the second
other_outcome : (r : Refusal) (P Q S : Type 0) → (Q → S) → ByRefusal r P Q → ByRefusal r P S
other_outcome r P Q S follows = elim r as (λ r. ByRefusal r P Q → ByRefusal r P S) [ refusal.Memory ↦ λ p. p | _ ↦ follows ]

-- how far a file is judged: the faults of the rest of its rows, and the outcome of the rows so far
pub record IsJudgedTo (zone : TimeZone) (first : RegisterView) (moment : ℤ) (rows : List Row) (i : ℕ) (register : RegisterView) (file : FileRowsView) (history : History) : Type 0 where
  pub serves : ServesFor (drop i rows) (register_of (timetable_of zone first) (history ++ coming_at moment (take i rows))) register
  pub fault : first_fault (timetable_of zone first) (history ++ coming_at moment (take i rows)) (i + 1) (coming_at moment (drop i rows))
      ≡ first_fault (timetable_of zone first) history 1 (coming_at moment rows)
  pub so_far : file ≡ file_outcome (timetable_of zone first) history (coming_at moment (take i rows))

abbrev pub AreJudgedTo : TimeZone → RegisterView → ℤ → List Row → ℕ → RegisterView → FileRowsView → Type 0
AreJudgedTo zone first moment rows i register file =
    (history : History) → ServesAfterHistory zone first rows history → IsJudgedTo zone first moment rows i register file history

-- the fault of a row of this number if it is refused, and otherwise the later fault
abbrev told : ℕ → Option Refusal → Option Fault → Option Fault
told n why later = elim why [ Some r ↦ Some (row_fault r n) | None ↦ later ]

-- the answer to a file with this first fault, if it has one
abbrev answer_by : FileRowsView → Option Fault → Result FileRowsView Fault
answer_by file first = elim first [ Some fault ↦ Err fault | None ↦ Ok file ]

module _ (zone : TimeZone) (first : RegisterView) (moment : ℤ) (rows : List Row) (i : ℕ) (register : RegisterView) (r : Row) (inside : i < length rows) (is : r ≡ get_or rows i r) where
  abbrev timetable : Timetable
  timetable = timetable_of zone first

  abbrev now : Accepted
  now = accepted_at moment r

  rest_is : drop i rows ≡ r ∷ drop (i + 1) rows
  rest_is = drop_more rows i r inside ∙ ap (λ x. x ∷ drop (i + 1) rows) (sym is)

  front_is : coming_at moment (take (i + 1) rows) ≡ coming_at moment (take i rows) ++ now ∷ []
  front_is =
      ap (coming_at moment) (take_more rows i r inside)
      ∙ map-append (accepted_at moment) (take i rows) (get_or rows i r ∷ [])
      ∙ ap (λ x. coming_at moment (take i rows) ++ accepted_at moment x ∷ []) (sym is)

  module _ (history : History) (file : FileRowsView) (so_far : IsJudgedTo zone first moment rows i register file history) where
    abbrev before : History
    before = history ++ coming_at moment (take i rows)

    abbrev whole : RegisterView
    whole = register_of timetable before

    serves_here : ServesFor (r ∷ drop (i + 1) rows) whole register
    serves_here = subst (λ rs. ServesFor rs whole register) rest_is so_far.serves

    refused_alike : refusal_at zone register moment r ≡ refusal_after timetable before now
    refused_alike = part_refuses zone register whole moment r (drop (i + 1) rows) serves_here

    next_fault : first_fault timetable history 1 (coming_at moment rows)
        ≡ told (i + 1) (refusal_after timetable before now) (first_fault timetable (before ++ now ∷ []) (i + 1 + 1) (coming_at moment (drop (i + 1) rows)))
    next_fault = sym so_far.fault ∙ ap (λ rs. first_fault timetable before (i + 1) (coming_at moment rs)) rest_is

    refused_here : (e : Fault) (why : Option Refusal) → refusal_at zone register moment r ≡ why → judged_row (i + 1) why ≡ Err e
        → judged_file timetable history (coming_at moment rows) ≡ Err e
    refused_here e None found answer = cc answer
    refused_here e (Some why) found answer =
        ap (answer_by (file_outcome timetable history (coming_at moment rows)))
        (next_fault ∙ ap (λ o. told (i + 1) o (first_fault timetable (before ++ now ∷ []) (i + 1 + 1) (coming_at moment (drop (i + 1) rows)))) (sym refused_alike ∙ found))
        ∙ ap Err same
      where
        same : row_fault why (i + 1) ≡ e
        same = cc answer

    here_is : before ++ now ∷ [] ≡ history ++ coming_at moment (take (i + 1) rows)
    here_is = append_assoc history (coming_at moment (take i rows)) (now ∷ []) ∙ ap (λ more. history ++ more) (sym front_is)

    done_is : done_at zone register moment r ≡ row_done (is_in_time timetable now) (fixes_reference (registered_in timetable before) r)
    done_is = λ k. row_done (is_in_time (timetable_in zone (serves_here.lead_minutes k)) now)
        (same_fixes (tables_in whole) (tables_in register) r (All-head (AgreesOn (tables_in whole) (tables_in register)) r (drop (i + 1) rows) serves_here.agrees) k)

    judged_more : refusal_at zone register moment r ≡ None → (next : RegisterView) → ServesAfter zone register moment r next
        → (more : FileRowsView) → more ≡ with_done r (done_at zone register moment r) file → IsJudgedTo zone first moment rows (i + 1) next more history
    judged_more none next serves_after more added = record {
      serves = subst (λ h. ServesFor (drop (i + 1) rows) (register_of timetable h) next) here_is
          (subst (λ st. ServesFor (drop (i + 1) rows) (record { lead_minutes = timetable.lead_minutes; standing = st }) next) (standing-append timetable before now)
          (serves_after whole (drop (i + 1) rows) serves_here));
      fault = ap (λ h. first_fault timetable h (i + 1 + 1) (coming_at moment (drop (i + 1) rows))) (sym here_is)
          ∙ sym (next_fault ∙ ap (λ o. told (i + 1) o (first_fault timetable (before ++ now ∷ []) (i + 1 + 1) (coming_at moment (drop (i + 1) rows)))) (sym refused_alike ∙ none));
      so_far = added ∙ ap (λ d. with_done r d file) done_is
          ∙ ap (with_done r (row_done (is_in_time timetable now) (fixes_reference (registered_in timetable before) r))) so_far.so_far
          ∙ sym (file_outcome-append timetable history (coming_at moment (take i rows)) now)
          ∙ sym (ap (file_outcome timetable history) front_is);
    }

  module _ (file : FileRowsView) (so_far : AreJudgedTo zone first moment rows i register file) where
    -- a row that is refused decides the answer to the file
    file_refused : (e : Fault) → Refuses faults e (judged_row_at zone register moment (i + 1) r) → JudgesFile zone first moment rows (Err e)
    file_refused e refused history serves =
        other_outcome e.refusal _ _ _ (refused_here history file (so_far history serves) e (refusal_at zone register moment r) refl) refused

    -- after a row that is accepted, the rows that follow decide
    judged_to_more : judged_row_at zone register moment (i + 1) r ≡ Ok tt → (done : RowDone) → done ≡ done_at zone register moment r
        → (more : FileRowsView) → more ≡ with_done r done file
        → AreJudgedTo zone first moment rows (i + 1) (register_after zone register moment r) more
    judged_to_more accepted done became more added history serves =
        judged_more history file (so_far history serves) (not_refused (refusal_at zone register moment r) accepted) (register_after zone register moment r) (part_serves zone register moment r) more (added ∙ ap (λ d. with_done r d file) became)
      where
        not_refused : (why : Option Refusal) → judged_row (i + 1) why ≡ Ok tt → why ≡ None
        not_refused None answer = refl
        not_refused (Some why) answer = cc answer

-- no refusal depends on readings, prices and contract volumes
refused_but_volumes : (zone : TimeZone) (other register : RegisterView) (moment : ℤ) (r : Row) → refusal_at zone (with_volumes_of other register) moment r ≡ refusal_at zone register moment r
refused_but_volumes zone other register moment (row.Party r) = refl
refused_but_volumes zone other register moment (row.Unit r) = refl
refused_but_volumes zone other register moment (row.Meter r) = refl
refused_but_volumes zone other register moment (row.Price r) = refl
refused_but_volumes zone other register moment (row.Contract r) = refl
refused_but_volumes zone other register moment (row.Reallocation r) = refl

done_but_volumes : (zone : TimeZone) (other register : RegisterView) (moment : ℤ) (r : Row) → done_at zone (with_volumes_of other register) moment r ≡ done_at zone register moment r
done_but_volumes zone other register moment (row.Party r) = refl
done_but_volumes zone other register moment (row.Unit r) = refl
done_but_volumes zone other register moment (row.Meter r) = refl
done_but_volumes zone other register moment (row.Price r) = refl
done_but_volumes zone other register moment (row.Contract r) = refl
done_but_volumes zone other register moment (row.Reallocation r) = refl

-- the file is judged so far; the register lacks only readings, prices and contract volumes in force
pub record AreJudgedBut (zone : TimeZone) (first : RegisterView) (moment : ℤ) (rows : List Row) (i : ℕ) (register : RegisterView) (file : FileRowsView) : Type 0 where
  pub full : RegisterView
  pub but_volumes : register ≡ with_volumes_of register full
  pub judged : AreJudgedTo zone first moment rows i full file

module _ (zone : TimeZone) (first : RegisterView) (moment : ℤ) (rows : List Row) (i : ℕ) (register : RegisterView) (r : Row) (inside : i < length rows) (is : r ≡ get_or rows i r)
    (file : FileRowsView) (so_far : AreJudgedBut zone first moment rows i register file) where
  refused_as : refusal_at zone register moment r ≡ refusal_at zone so_far.full moment r
  refused_as = ap (λ g. refusal_at zone g moment r) so_far.but_volumes ∙ refused_but_volumes zone register so_far.full moment r

  done_as : done_at zone register moment r ≡ done_at zone so_far.full moment r
  done_as = ap (λ g. done_at zone g moment r) so_far.but_volumes ∙ done_but_volumes zone register so_far.full moment r

  pub refused_but : (e : Fault) → Refuses faults e (judged_row_at zone register moment (i + 1) r) → JudgesFile zone first moment rows (Err e)
  refused_but e refused =
      file_refused zone first moment rows i so_far.full r inside is file so_far.judged e
      (subst (λ why. Refuses faults e (judged_row (i + 1) why)) refused_as refused)

  pub judged_but : judged_row_at zone register moment (i + 1) r ≡ Ok tt
      → (next : RegisterView) → next ≡ with_volumes_of register (register_after zone register moment r)
      → (done : RowDone) → done ≡ done_at zone register moment r → (more : FileRowsView) → more ≡ with_done r done file
      → AreJudgedBut zone first moment rows (i + 1) next more
  judged_but accepted next after done became more added = record {
    full = register_after zone so_far.full moment r;
    but_volumes = reached ∙ sym (ap (λ g. with_volumes_of g (register_after zone so_far.full moment r)) reached);
    judged = judged_to_more zone first moment rows i so_far.full r inside is file so_far.judged
        (ap (judged_row (i + 1)) (sym refused_as) ∙ accepted) done (became ∙ done_as) more added;
  }
    where
      reached : next ≡ with_volumes_of register (register_after zone so_far.full moment r)
      reached = after ∙ ap (λ g. with_volumes_of register (register_after zone g moment r)) so_far.but_volumes

-- before the first row
pub judged_from_start : (zone : TimeZone) (register : RegisterView) (moment : ℤ) (rows : List Row) (file : FileRowsView) → file ≡ no_rows
    → AreJudgedBut zone register moment rows 0 register file
judged_from_start zone register moment rows file none = record {
  full = register;
  but_volumes = refl;
  judged = λ history serves. record {
    serves = subst (λ h. ServesFor rows (register_of (timetable_of zone register) h) register) (sym (append-nil history)) serves;
    fault = ap (λ h. first_fault (timetable_of zone register) h 1 (coming_at moment rows)) (append-nil history);
    so_far = none;
  };
}

-- after the last row the file is judged
pub judged_to_end : (zone : TimeZone) (first : RegisterView) (moment : ℤ) (rows : List Row) (i : ℕ) (register : RegisterView) (file : FileRowsView)
    → i ≡ length rows → AreJudgedBut zone first moment rows i register file → JudgesFile zone first moment rows (Ok file)
judged_to_end zone first moment rows i register file at_end all history serves =
    let end = all.judged history serves in
    ap (answer_by (file_outcome (timetable_of zone first) history (coming_at moment rows)))
    (sym end.fault ∙ ap (λ rs. first_fault (timetable_of zone first) (history ++ coming_at moment (take i rows)) (i + 1) (coming_at moment rs)) (drop_all i rows (omega arith)))
    ∙ ap Ok (ap (λ rs. file_outcome (timetable_of zone first) history (coming_at moment rs)) (sym (take_all i rows (omega arith))) ∙ sym end.so_far)

-- a fault that is passed on
pub passed_on : {X Y : Type 0} (view : X → Y) (result : Result X Fault) (e : Fault) (outcome : Result Y Fault)
    → IsErr result × IsErrAnd result (λ f. f ≡ e) → Refuses faults e outcome → IsOutcomeOrNoMemory faults view result outcome
passed_on view (Ok x) e outcome passed refused = absurd (false_is_not_true passed.0)
passed_on view (Err f) e outcome passed refused = subst (λ g. Refuses faults g outcome) (sym passed.1) refused

-- each row counts once, as in time or as late
pub count_with : (r : Row) (done : RowDone) (file : FileRowsView)
    → length (with_done r done file).rows + (with_done r done file).late ≡ length file.rows + file.late + 1
count_with r (Applied fixes) file = let longer = length-append file.rows (r ∷ []) in omega arith
count_with r (Late fixes) file = omega arith
