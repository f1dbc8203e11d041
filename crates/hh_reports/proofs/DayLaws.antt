-- The text of a day report so far, row after row.
use Rattle.std.proofs.Common.{◌≡◌, ℕ, zero, suc, ◌+◌, ◌-◌, ◌<◌, ◌≤◌, min, max, ◌⊎◌, Bool, eqb, leb, true, false, cond, List, [], ◌∷◌, ◌++◌, map, length, get_or, Option, Some, None, Result, inl, inr, refl, sym, ap, subst, ◌∙◌, append_assoc, arith}
use Rattle.std.specs.Prelude.{ℤ, pos, neg_ℤ, ◌+ℤ◌, codes, fold, All, IsErrAnd}
use Rattle.std.specs.List.{cons_option, flat_map, range_with_len}
use Rattle.std.proofs.lemmas.Bool.{cases_lt}
use Rattle.std.proofs.lemmas.Bool.Decides.{nat_tests}
use Rattle.std.proofs.lemmas.List.{append-nil, map-append}
use Rattle.std.proofs.lemmas.List.Concat.{flat_map-append}
use Rattle.std.proofs.lemmas.List.Elements.{filter_map-append}
use Rattle.std.proofs.lemmas.List.Elements.{All-append, All-cons}
use Rattle.hh_num.specs.Totals.{total}
use Rattle.hh_tables.specs.Tables.{Table}
use Rattle.hh_names.specs.declared.account.Account.{Account}
use Rattle.hh_calc.specs.declared.result.AccountRow.{AccountRow}
use Rattle.hh_reports.specs.declared.run.ReportedRun.{ReportedRun}
use Rattle.hh_reports.specs.DayReport.{accounts_in, charges_in, day_report_begun, day_report_text, heads_line, last_period, net_line, period_account_line, period_lines, period_residual_line, periods_lines, row_of_period, rows_of_period, title_line}
use Rattle.hh_reports.specs.declared.fault.ReportFault.{ReportFault}
use Rattle.hh_reports.specs.declared.fault.ReportFault.TheVariants.{Memory}
use Rattle.hh_reports.specs.Nets.{cash_moved, nets_from_rows}
use Rattle.hh_reports.specs.Output.{IsPassed, Reaches}
use Rattle.hh_reports.specs.Writers.{DayState, HasAmounts, HasDay, Rows}
use Rattle.hh_reports.proofs.NetLaws.{total_next}
use Rattle.hh_reports.proofs.OutputLaws.{changed, stopped_on, told_back, went_on, Stops}
use Rattle.hh_reports.specs.steps.DayReport.{closing_line, closing_lines, run_row_lines}

-- the numbers of some periods, and of those after them
range_on : (a m n : ℕ) → range_with_len a (m + n) ≡ range_with_len a m ++ range_with_len (a + m) n
range_on a zero n =
    let none : zero + n ≡ n = omega arith in
    let same : a + zero ≡ a = omega arith in
    ap (range_with_len a) none ∙ ap (λ k. range_with_len k n) (sym same)
range_on a (suc m) n =
    let more : suc m + n ≡ suc (m + n) = omega arith in
    let place : (a + 1) + m ≡ a + suc m = omega arith in
    ap (range_with_len a) more ∙ ap (λ l. a ∷ l) (range_on (a + 1) m n) ∙ ap (λ k. a ∷ (range_with_len (a + 1) m ++ range_with_len k n)) place

-- two lines that are the same for each of some periods
pub lines_as : (f g : ℕ → List ℕ) (a n : ℕ) → ((p : ℕ) → a ≤ p → p < a + n → f p ≡ g p) → flat_map f (range_with_len a n) ≡ flat_map g (range_with_len a n)
lines_as f g a zero same = refl
lines_as f g a (suc n) same =
    let here : f a ≡ g a = same a (omega arith) (omega arith) in
    let later = lines_as f g (a + 1) n (λ p low high. same p (omega arith) (omega arith)) in
    ap (λ l. l ++ flat_map f (range_with_len (a + 1) n)) here ∙ ap (λ l. g a ++ l) later

other_of_lower : (a p : ℕ) → a < p → eqb a p ≡ false
other_of_lower a p lower = grind (arith, nat_tests)

other_of_higher : (a p : ℕ) → p < a → eqb a p ≡ false
other_of_higher a p higher = grind (arith, nat_tests)

same_number : (a : ℕ) → eqb a a ≡ true
same_number a = grind (arith, nat_tests)

pub inside_run : (a b : ℕ) → a ≤ b → leb a b ≡ true
inside_run a b le = grind (arith, nat_tests)

outside_run : (a b : ℕ) → b < a → leb a b ≡ false
outside_run a b lt = grind (arith, nat_tests)

-- no rows are of a Settlement Period, if each is of another one
none_of_period : (period : ℕ) (rows : Rows) → ((j : ℕ) (d : ℕ × AccountRow) → j < length rows → eqb (get_or rows j d).0 period ≡ false) → rows_of_period period rows ≡ []
none_of_period period [] other = refl
none_of_period period (e ∷ rows) other =
    ap (λ b. cons_option (cond b (Some e.1) None) (rows_of_period period rows)) (other 0 e (omega arith))
    ∙ none_of_period period rows (λ j d lt. other (suc j) d (omega arith))

-- the rows are of Settlement Periods from 1 to this one
abbrev pub AreUpTo : ℕ → Rows → Type 0
AreUpTo last rows = All (λ e. (1 ≤ e.0) × (e.0 ≤ last)) rows

none_above : (last period : ℕ) (rows : Rows) → AreUpTo last rows → last < period → rows_of_period period rows ≡ []
none_above last period rows all above = none_of_period period rows (λ j d lt. let here = all j d lt in other_of_lower (get_or rows j d).0 period (omega arith))

none_at_zero : (last : ℕ) (rows : Rows) → AreUpTo last rows → rows_of_period 0 rows ≡ []
none_at_zero last rows all = none_of_period 0 rows (λ j d lt. let here = all j d lt in other_of_higher (get_or rows j d).0 0 (omega arith))

-- a period without rows has no account lines, and neither has a period beyond those of the run
neither : (b : Bool) (l : List ℕ) → cond b l l ≡ l
neither true l = refl
neither false l = refl

accounts-none : (run : ReportedRun) (period : ℕ) (rows : Rows) → rows_of_period period rows ≡ [] → accounts_in run period rows ≡ []
accounts-none run period rows none = ap (λ rs. cond (leb period run.periods) (flat_map (period_account_line period) rs) []) none ∙ neither (leb period run.periods) []

accounts-beyond : (run : ReportedRun) (period : ℕ) (rows : Rows) → run.periods < period → accounts_in run period rows ≡ []
accounts-beyond run period rows beyond = ap (λ b. cond b (flat_map (period_account_line period) (rows_of_period period rows)) []) (outside_run period run.periods beyond)

accounts-inside : (run : ReportedRun) (period : ℕ) (rows : Rows) → period ≤ run.periods → accounts_in run period rows ≡ flat_map (period_account_line period) (rows_of_period period rows)
accounts-inside run period rows inside = ap (λ b. cond b (flat_map (period_account_line period) (rows_of_period period rows)) []) (inside_run period run.periods inside)

-- before the first row, the first period is open
as_first : {X : Type 0} (F : ℕ → List AccountRow → X) (nil : X) → ((p : ℕ) → F p [] ≡ nil) → (last first : ℕ) (rows : Rows) → AreUpTo last rows
    → (last ≡ first) ⊎ ((last ≡ 0) × (first ≡ 1)) → F last (rows_of_period last rows) ≡ F first (rows_of_period first rows)
as_first F nil none last first rows all (inl same) = ap (λ p. F p (rows_of_period p rows)) same
as_first F nil none last first rows all (inr start) =
    let above : last < first = omega (arith, start.0, start.1) in
    ap (λ p. F p (rows_of_period p rows)) start.0 ∙ ap (F 0) (none_at_zero last rows all) ∙ none 0
    ∙ sym (ap (F first) (none_above last first rows all above) ∙ none first)

-- the residual of a period without rows
closing-later : (first : ℕ) (charges : ℤ) (rows : Rows) (period : ℕ) → first < period → rows_of_period period rows ≡ []
    → closing_line first charges period ≡ period_lines period (rows_of_period period rows)
unfolding period_lines
closing-later first charges rows period later none =
    ap (λ b. period_residual_line period (neg_ℤ (cond b charges (pos 0)))) (other_of_higher period first later)
    ∙ sym (ap (λ rs. flat_map (period_account_line period) rs ++ period_residual_line period (neg_ℤ (total (λ (row : AccountRow). row.charge) rs))) none)

-- the accounts of a period, its residual, and the lines of the periods after it
closings_whole : (last first : ℕ) (charges : ℤ) (rows : Rows) (count : ℕ) → AreUpTo last rows → last ≤ first → charges ≡ charges_in first rows
    → flat_map (period_account_line first) (rows_of_period first rows) ++ flat_map (closing_line first charges) (range_with_len first (suc count))
    ≡ flat_map (λ period. period_lines period (rows_of_period period rows)) (range_with_len first (suc count))
unfolding period_lines
closings_whole last first charges rows count all up is =
    let lines : ℕ → List ℕ = λ period. period_lines period (rows_of_period period rows) in
    let accounts = flat_map (period_account_line first) (rows_of_period first rows) in
    let later = flat_map (closing_line first charges) (range_with_len (first + 1) count) in
    let residual = period_residual_line first (neg_ℤ (charges_in first rows)) in
    ap (λ b. accounts ++ (period_residual_line first (neg_ℤ (cond b charges (pos 0))) ++ later)) (same_number first)
    ∙ ap (λ v. accounts ++ (period_residual_line first (neg_ℤ v) ++ later)) is
    ∙ ap (λ l. accounts ++ (residual ++ l)) (lines_as (closing_line first charges) lines (first + 1) count (λ p low high.
    closing-later first charges rows p (omega arith) (none_above last p rows all (omega arith))))
    ∙ sym (append_assoc accounts residual (flat_map lines (range_with_len (first + 1) count)))

-- A row of the same or a later period, or the end of the run.
module _ (run : ReportedRun) (rows : Rows) (last next : ℕ) (all : AreUpTo last rows) (upto : last ≤ next) (numbered : 1 ≤ next) where
  abbrev closed : ℕ
  closed = min run.periods (last - 1)

  abbrev until : ℕ
  until = min run.periods (next - 1)

  open_accounts : until ≤ closed → accounts_in run last rows ≡ accounts_in run next rows
  open_accounts shut = elim (cases_lt last next) [
    | inr same ↦ let e : last ≡ next = omega arith in ap (λ p. accounts_in run p rows) e
    | inl lower ↦ nothing lower ∙ sym (accounts-none run next rows (none_above last next rows all lower))
  ]
    where
      nothing : last < next → accounts_in run last rows ≡ []
      nothing lower = elim (cases_lt 0 last) [
        | inl some ↦ accounts-beyond run last rows (omega arith)
        | inr none ↦ let e : last ≡ 0 = omega arith in ap (λ p. accounts_in run p rows) e ∙ accounts-none run 0 rows (none_at_zero last rows all)
      ]

  start : closed < until → (last ≡ closed + 1) ⊎ ((last ≡ 0) × (closed + 1 ≡ 1))
  start ahead = elim (cases_lt 0 last) [
    | inl some ↦ inl (omega arith)
    | inr none ↦ inr (omega arith, omega arith)
  ]

  -- the open period is closed, and so are the periods up to the next
  settled : (periods_lines closed rows ++ accounts_in run last rows) ++ closing_lines closed (charges_in last rows) until
      ≡ periods_lines until rows ++ accounts_in run next rows
  settled = elim (cases_lt closed until) [
    | inr shut ↦
        let none : until - closed ≡ 0 = omega arith in
        let same : closed ≡ until = omega arith in
        ap (λ n. (periods_lines closed rows ++ accounts_in run last rows) ++ flat_map (closing_line (closed + 1) (charges_in last rows)) (range_with_len (closed + 1) n)) none
        ∙ append-nil (periods_lines closed rows ++ accounts_in run last rows)
        ∙ ap (λ a. periods_lines closed rows ++ a) (open_accounts shut)
        ∙ ap (λ n. periods_lines n rows ++ accounts_in run next rows) same
    | inl ahead ↦ closes ahead (until - closed - 1) (omega arith)
  ]
    where
      closes : closed < until → (count : ℕ) → until - closed ≡ suc count → (periods_lines closed rows ++ accounts_in run last rows) ++ closing_lines closed (charges_in last rows) until
          ≡ periods_lines until rows ++ accounts_in run next rows
      closes ahead count is =
          let lines : ℕ → List ℕ = λ period. period_lines period (rows_of_period period rows) in
          let first = closed + 1 in
          let inside : last ≤ run.periods = omega arith in
          let lower : last < next = omega arith in
          let up : last ≤ closed + 1 = omega arith in
          let end : closed + suc count ≡ until = omega arith in
          let place : 1 + closed ≡ closed + 1 = omega arith in
          let accounts : accounts_in run last rows ≡ flat_map (period_account_line (closed + 1)) (rows_of_period (closed + 1) rows)
          = accounts-inside run last rows inside ∙ as_first (λ p rs. flat_map (period_account_line p) rs) [] (λ p. refl) last (closed + 1) rows all (start ahead) in
          let charges : charges_in last rows ≡ charges_in (closed + 1) rows
          = as_first (λ p rs. total (λ (row : AccountRow). row.charge) rs) (pos 0) (λ p. refl) last (closed + 1) rows all (start ahead) in
          append_assoc (periods_lines closed rows) (accounts_in run last rows) (closing_lines closed (charges_in last rows) until)
          ∙ ap (λ a. periods_lines closed rows ++ (a ++ closing_lines closed (charges_in last rows) until)) accounts
          ∙ ap (λ n. periods_lines closed rows ++ (flat_map (period_account_line (closed + 1)) (rows_of_period (closed + 1) rows) ++ flat_map (closing_line (closed + 1) (charges_in last rows)) (range_with_len (closed + 1) n))) is
          ∙ ap (λ l. periods_lines closed rows ++ l) (closings_whole last (closed + 1) (charges_in last rows) rows count all up charges)
          ∙ ap (λ k. periods_lines closed rows ++ flat_map lines (range_with_len k (suc count))) (sym place)
          ∙ sym (flat_map-append lines (range_with_len 1 closed) (range_with_len (1 + closed) (suc count)))
          ∙ ap (flat_map lines) (sym (range_on 1 closed (suc count)))
          ∙ ap (λ n. periods_lines n rows) end
          ∙ sym (append-nil (periods_lines until rows))
          ∙ ap (λ a. periods_lines until rows ++ a) (sym (accounts-none run next rows (none_above last next rows all lower)))

-- rows of later periods leave the lines of these periods as they are
rows-kept : (period : ℕ) (rows : Rows) (e : ℕ × AccountRow) → period < e.0 → rows_of_period period (rows ++ e ∷ []) ≡ rows_of_period period rows
rows-kept period rows e later =
    filter_map-append (row_of_period period) rows (e ∷ [])
    ∙ ap (λ b. rows_of_period period rows ++ cons_option (cond b (Some e.1) None) []) (other_of_higher e.0 period later)
    ∙ append-nil (rows_of_period period rows)

periods-kept : (count : ℕ) (rows : Rows) (e : ℕ × AccountRow) → count < e.0 → periods_lines count (rows ++ e ∷ []) ≡ periods_lines count rows
periods-kept count rows e later =
    lines_as (λ period. period_lines period (rows_of_period period (rows ++ e ∷ []))) (λ period. period_lines period (rows_of_period period rows)) 1 count
    (λ p low high. ap (period_lines p) (rows-kept p rows e (omega arith)))

-- the rows of a period with one more row of it
rows-same : (rows : Rows) (e : ℕ × AccountRow) → rows_of_period e.0 (rows ++ e ∷ []) ≡ rows_of_period e.0 rows ++ e.1 ∷ []
rows-same rows e =
    filter_map-append (row_of_period e.0) rows (e ∷ [])
    ∙ ap (λ b. rows_of_period e.0 rows ++ cons_option (cond b (Some e.1) None) []) (same_number e.0)

accounts-more : (run : ReportedRun) (rows : Rows) (e : ℕ × AccountRow) → accounts_in run e.0 (rows ++ e ∷ []) ≡ accounts_in run e.0 rows ++ run_row_lines run e
accounts-more run rows e =
    elim (leb e.0 run.periods) as (λ b. cond b (flat_map (period_account_line e.0) (rows_of_period e.0 (rows ++ e ∷ []))) [] ≡ cond b (flat_map (period_account_line e.0) (rows_of_period e.0 rows)) [] ++ cond b (period_account_line e.0 e.1) []) [
      | true ↦ ap (flat_map (period_account_line e.0)) (rows-same rows e)
          ∙ flat_map-append (period_account_line e.0) (rows_of_period e.0 rows) (e.1 ∷ [])
          ∙ ap (λ l. flat_map (period_account_line e.0) (rows_of_period e.0 rows) ++ l) (append-nil (period_account_line e.0 e.1))
      | false ↦ refl
    ]

-- the last row is the one that came last
last-on : (a : ℕ) (rows : Rows) (e : ℕ × AccountRow) → fold (λ _ x. x.0) a (rows ++ e ∷ []) ≡ e.0
last-on a [] e = refl
last-on a (x ∷ rows) e = last-on x.0 rows e

pub last_is : (rows : Rows) (e : ℕ × AccountRow) → last_period (rows ++ e ∷ []) ≡ e.0
last_is rows e = last-on 0 rows e

pub upto_more : (rows : Rows) (e : ℕ × AccountRow) → AreUpTo (last_period rows) rows → last_period rows ≤ e.0 → 1 ≤ e.0 → AreUpTo (last_period (rows ++ e ∷ [])) (rows ++ e ∷ [])
upto_more rows e all up numbered =
    let here : (1 ≤ e.0) × (e.0 ≤ e.0) = (numbered, omega arith) in
    subst (λ last. AreUpTo last (rows ++ e ∷ [])) (sym (last_is rows e))
    (All-append (λ x. (1 ≤ x.0) × (x.0 ≤ e.0)) rows (e ∷ [])
    (λ k d lt. let there = all k d lt in (there.0, omega arith))
    (All-cons (λ x. (1 ≤ x.0) × (x.0 ≤ e.0)) e [] here (λ k d lt. absurd (omega arith))))

regroup : (h p a c r q b : List ℕ) → (p ++ a) ++ c ≡ q ++ b → ((h ++ p) ++ a) ++ (c ++ r) ≡ (h ++ q) ++ (b ++ r)
regroup h p a c r q b is =
    let before : ((h ++ p) ++ a) ++ (c ++ r) ≡ h ++ (((p ++ a) ++ c) ++ r) = simp append_assoc in
    let after : h ++ ((q ++ b) ++ r) ≡ (h ++ q) ++ (b ++ r) = simp append_assoc in
    before ∙ ap (λ l. h ++ (l ++ r)) is ∙ after

-- what a row adds to the text
abbrev pub row_text : ReportedRun → Rows → ℕ × AccountRow → List ℕ
row_text run rows e = closing_lines (min run.periods (last_period rows - 1)) (charges_in (last_period rows) rows) (min run.periods (e.0 - 1)) ++ run_row_lines run e

pub text_row : (run : ReportedRun) (rows : Rows) (e : ℕ × AccountRow) → AreUpTo (last_period rows) rows → last_period rows ≤ e.0 → 1 ≤ e.0
    → day_report_begun run (rows ++ e ∷ []) ≡ day_report_begun run rows ++ row_text run rows e
unfolding day_report_begun
text_row run rows e all upto numbered =
    let heads = title_line run ++ heads_line in
    let until = min run.periods (e.0 - 1) in
    let later : until < e.0 = omega arith in
    ap (λ last. (heads ++ periods_lines (min run.periods (last - 1)) (rows ++ e ∷ [])) ++ accounts_in run last (rows ++ e ∷ [])) (last_is rows e)
    ∙ ap (λ p. (heads ++ p) ++ accounts_in run e.0 (rows ++ e ∷ [])) (periods-kept until rows e later)
    ∙ ap (λ a. (heads ++ periods_lines until rows) ++ a) (accounts-more run rows e)
    ∙ sym (regroup heads (periods_lines (min run.periods (last_period rows - 1)) rows) (accounts_in run (last_period rows) rows)
    (closing_lines (min run.periods (last_period rows - 1)) (charges_in (last_period rows) rows) until) (run_row_lines run e)
    (periods_lines until rows) (accounts_in run e.0 rows) (settled run rows (last_period rows) e.0 all upto numbered))

-- what the end of the report adds to the text
abbrev pub end_text : ReportedRun → Rows → List ℕ
end_text run rows = closing_lines (min run.periods (last_period rows - 1)) (charges_in (last_period rows) rows) run.periods ++ flat_map net_line (nets_from_rows rows) ++ codes "END\n"

pub text_end : (run : ReportedRun) (rows : Rows) → AreUpTo (last_period rows) rows → day_report_text run rows ≡ day_report_begun run rows ++ end_text run rows
unfolding day_report_begun day_report_text
text_end run rows all =
    let last = last_period rows in
    let next = max last (run.periods + 1) in
    let heads = title_line run ++ heads_line in
    let nets = flat_map net_line (nets_from_rows rows) in
    let closed = min run.periods (last - 1) in
    let up : last ≤ next = omega arith in
    let one : 1 ≤ next = omega arith in
    let end : min run.periods (next - 1) ≡ run.periods = omega arith in
    let beyond : run.periods < next = omega arith in
    let closings = closing_lines closed (charges_in last rows) run.periods in
    let whole : (periods_lines closed rows ++ accounts_in run last rows) ++ closings ≡ periods_lines run.periods rows ++ []
    = ap (λ n. (periods_lines closed rows ++ accounts_in run last rows) ++ closing_lines closed (charges_in last rows) n) (sym end)
    ∙ settled run rows last next all up one
    ∙ ap (λ n. periods_lines n rows ++ accounts_in run next rows) end
    ∙ ap (λ a. periods_lines run.periods rows ++ a) (accounts-beyond run next rows beyond) in
    let left : ((heads ++ periods_lines run.periods rows) ++ nets) ++ codes "END\n" ≡ (heads ++ periods_lines run.periods rows) ++ ([] ++ (nets ++ codes "END\n")) = append_assoc (heads ++ periods_lines run.periods rows) nets (codes "END\n") in
    left
    ∙ sym (regroup heads (periods_lines closed rows) (accounts_in run last rows) closings (nets ++ codes "END\n") (periods_lines run.periods rows) [] whole)
    ∙ ap (λ l. ((heads ++ periods_lines closed rows) ++ accounts_in run last rows) ++ l) (sym (append_assoc closings nets (codes "END\n")))

-- the report so far, with no rows
pub day_begun_none : (run : ReportedRun) → title_line run ++ heads_line ≡ day_report_begun run []
unfolding day_report_begun
day_begun_none run =
    let none : min run.periods 0 ≡ 0 = omega arith in
    let heads = title_line run ++ heads_line in
    sym (
    ap (λ n. (heads ++ periods_lines n []) ++ accounts_in run 0 []) none
    ∙ ap (λ a. (heads ++ []) ++ a) (accounts-none run 0 [] refl)
    ∙ append-nil (heads ++ []) ∙ append-nil heads)

-- The outcome of one more row, for a writer of a day report.
module _ (a b : Option (List ℕ)) (f g : ℕ) (old : DayState) (run : ReportedRun) (rows : Rows) (before : HasDay (changed a b f g) old run rows) where
  -- what a row adds, as the writer computes it
  abbrev pub added_text : ℕ × AccountRow → List ℕ
  added_text e = closing_lines (min old.run.periods (old.period - 1)) old.charges (min old.run.periods (e.0 - 1)) ++ run_row_lines old.run e

  same_added : (e : ℕ × AccountRow) → added_text e ≡ row_text run rows e
  same_added e =
      ap (λ (q : ReportedRun). closing_lines (min q.periods (old.period - 1)) old.charges (min q.periods (e.0 - 1)) ++ run_row_lines q e) before.run_is
      ∙ ap (λ p. closing_lines (min run.periods (p - 1)) old.charges (min run.periods (e.0 - 1)) ++ run_row_lines run e) before.period
      ∙ ap (λ z. closing_lines (min run.periods (last_period rows - 1)) z (min run.periods (e.0 - 1)) ++ run_row_lines run e) before.charges

  module _ (e : ℕ × AccountRow) (upto : old.period ≤ e.0) (numbered : 1 ≤ e.0) where
    next_text : day_report_begun run (rows ++ e ∷ []) ≡ day_report_begun run rows ++ added_text e
    next_text =
        let up : last_period rows ≤ e.0 = subst (λ p. p ≤ e.0) before.period upto in
        text_row run rows e before.in_order up numbered ∙ ap (λ t. day_report_begun run rows ++ t) (sym (same_added e))

    -- memory is refused before anything is written
    pub day_refused : {A : Type 0} (Is : A → Type 0) (r : Result A ReportFault) → IsErrAnd r (λ fault. fault ≡ Memory)
        → Reaches (changed a b f g) Is (day_report_begun run (rows ++ e ∷ [])) r
    day_refused Is r is =
        let sent = before.sent in
        told_back (changed a b f g) Is (day_report_begun run (rows ++ e ∷ [])) Memory r is (
          (
            sent.gone,
            old.held ++ added_text e,
            next_text ∙ ap (λ t. t ++ added_text e) sent.rest ∙ append_assoc sent.gone old.held (added_text e),
            sent.went,
          ),
          sent.well,
        )

    -- the text of the row is not written to its end
    pub day_stopped : (c : Option (List ℕ)) (n : ℕ) (fault : ReportFault) → Stops (changed b c g n) (old.held ++ added_text e) fault
        → Stops (changed a c f n) (day_report_begun run (rows ++ e ∷ [])) fault
    day_stopped c n fault now =
        rw next_text (stopped_on a b c [] old.held f g n (day_report_begun run rows) (added_text e) fault before.sent now)

    charges_before : cond (eqb old.period e.0) old.charges (pos 0) ≡ charges_in e.0 rows
    charges_before = elim (cases_lt old.period e.0) [
      | inl lower ↦
          let above : last_period rows < e.0 = subst (λ p. p < e.0) before.period lower in
          ap (λ b. cond b old.charges (pos 0)) (other_of_lower old.period e.0 lower)
          ∙ sym (ap (total (λ (row : AccountRow). row.charge)) (none_above (last_period rows) e.0 rows before.in_order above))
      | inr here ↦
          let same : old.period ≡ e.0 = omega arith in
          ap (λ p. cond (eqb p e.0) old.charges (pos 0)) same
          ∙ ap (λ b. cond b old.charges (pos 0)) (same_number e.0)
          ∙ before.charges ∙ ap (λ p. charges_in p rows) (sym before.period ∙ same)
    ]

    charges_next : charges_in (last_period (rows ++ e ∷ [])) (rows ++ e ∷ []) ≡ charges_in e.0 rows +ℤ e.1.charge
    charges_next =
        ap (λ p. charges_in p (rows ++ e ∷ [])) (last_is rows e)
        ∙ ap (total (λ (row : AccountRow). row.charge)) (rows-same rows e)
        ∙ total_next (λ (row : AccountRow). row.charge) (rows_of_period e.0 rows) e.1

    -- the text of the row is written
    pub day_given : (c : Option (List ℕ)) (n : ℕ) (new : DayState) → new.run ≡ old.run → new.period ≡ e.0
        → new.charges ≡ cond (eqb old.period e.0) old.charges (pos 0) +ℤ e.1.charge → HasAmounts new.nets (map cash_moved rows ++ cash_moved e ∷ [])
        → IsPassed (changed b c g n) new.held (old.held ++ added_text e) → HasDay (changed a c f n) new run (rows ++ e ∷ [])
    day_given c n new same at summed counted now =
        record {
          run_is = same ∙ before.run_is;
          period = at ∙ sym (last_is rows e);
          charges = summed ∙ ap (λ z. z +ℤ e.1.charge) charges_before ∙ sym charges_next;
          nets = subst (HasAmounts new.nets) (sym (map-append cash_moved rows (e ∷ []))) counted;
          in_order = upto_more rows e before.in_order (subst (λ p. p ≤ e.0) before.period upto) numbered;
          sent = rw next_text (went_on a b c [] old.held new.held f g n (day_report_begun run rows) (added_text e) before.sent now);
        }

  -- what the end adds, as the writer computes it
  abbrev pub ending : Table Account ℤ → List ℕ
  ending nets = closing_lines (min old.run.periods (old.period - 1)) old.charges old.run.periods ++ flat_map net_line nets ++ codes "END\n"

  end_is : (nets : Table Account ℤ) → nets ≡ old.nets.sums → day_report_text run rows ≡ day_report_begun run rows ++ ending nets
  end_is nets are =
      text_end run rows before.in_order
      ∙ ap (λ t. day_report_begun run rows ++ t) (sym (
      ap (λ (q : ReportedRun). closing_lines (min q.periods (old.period - 1)) old.charges q.periods ++ flat_map net_line nets ++ codes "END\n") before.run_is
      ∙ ap (λ p. closing_lines (min run.periods (p - 1)) old.charges run.periods ++ flat_map net_line nets ++ codes "END\n") before.period
      ∙ ap (λ z. closing_lines (min run.periods (last_period rows - 1)) z run.periods ++ flat_map net_line nets ++ codes "END\n") before.charges
      ∙ ap (λ t. closing_lines (min run.periods (last_period rows - 1)) (charges_in (last_period rows) rows) run.periods ++ flat_map net_line t ++ codes "END\n") (are ∙ before.nets.sums)))

  pub end_stopped : (nets : Table Account ℤ) → nets ≡ old.nets.sums → (c : Option (List ℕ)) (n : ℕ) (fault : ReportFault) → Stops (changed b c g n) (old.held ++ ending nets) fault
      → Stops (changed a c f n) (day_report_text run rows) fault
  end_stopped nets are c n fault now =
      rw (end_is nets are) (stopped_on a b c [] old.held f g n (day_report_begun run rows) (ending nets) fault before.sent now)

  pub end_given : (nets : Table Account ℤ) → nets ≡ old.nets.sums → (c : Option (List ℕ)) (n : ℕ) (held : List ℕ) → IsPassed (changed b c g n) held (old.held ++ ending nets)
      → IsPassed (changed a c f n) held (day_report_text run rows)
  end_given nets are c n held now =
      rw (end_is nets are) (went_on a b c [] old.held held f g n (day_report_begun run rows) (ending nets) before.sent now)
