-- A day report does not depend on the order in which its Settlement Periods come.
use Rattle.std.proofs.Common.{◌≡◌, ℕ, ◌+◌, eqb, true, false, cond, List, [], ◌∷◌, ◌++◌, map, length, Some, None, refl, sym, ap, ◌∙◌, arith}
use Rattle.std.specs.Prelude.{◌&&◌, ◌||◌, ℤ, pos, ◌+ℤ◌, unsigned_abs, not, filter, sum_by, is_some, codes, IsPermutation}
use Rattle.std.specs.FinMap.{find}
use Rattle.std.specs.FinMap.Entries.{same_entries}
use Rattle.std.specs.List.{cons_option, flat_map, list_any}
use Rattle.std.specs.List.Sorted.{ties, IsStableByKey}
use Rattle.std.specs.Ordering.{eq_by_cmp, is_lt, nat_cmp}
use Rattle.std.proofs.lemmas.Bool.Decides.{nat_tests}
use Rattle.std.proofs.lemmas.Int.{ints}
use Rattle.std.proofs.lemmas.List.Sorted.{length_permutation, list_any-IsPermutation, sum_by-IsPermutation, IsPermutation-map}
use Rattle.std.proofs.lemmas.List.Sums.{sum_by-cons}
use Rattle.hh_num.specs.Totals.{total}
use Rattle.hh_names.specs.declared.account.Account.{Account}
use Rattle.hh_names.specs.Accounts.{account_cmp}
use Rattle.hh_names.proofs.AccountLaws.{account_total, exact_accounts}
use Rattle.hh_calc.specs.declared.result.AccountRow.{AccountRow}
use Rattle.hh_calc.specs.Formulas.{if_same_account}
use Rattle.hh_reports.specs.declared.run.ReportedRun.{ReportedRun}
use Rattle.hh_reports.specs.DayReport.{day_report_text, heads_line, net_line, period_lines, periods_lines, rows_of_period, title_line}
use Rattle.hh_reports.specs.Nets.{cash_moved, nets_from_rows, sum_for, sums_of, Amounts}
use Rattle.hh_reports.specs.Writers.{Rows}
use Rattle.hh_reports.proofs.DayLaws.{lines_as}
use Rattle.hh_reports.proofs.NetLaws.{find_sum, in_table, sums_sorted}

-- a sum of either sign, computed from two sums that are not negative
sum_step : (z t : ℤ) (m n : ℕ) → t +ℤ pos m ≡ pos n → (z +ℤ t) +ℤ pos (unsigned_abs z + m) ≡ pos (unsigned_abs (z +ℤ pos (unsigned_abs z)) + n)
sum_step z t m n so_far = omega (arith, ints)

sum_parts : {X : Type 0} (f : X → ℤ) (xs : List X) → total f xs +ℤ pos (sum_by (λ x. unsigned_abs (f x)) xs) ≡ pos (sum_by (λ x. unsigned_abs (f x +ℤ pos (unsigned_abs (f x)))) xs)
sum_parts f [] = refl
sum_parts f (x ∷ xs) =
    rw (sum_by-cons (λ x. unsigned_abs (f x)) x xs, sum_by-cons (λ x. unsigned_abs (f x +ℤ pos (unsigned_abs (f x)))) x xs)
    (sum_step (f x) (total f xs) (sum_by (λ x. unsigned_abs (f x)) xs) (sum_by (λ x. unsigned_abs (f x +ℤ pos (unsigned_abs (f x)))) xs) (sum_parts f xs))

sum_back : (s t : ℤ) (m k n j : ℕ) → s +ℤ pos m ≡ pos n → t +ℤ pos k ≡ pos j → k ≡ m → j ≡ n → t ≡ s
sum_back s t m k n j one two same also = omega (arith, ints)

total-permuted : {X : Type 0} (f : X → ℤ) (xs ys : List X) → IsPermutation xs ys → total f ys ≡ total f xs
total-permuted f xs ys moved =
    sum_back (total f xs) (total f ys) _ _ _ _ (sum_parts f xs) (sum_parts f ys)
    (sum_by-IsPermutation (λ x. unsigned_abs (f x)) xs ys moved) (sum_by-IsPermutation (λ x. unsigned_abs (f x +ℤ pos (unsigned_abs (f x)))) xs ys moved)

-- whether an account has an amount
has_amount : (a : Account) (amounts : Amounts) → is_some (find account_cmp a amounts) ≡ list_any (λ e. eq_by_cmp account_cmp a e.0) amounts
has_amount a [] = refl
has_amount a (e ∷ amounts) = elim (eq_by_cmp account_cmp a e.0) as (λ b. is_some (cond b (Some e.1) (find account_cmp a amounts)) ≡ (b || list_any (λ e. eq_by_cmp account_cmp a e.0) amounts)) [
  | true ↦ refl
  | false ↦ has_amount a amounts
]

found : (amounts : Amounts) (a : Account) → find account_cmp a (sums_of amounts) ≡ cond (list_any (λ e. eq_by_cmp account_cmp a e.0) amounts) (Some (sum_for a amounts)) None
found amounts a = find_sum amounts a ∙ ap (λ b. cond b (Some (sum_for a amounts)) None) (in_table a amounts ∙ has_amount a amounts)

-- sums do not depend on the order of the amounts
pub sums-permuted : (xs ys : Amounts) → IsPermutation xs ys → sums_of ys ≡ sums_of xs
sums-permuted xs ys moved =
    same_entries account_cmp account_total exact_accounts _ _ (sums_sorted ys) (sums_sorted xs)
    (λ a. found ys a
    ∙ ap (λ b. cond b (Some (sum_for a ys)) None) (sym (list_any-IsPermutation (λ e. eq_by_cmp account_cmp a e.0) xs ys moved))
    ∙ ap (λ z. cond (list_any (λ e. eq_by_cmp account_cmp a e.0) xs) (Some z) None) (total-permuted (λ e. if_same_account a e.0 e.1) xs ys moved)
    ∙ sym (found xs a))

-- the rows of a period are those whose numbers are equal to its own
ties_same : (p a : ℕ) → not (is_lt (nat_cmp p a)) && not (is_lt (nat_cmp a p)) ≡ eqb a p
ties_same p a = grind (arith, nat_tests)

abbrev tying : ℕ × AccountRow → Rows → Rows
tying x rows = filter (ties (λ a b. is_lt (nat_cmp a.0 b.0)) x) rows

of_ties : (x : ℕ × AccountRow) (rows : Rows) → map (λ e. e.1) (tying x rows) ≡ rows_of_period x.0 rows
of_ties x [] = refl
of_ties x (e ∷ rows) =
    ap (λ b. map (λ (e : ℕ × AccountRow). e.1) (cond b (e ∷ tying x rows) (tying x rows))) (ties_same x.0 e.0)
    ∙ elim (eqb e.0 x.0) as (λ b. map (λ (e : ℕ × AccountRow). e.1) (cond b (e ∷ tying x rows) (tying x rows)) ≡ cons_option (cond b (Some e.1) None) (rows_of_period x.0 rows)) [
      | true ↦ ap (λ l. e.1 ∷ l) (of_ties x rows)
      | false ↦ of_ties x rows
    ]

-- sorting rows by their periods leaves the order of the rows of each period
rows-sorted : (period : ℕ) (rows sorted : Rows) → IsPermutation rows sorted → IsStableByKey (λ e. e.0) nat_cmp rows sorted → rows_of_period period sorted ≡ rows_of_period period rows
rows-sorted period [] sorted moved stable =
    let none : length sorted ≡ 0 = length_permutation [] sorted moved in
    ap (rows_of_period period) (empty sorted none)
  where
    empty : (xs : Rows) → length xs ≡ 0 → xs ≡ []
    empty [] none = refl
    empty (x ∷ xs) none = absurd (omega (arith, none))
rows-sorted period (e ∷ rows) sorted moved stable =
    sym (of_ties (period, e.1) sorted) ∙ ap (map (λ (e : ℕ × AccountRow). e.1)) (stable (period, e.1)) ∙ of_ties (period, e.1) (e ∷ rows)

pub text-sorted : (run : ReportedRun) (rows sorted : Rows) → IsPermutation rows sorted → IsStableByKey (λ e. e.0) nat_cmp rows sorted → day_report_text run sorted ≡ day_report_text run rows
unfolding day_report_text
text-sorted run rows sorted moved stable =
    let nets : nets_from_rows sorted ≡ nets_from_rows rows = sums-permuted (map cash_moved rows) (map cash_moved sorted) (IsPermutation-map cash_moved rows sorted moved) in
    let periods : periods_lines run.periods sorted ≡ periods_lines run.periods rows
    = lines_as (λ period. period_lines period (rows_of_period period sorted)) (λ period. period_lines period (rows_of_period period rows)) 1 run.periods
    (λ p low high. ap (period_lines p) (rows-sorted p rows sorted moved stable)) in
    ap (λ l. title_line run ++ heads_line ++ l ++ flat_map net_line (nets_from_rows sorted) ++ codes "END\n") periods
    ∙ ap (λ t. title_line run ++ heads_line ++ periods_lines run.periods rows ++ flat_map net_line t ++ codes "END\n") nets
