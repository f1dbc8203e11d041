-- The sums of amounts for accounts, one amount after another.
use Rattle.std.proofs.Common.{◌≡◌, ℕ, ◌+◌, ◌*◌, ◌≤◌, Bool, true, false, cond, List, [], ◌∷◌, ◌++◌, map, length, Some, None, Ordering, refl, sym, ap, length-append, ◌∙◌, arith}
use Rattle.std.specs.Prelude.{◌&&◌, ℤ, pos, ◌+ℤ◌, unsigned_abs, unwrap_or, is_some, T}
use Rattle.std.specs.FinMap.{find, put, is_sorted}
use Rattle.std.specs.FinMap.Entries.{below_all, find-put, is_sorted-put, same_entries}
use Rattle.std.specs.Ordering.{eq_by_cmp, is_lt}
use Rattle.std.specs.declared.cmp.Ordering.TheVariants.{Equal}
use Rattle.std.proofs.Math.IntN.{+ℤ_idl, +ℤ_idr}
use Rattle.std.proofs.lemmas.Cmp.{eq_by_cmp_equiv}
use Rattle.std.proofs.lemmas.Int.{ints}
use Rattle.std.proofs.lemmas.Map.Views.{tells_apart}
use Rattle.hh_num.specs.Totals.{total}
use Rattle.hh_num.proofs.TotalLaws.{total-append}
use Rattle.hh_tables.specs.Tables.{Table, latest, table_of_last}
use Rattle.hh_tables.proofs.TableLaws.{find-in_key_order, is_some-find-latest, is_sorted-in_key_order, table_of_last-append}
use Rattle.hh_names.specs.declared.account.Account.{Account}
use Rattle.hh_names.specs.Accounts.{account_cmp}
use Rattle.hh_names.proofs.AccountLaws.{account_total, exact_accounts}
use Rattle.hh_calc.specs.Formulas.{if_same_account}
use Rattle.hh_reports.specs.Nets.{sum_for, sums_of, Amounts}
use Rattle.hh_reports.specs.Writers.{HasAmounts, SumsState}
use Rattle.hh_reports.specs.steps.Nets.{greatest_amount, sum_in, AreSmall}

-- Tables with other values under their keys.
module _ {K V W : Type 0} (R : K → K → Ordering) (value : K → W) where
  abbrev with_values : List (K × V) → List (K × W)
  with_values es = map (λ e. (e.0, value e.0)) es

  below_all-with : (k : K) (es : List (K × V)) → below_all R k (with_values es) ≡ below_all R k es
  below_all-with k [] = refl
  below_all-with k (e ∷ es) = ap (λ b. is_lt (R k e.0) && b) (below_all-with k es)

  is_sorted-with : (es : List (K × V)) → is_sorted R (with_values es) ≡ is_sorted R es
  is_sorted-with [] = refl
  is_sorted-with (e ∷ es) = λ i. below_all-with e.0 es i && is_sorted-with es i

  find-with : ((x y : K) → R x y ≡ Equal → x ≡ y) → (q : K) (es : List (K × V)) → find R q (with_values es) ≡ cond (is_some (find R q es)) (Some (value q)) None
  find-with exact q [] = refl
  find-with exact q (e ∷ es) =
      elim (eq_by_cmp R q e.0) as (λ b. eq_by_cmp R q e.0 ≡ b → cond b (Some (value e.0)) (find R q (with_values es)) ≡ cond (is_some (cond b (Some e.1) (find R q es))) (Some (value q)) None) [
        | true ↦ λ same. ap (λ k. Some (value k)) (sym (tells_apart exact q e.0 same))
        | false ↦ λ other. find-with exact q es
      ] refl

-- a sum over one more place of a list
pub total_next : {X : Type 0} (f : X → ℤ) (xs : List X) (x : X) → total f (xs ++ x ∷ []) ≡ total f xs +ℤ f x
total_next f xs x = total-append f xs (x ∷ []) ∙ ap (λ z. total f xs +ℤ z) (+ℤ_idr (f x))

-- the sum of an account that has no amount is 0
absent : (a : Account) (amounts : Amounts) → is_some (find account_cmp a amounts) ≡ false → sum_for a amounts ≡ pos 0
absent a [] none = refl
absent a (e ∷ amounts) none =
    elim (eq_by_cmp account_cmp a e.0) as (λ b. eq_by_cmp account_cmp a e.0 ≡ b → is_some (cond b (Some e.1) (find account_cmp a amounts)) ≡ false → if_same_account a e.0 e.1 +ℤ sum_for a amounts ≡ pos 0) [
      | true ↦ λ same there. cc
      | false ↦ λ other later.
          ap (λ b. cond b e.1 (pos 0) +ℤ sum_for a amounts) ((eq_by_cmp_equiv account_total).symm e.0 a ∙ other)
          ∙ +ℤ_idl (sum_for a amounts) ∙ absent a amounts later
    ] refl none

-- what is found under an account that has an amount, and under one that has none
found_or_absent : (a : Account) (amounts : Amounts) (there : Bool) → is_some (find account_cmp a amounts) ≡ there
    → unwrap_or (cond there (Some (sum_for a amounts)) None) (pos 0) ≡ sum_for a amounts
found_or_absent a amounts true is = refl
found_or_absent a amounts false is = sym (absent a amounts is)

pub in_table : (a : Account) (amounts : Amounts) → is_some (find account_cmp a (table_of_last account_cmp amounts)) ≡ is_some (find account_cmp a amounts)
in_table a amounts = ap is_some (find-in_key_order account_total (latest account_cmp amounts) a) ∙ is_some-find-latest account_total amounts a

pub find_sum : (amounts : Amounts) (a : Account) → find account_cmp a (sums_of amounts) ≡ cond (is_some (find account_cmp a (table_of_last account_cmp amounts))) (Some (sum_for a amounts)) None
find_sum amounts a = find-with account_cmp (λ k. sum_for k amounts) exact_accounts a (table_of_last account_cmp amounts)

-- the sums have for each account the sum of its amounts
pub sum_found : (amounts : Amounts) (a : Account) → sum_in (sums_of amounts) a ≡ sum_for a amounts
sum_found amounts a =
    ap (λ o. unwrap_or o (pos 0)) (find_sum amounts a)
    ∙ ap (λ there. unwrap_or (cond there (Some (sum_for a amounts)) None) (pos 0)) (in_table a amounts)
    ∙ found_or_absent a amounts (is_some (find account_cmp a amounts)) refl

pub sums_sorted : (amounts : Amounts) → T (is_sorted account_cmp (sums_of amounts))
sums_sorted amounts =
    rw (is_sorted-with account_cmp (λ k. sum_for k amounts) (table_of_last account_cmp amounts)) (is_sorted-in_key_order account_total (latest account_cmp amounts))

-- one more amount is added to the sum of its account
one_more : (amounts : Amounts) (e : Account × ℤ) → put account_cmp e.0 (sum_for e.0 amounts +ℤ e.1) (sums_of amounts) ≡ sums_of (amounts ++ e ∷ [])
one_more amounts e =
    same_entries account_cmp account_total exact_accounts _ _
    (is_sorted-put account_cmp account_total e.0 (sum_for e.0 amounts +ℤ e.1) (sums_of amounts) (sums_sorted amounts))
    (sums_sorted (amounts ++ e ∷ []))
    (λ q. find-put account_cmp account_total q e.0 (sum_for e.0 amounts +ℤ e.1) (sums_of amounts)
    ∙ ap (λ o. cond (eq_by_cmp account_cmp q e.0) (Some (sum_for e.0 amounts +ℤ e.1)) o) (find_sum amounts q)
    ∙ beside q
    ∙ sym (find_sum (amounts ++ e ∷ []) q
    ∙ ap (λ t. cond (is_some (find account_cmp q t)) (Some (sum_for q (amounts ++ e ∷ []))) None) (table_of_last-append account_total exact_accounts amounts e)
    ∙ ap (λ o. cond (is_some o) (Some (sum_for q (amounts ++ e ∷ []))) None) (find-put account_cmp account_total q e.0 e.1 (table_of_last account_cmp amounts))))
  where
    sum_after : (q : Account) → sum_for q (amounts ++ e ∷ []) ≡ sum_for q amounts +ℤ if_same_account q e.0 e.1
    sum_after q = total_next (λ x. if_same_account q x.0 x.1) amounts e

    beside : (q : Account) → cond (eq_by_cmp account_cmp q e.0) (Some (sum_for e.0 amounts +ℤ e.1)) (cond (is_some (find account_cmp q (table_of_last account_cmp amounts))) (Some (sum_for q amounts)) None)
        ≡ cond (is_some (cond (eq_by_cmp account_cmp q e.0) (Some e.1) (find account_cmp q (table_of_last account_cmp amounts)))) (Some (sum_for q (amounts ++ e ∷ []))) None
    beside q =
        elim (eq_by_cmp account_cmp q e.0) as (λ b. eq_by_cmp account_cmp q e.0 ≡ b → cond b (Some (sum_for e.0 amounts +ℤ e.1)) (cond (is_some (find account_cmp q (table_of_last account_cmp amounts))) (Some (sum_for q amounts)) None)
        ≡ cond (is_some (cond b (Some e.1) (find account_cmp q (table_of_last account_cmp amounts)))) (Some (sum_for q (amounts ++ e ∷ []))) None) [
          | true ↦ λ same. ap Some (
              ap (λ k. sum_for k amounts +ℤ e.1) (sym (tells_apart exact_accounts q e.0 same))
              ∙ ap (λ b. sum_for q amounts +ℤ cond b e.1 (pos 0)) (sym ((eq_by_cmp_equiv account_total).symm e.0 q ∙ same))
              ∙ sym (sum_after q))
          | false ↦ λ other. ap (λ z. cond (is_some (find account_cmp q (table_of_last account_cmp amounts))) (Some z) None) (
              sym (+ℤ_idr (sum_for q amounts))
              ∙ ap (λ b. sum_for q amounts +ℤ cond b e.1 (pos 0)) (sym ((eq_by_cmp_equiv account_total).symm e.0 q ∙ other))
              ∙ sym (sum_after q))
        ] refl

-- the sums after one more amount
pub sums_more : (amounts : Amounts) (e : Account × ℤ) (sums new : Table Account ℤ) → sums ≡ sums_of amounts
    → new ≡ put account_cmp e.0 (sum_in sums e.0 +ℤ e.1) sums → new ≡ sums_of (amounts ++ e ∷ [])
sums_more amounts e sums new so_far added =
    added
    ∙ ap (λ t. put account_cmp e.0 (sum_in t e.0 +ℤ e.1) t) so_far
    ∙ ap (λ z. put account_cmp e.0 (z +ℤ e.1) (sums_of amounts)) (sum_found amounts e.0)
    ∙ one_more amounts e

-- the state after one more amount
pub amounts_more : (amounts : Amounts) (e : Account × ℤ) (old new : SumsState)
    → new.sums ≡ put account_cmp e.0 (sum_in old.sums e.0 +ℤ e.1) old.sums → new.given ≡ old.given + 1
    → HasAmounts old amounts → HasAmounts new (amounts ++ e ∷ [])
amounts_more amounts e old new added counted before =
    let last : length (amounts ++ e ∷ []) ≡ length amounts + 1 = length-append amounts (e ∷ []) in
    record {
      sums = sums_more amounts e old.sums new.sums before.sums added;
      given = counted ∙ ap (λ n. n + 1) before.given ∙ sym last;
    }

sum_small : (x y : ℤ) (m n : ℕ) → unsigned_abs x ≤ m → unsigned_abs y ≤ n → unsigned_abs (x +ℤ y) ≤ m + n
sum_small x y m n p q = omega (arith, ints)

-- the sums stay small after a small amount is added
pub small_put : (sums : Table Account ℤ) (e : Account × ℤ) (given : ℕ) → unsigned_abs e.1 ≤ greatest_amount → AreSmall given sums
    → AreSmall (given + 1) (put account_cmp e.0 (sum_in sums e.0 +ℤ e.1) sums)
small_put sums e given small before a =
    let here : unsigned_abs (sum_in sums e.0 +ℤ e.1) ≤ given * greatest_amount + greatest_amount
    = sum_small (sum_in sums e.0) e.1 (given * greatest_amount) greatest_amount (before e.0) small in
    let there = before a in
    rw (find-put account_cmp account_total a e.0 (sum_in sums e.0 +ℤ e.1) sums)
    (elim (eq_by_cmp account_cmp a e.0) as (λ b. unsigned_abs (unwrap_or (cond b (Some (sum_in sums e.0 +ℤ e.1)) (find account_cmp a sums)) (pos 0)) ≤ (given + 1) * greatest_amount) [
      | true ↦ omega arith
      | false ↦ omega arith
    ])

-- the sums that are looked up are those of the amounts
pub sums_found : (amounts : Amounts) (sums : Table Account ℤ) → sums ≡ sums_of amounts → sum_in sums ≡ (λ a. sum_for a amounts)
sums_found amounts sums is = λ i a. (ap (λ t. sum_in t a) is ∙ sum_found amounts a) i
