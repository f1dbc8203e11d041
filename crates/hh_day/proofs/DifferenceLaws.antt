-- The differences between two settlements of a day depend only on the day nets of accounts.
use Rattle.std.proofs.Common.{◌≡◌, List, [], ◌∷◌, ◌++◌, map, refl, sym, ap, subst, ◌∙◌, Bool, true, false, cond, not, Option, Some, None, Ordering}
use Rattle.std.specs.Prelude.{ℤ, pos, ◌-ℤ◌, filter, is_some, unwrap_or, T}
use Rattle.std.specs.FinMap.{find, is_sorted, put}
use Rattle.std.specs.FinMap.Entries.{by_order, find-where_key, is_sorted-where_key, same_entries, where_key}
use Rattle.std.specs.List.{AllByRecursion}
use Rattle.std.specs.Ordering.{eq_by_cmp, int_eq}
use Rattle.std.specs.declared.cmp.Ordering.TheVariants.{Less, Equal, Greater}
use Rattle.hh_tables.specs.Tables.{in_key_order}
use Rattle.hh_tables.proofs.RowLaws.{equal}
use Rattle.hh_tables.proofs.TableLaws.{find-in_key_order, is_sorted-in_key_order}
use Rattle.hh_names.specs.declared.account.Account.{Account}
use Rattle.hh_names.specs.Accounts.{account_cmp}
use Rattle.hh_names.proofs.AccountLaws.{account_total, exact_accounts}
use Rattle.hh_runs.specs.DayNets.{DayNets, day_net_of, differences, net_change, with_change}

-- a table whose values are those of a function of its keys
module _ {K V : Type 0} {R : K → K → Ordering} (exact : (x y : K) → R x y ≡ Equal → x ≡ y) (value : K → V) where
  -- an entry has the value of its key
  abbrev HasItsValue : K × V → Type 0
  HasItsValue e = e.1 ≡ value e.0

  -- putting an entry that has the value of its key keeps this property
  put_keeps_values : (k : K) (es : List (K × V)) → AllByRecursion HasItsValue es → AllByRecursion HasItsValue (put R k (value k) es)
  put_keeps_values k [] own = (refl, tt)
  put_keeps_values k (e ∷ es) own =
      elim (R k e.0) as (λ r. R k e.0 ≡ r → AllByRecursion HasItsValue (by_order r ((k, value k) ∷ e ∷ es) ((e.0, value k) ∷ es) (e ∷ put R k (value k) es))) [
        | Less ↦ λ is. (refl, own)
        | Equal ↦ λ is. (ap value (exact k e.0 is), own.1)
        | Greater ↦ λ is. (own.0, put_keeps_values k es own.1)
      ] refl

  -- so such entries have it after sorting
  all_have_their_values : {W : Type 0} (es : List (K × W)) → AllByRecursion HasItsValue (in_key_order R (map (λ e. (e.0, value e.0)) es))
  all_have_their_values [] = tt
  all_have_their_values (e ∷ es) = put_keeps_values e.0 (in_key_order R (map (λ x. (x.0, value x.0)) es)) (all_have_their_values es)

  -- a test of the value of such an entry is a test of its key
  tested_by_key : (passes : V → Bool) (es : List (K × V)) → AllByRecursion HasItsValue es → filter (λ e. passes e.1) es ≡ where_key R (λ k. passes (value k)) es
  tested_by_key passes [] own = refl
  tested_by_key passes (e ∷ es) own = λ i. cond (passes (own.0 i)) (e ∷ tested_by_key passes es own.1 i) (tested_by_key passes es own.1 i)

  -- a key that is found has its own value
  found_value : {W : Type 0} (q : K) (es : List (K × W)) → find R q (map (λ e. (e.0, value e.0)) es) ≡ cond (is_some (find R q es)) (Some (value q)) None
  found_value q [] = refl
  found_value q (e ∷ es) =
      elim (eq_by_cmp R q e.0) as (λ b. eq_by_cmp R q e.0 ≡ b
      → cond b (Some (value e.0)) (find R q (map (λ x. (x.0, value x.0)) es)) ≡ cond (is_some (cond b (Some e.1) (find R q es))) (Some (value q)) None) [
        | true ↦ λ same. ap (λ k. Some (value k)) (sym (exact q e.0 (equal (R q e.0) same)))
        | false ↦ λ apart. found_value q es
      ] refl

-- a key that is not found in two lists together is found in neither
found_in_neither : {K V : Type 0} (R : K → K → Ordering) (q : K) (es fs : List (K × V)) → find R q (es ++ fs) ≡ None → (find R q es ≡ None) × (find R q fs ≡ None)
found_in_neither R q [] fs none = (refl, none)
found_in_neither R q (e ∷ es) fs none =
    elim (eq_by_cmp R q e.0) as (λ b. cond b (Some e.1) (find R q (es ++ fs)) ≡ None → (cond b (Some e.1) (find R q es) ≡ None) × (find R q fs ≡ None)) [
      | true ↦ λ is. cc
      | false ↦ λ is. found_in_neither R q es fs is
    ] none

-- a change, if it is not 0
abbrev change_shown : ℤ → Option ℤ
change_shown z = cond (not (int_eq z (pos 0))) (Some z) None

module _ (old new : DayNets) where
  -- whether an account's net has changed
  abbrev has_changed : Account → Bool
  has_changed a = not (int_eq (net_change old new a) (pos 0))

  -- the accounts of either day, each with its change, in their order
  abbrev all_changes : DayNets
  all_changes = in_key_order account_cmp (map (with_change old new) (new ++ old))

  -- the differences are the changes of the accounts whose nets have changed
  differences_by_account : differences old new ≡ where_key account_cmp has_changed all_changes
  differences_by_account =
      tested_by_key exact_accounts (net_change old new) (λ z. not (int_eq z (pos 0))) all_changes (all_have_their_values exact_accounts (net_change old new) (new ++ old))

  -- the accounts of the differences rise
  differences_rise : T (is_sorted account_cmp (differences old new))
  differences_rise =
      subst (λ es. T (is_sorted account_cmp es)) (sym differences_by_account)
      (is_sorted-where_key account_cmp has_changed all_changes (is_sorted-in_key_order account_total (map (with_change old new) (new ++ old))))

  -- the difference that is found for an account is its change
  found_difference : (a : Account) → find account_cmp a (differences old new) ≡ change_shown (net_change old new a)
  found_difference a =
      ap (find account_cmp a) differences_by_account
      ∙ find-where_key account_cmp has_changed a (λ b tied. ap has_changed (sym (exact_accounts a b tied))) all_changes
      ∙ ap (λ o. cond (has_changed a) o None) (find-in_key_order account_total (map (with_change old new) (new ++ old)) a ∙ found_value exact_accounts (net_change old new) a (new ++ old))
      ∙ elim (find account_cmp a (new ++ old)) as (λ o. find account_cmp a (new ++ old) ≡ o
      → cond (has_changed a) (cond (is_some o) (Some (net_change old new a)) None) None ≡ change_shown (net_change old new a)) [
        | None ↦ λ none.
            let neither = found_in_neither account_cmp a new old none in
            let nothing : net_change old new a ≡ pos 0 = λ i. unwrap_or (neither.0 i) (pos 0) -ℤ unwrap_or (neither.1 i) (pos 0) in
            ap (λ z. cond (not (int_eq z (pos 0))) None None) nothing ∙ sym (ap change_shown nothing)
        | Some z ↦ λ is. refl
      ] refl

-- the differences are the same if each account has the same nets
pub same_differences : (old new also_old also_new : DayNets) → ((a : Account) → day_net_of old a ≡ day_net_of also_old a) → ((a : Account) → day_net_of new a ≡ day_net_of also_new a)
    → differences old new ≡ differences also_old also_new
same_differences old new also_old also_new same_old same_new =
    same_entries account_cmp account_total exact_accounts (differences old new) (differences also_old also_new)
    (differences_rise old new) (differences_rise also_old also_new)
    (λ a. found_difference old new a
    ∙ (λ i. change_shown (same_new a i -ℤ same_old a i))
    ∙ sym (found_difference also_old also_new a))
