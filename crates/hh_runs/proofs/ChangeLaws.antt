-- The changes of a list of accounts: of two rows of an account it doesn't matter which counts, for both have the same change.
use Rattle.std.proofs.Common.{◌≡◌, List, [], ◌∷◌, Bool, true, false, cond, map, refl, sym, ap, ◌∙◌, Some, None, Ordering}
use Rattle.std.specs.Prelude.{ℤ, is_some, pos, filter, filter_map, if◌then◌else◌}
use Rattle.std.specs.List.{cons_option}
use Rattle.std.specs.Cmp.{IsTotalOrder}
use Rattle.std.specs.FinMap.{find}
use Rattle.std.specs.FinMap.Entries.{find-put, same_entries}
use Rattle.std.specs.Ordering.{eq_by_cmp}
use Rattle.std.specs.declared.cmp.Ordering.TheVariants.{Equal}
use Rattle.hh_tables.specs.Tables.{in_key_order, put_all}
use Rattle.hh_tables.proofs.TableLaws.{find-in_key_order, is_sorted-in_key_order}
use Rattle.hh_tables.proofs.RowLaws.{equal, is_sorted-put_all}
use Rattle.hh_names.specs.declared.account.Account.{Account}
use Rattle.hh_names.specs.Accounts.{account_cmp}
use Rattle.hh_names.proofs.AccountLaws.{account_total, exact_accounts}
use Rattle.hh_runs.specs.DayNets.{DayNets, is_difference, with_change}
use Rattle.hh_runs.specs.Postings.{entry_of}
use Rattle.hh_runs.specs.steps.Postings.{posting_for}

-- rows whose columns depend only on their keys
module _ {K V W : Type 0} {R : K → K → Ordering} (o : IsTotalOrder R) (exact : (x y : K) → R x y ≡ Equal → x ≡ y) (f : K → V) where
  abbrev by_key : K × W → K × V
  by_key e = (e.0, f e.0)

  abbrev has : K → List (K × W) → Bool
  has q es = is_some (find R q es)

  found : (q : K) (es : List (K × W)) → find R q (map by_key es) ≡ cond (has q es) (Some (f q)) None
  found q [] = refl
  found q (e ∷ es) = elim (eq_by_cmp R q e.0) as (λ b. eq_by_cmp R q e.0 ≡ b → cond b (Some (f e.0)) (find R q (map by_key es)) ≡ cond (is_some (cond b (Some e.1) (find R q es))) (Some (f q)) None) [
    | true ↦ λ same. ap (λ k. Some (f k)) (sym (exact q e.0 (equal (R q e.0) same)))
    | false ↦ λ apart. found q es
  ] refl

  found_put : (q : K) (es : List (K × W)) (table : List (K × V)) → find R q (put_all R (map by_key es) table) ≡ cond (has q es) (Some (f q)) (find R q table)
  found_put q [] table = refl
  found_put q (e ∷ es) table =
      found_put q es _
      ∙ ap (λ t. cond (has q es) (Some (f q)) t) (find-put R o q e.0 (f e.0) table)
      ∙ elim (eq_by_cmp R q e.0) as (λ b. eq_by_cmp R q e.0 ≡ b
      → cond (has q es) (Some (f q)) (cond b (Some (f e.0)) (find R q table)) ≡ cond (is_some (cond b (Some e.1) (find R q es))) (Some (f q)) (find R q table)) [
        | true ↦ λ same. ap (λ k. cond (has q es) (Some (f q)) (Some (f k))) (sym (exact q e.0 (equal (R q e.0) same))) ∙ either (has q es) (Some (f q))
        | false ↦ λ apart. refl
      ] refl
    where
      either : {X : Type 0} (b : Bool) (x : X) → cond b x x ≡ x
      either true x = refl
      either false x = refl

  put_all-by_key : (es : List (K × W)) → put_all R (map by_key es) [] ≡ in_key_order R (map by_key es)
  put_all-by_key es =
      same_entries R o exact _ _ (is_sorted-put_all o (map by_key es) [] tt) (is_sorted-in_key_order o (map by_key es))
      (λ q. found_put q es [] ∙ sym (found q es) ∙ sym (find-in_key_order o (map by_key es) q))

-- the changes of accounts, put into a table one after the other
pub changes_in_order : (old new nets : DayNets) → put_all account_cmp (map (with_change old new) nets) [] ≡ in_key_order account_cmp (map (with_change old new) nets)
changes_in_order old new nets = put_all-by_key account_total exact_accounts (λ a. (with_change old new (a, pos 0)).1) nets

-- the postings of changes are the changes that are not 0
pub postings_are : (changes : List (Account × ℤ)) → map entry_of (filter_map posting_for changes) ≡ filter is_difference changes
postings_are [] = refl
postings_are (e ∷ es) = elim (is_difference e) as (λ b.
    map entry_of (cons_option (if b then Some (record { account = e.0; pence = e.1 }) else None) (filter_map posting_for es)) ≡ cond b (e ∷ filter is_difference es) (filter is_difference es)) [
      | true ↦ ap (λ t. e ∷ t) (postings_are es)
      | false ↦ postings_are es
    ]
