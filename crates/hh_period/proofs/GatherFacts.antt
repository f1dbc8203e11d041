-- Tables and sets that grow row by row.
use Rattle.std.proofs.Common.{◌≡◌, ℕ, ◌+◌, ◌<◌, List, [], ◌∷◌, ◌++◌, length, get_or, take, map, refl, sym, ap, ◌∙◌, Ordering}
use Rattle.std.specs.BTreeMap.{insert_entry}
use Rattle.std.specs.BTreeSet.{insert_key}
use Rattle.std.specs.Cmp.{IsTotalOrder}
use Rattle.std.specs.FinMap.{put}
use Rattle.std.specs.FinMap.Entries.{by_order}
use Rattle.std.specs.List.{flat_map}
use Rattle.std.specs.Ordering.{match_ordering}
use Rattle.std.specs.declared.cmp.Ordering.TheVariants.{Less, Equal, Greater}
use Rattle.std.proofs.lemmas.List.{append-nil, append_assoc, map-append, take_more}
use Rattle.std.proofs.lemmas.List.Concat.{flat_map-append}
use Rattle.hh_tables.specs.Tables.{table_of_last}
use Rattle.hh_tables.proofs.TableLaws.{insert_entry-put, table_of_last-append}
use Rattle.hh_names.specs.declared.account.Account.{Account}
use Rattle.hh_names.specs.Accounts.{account_cmp}
use Rattle.hh_names.proofs.AccountLaws.{account_total, exact_accounts}
use Rattle.hh_texts.specs.declared.period_contracts.PeriodContractRow.{PeriodContractRow}
use Rattle.hh_period.specs.Rows.{in_account_order, seller_and_buyer}

module _ {K V : Type 0} (R : K → K → Ordering) (k : K) (v : V) where
  -- a set's insertion adds the key of a row
  pub keys-put : (es : List (K × V)) → map (λ e. e.0) (put R k v es) ≡ insert_key R (map (λ e. e.0) es) k
  keys-put [] = refl
  keys-put (e ∷ es) = elim (R k e.0) as (λ o.
      map (λ x. x.0) (by_order o ((k, v) ∷ e ∷ es) ((e.0, v) ∷ es) (e ∷ put R k v es))
      ≡ match_ordering o (k ∷ e.0 ∷ map (λ x. x.0) es) (e.0 ∷ map (λ x. x.0) es) (e.0 ∷ insert_key R (map (λ x. x.0) es) k)) [
        | Less ↦ refl
        | Equal ↦ refl
        | Greater ↦ ap (λ more. e.0 ∷ more) (keys-put es)
      ]

-- the table of the last row of each key, after one more row
pub entries_more : {X K V : Type 0} {R : K → K → Ordering} (o : IsTotalOrder R) (exact : (x y : K) → R x y ≡ Equal → x ≡ y) (entry : X → K × V)
    → (rows : List X) (i : ℕ) (row : X) → i < length rows → row ≡ get_or rows i row
    → (entries : List (K × V)) → entries ≡ table_of_last R (map entry (take i rows))
    → (new : List (K × V)) → new ≡ insert_entry R entries (entry row).0 (entry row).1
    → new ≡ table_of_last R (map entry (take (i + 1) rows))
entries_more {R = R} o exact entry rows i row inside is entries so_far new e =
    e ∙ ap (λ es. insert_entry R es (entry row).0 (entry row).1) so_far
    ∙ insert_entry-put R (entry row).0 (entry row).1 (table_of_last R (map entry (take i rows)))
    ∙ sym (table_of_last-append o exact (map entry (take i rows)) (entry row))
    ∙ ap (table_of_last R) (ap (λ r. map entry (take i rows) ++ entry r ∷ []) is ∙ sym (ap (map entry) (take_more rows i row inside) ∙ map-append entry (take i rows) (get_or rows i row ∷ [])))

-- one more account
pub account_more : (names : List Account) (a : Account) (keys new : List Account) → keys ≡ in_account_order names → new ≡ insert_key account_cmp keys a
    → new ≡ in_account_order (names ++ a ∷ [])
account_more names a keys new so_far e =
    let entries : List (Account × Account) = map (λ n. (n, n)) names in
    e ∙ ap (λ ks. insert_key account_cmp ks a) so_far
    ∙ sym (keys-put account_cmp a a (table_of_last account_cmp entries))
    ∙ ap (map (λ x. x.0)) (sym (table_of_last-append account_total exact_accounts entries (a, a)))
    ∙ ap (λ es. map (λ x. x.0) (table_of_last account_cmp es)) (sym (map-append (λ n. (n, n)) names (a ∷ [])))

-- the account of one more row
pub named_more : {X : Type 0} (name : X → Account) (rows : List X) (i : ℕ) (row : X) → i < length rows → row ≡ get_or rows i row
    → (keys new : List Account) → keys ≡ in_account_order (map name (take i rows)) → new ≡ insert_key account_cmp keys (name row)
    → new ≡ in_account_order (map name (take (i + 1) rows))
named_more name rows i row inside is keys new so_far e =
    account_more (map name (take i rows)) (name row) keys new so_far e
    ∙ ap in_account_order (ap (λ r. map name (take i rows) ++ name r ∷ []) is ∙ sym (ap (map name) (take_more rows i row inside) ∙ map-append name (take i rows) (get_or rows i row ∷ [])))

-- both accounts of one more row
pub counterparties_more : (rows : List PeriodContractRow) (i : ℕ) (row : PeriodContractRow) → i < length rows → row ≡ get_or rows i row
    → (names keys once twice : List Account) → keys ≡ in_account_order (names ++ flat_map seller_and_buyer (take i rows))
    → once ≡ insert_key account_cmp keys row.contract.counterparties.seller → twice ≡ insert_key account_cmp once row.contract.counterparties.buyer
    → twice ≡ in_account_order (names ++ flat_map seller_and_buyer (take (i + 1) rows))
counterparties_more rows i row inside is names keys once twice so_far e e' =
    let seller : List Account = row.contract.counterparties.seller ∷ [] in
    let buyer : List Account = row.contract.counterparties.buyer ∷ [] in
    let front : List Account = names ++ flat_map seller_and_buyer (take i rows) in
    account_more (front ++ seller) row.contract.counterparties.buyer once twice (account_more front row.contract.counterparties.seller keys once so_far e) e'
    ∙ ap in_account_order (
    append_assoc front seller buyer
    ∙ append_assoc names (flat_map seller_and_buyer (take i rows)) (seller_and_buyer row)
    ∙ ap (λ more. names ++ more) (
    ap (λ r. flat_map seller_and_buyer (take i rows) ++ seller_and_buyer r) is
    ∙ sym (ap (flat_map seller_and_buyer) (take_more rows i row inside) ∙ flat_map-append seller_and_buyer (take i rows) (get_or rows i row ∷ []) ∙ ap (λ last. flat_map seller_and_buyer (take i rows) ++ last) (append-nil (seller_and_buyer (get_or rows i row))))))
