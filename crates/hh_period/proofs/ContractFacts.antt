-- Contract rows, one after another: their references keep their counterparties.
use Rattle.std.proofs.Common.{◌≡◌, ℕ, ◌+◌, ◌<◌, Bool, true, false, cond, not, ◌&&◌, List, [], ◌∷◌, ◌++◌, length, get_or, take, drop, map, Option, Some, None, option_map, refl, sym, ap, subst, ◌∙◌, Ordering}
use Rattle.std.specs.declared.cmp.Ordering.TheVariants.{Less, Equal, Greater}
use Rattle.std.specs.Ordering.{eq_by_cmp, is_eq}
use Rattle.std.specs.BTreeMap.{is_at}
use Rattle.std.specs.Map.{lookup}
use Rattle.std.specs.FinMap.{find}
use Rattle.std.specs.FinMap.Entries.{find-put}
use Rattle.std.proofs.lemmas.List.{drop_more, map-append, take-append-drop, take_more}
use Rattle.hh_tables.proofs.TableLaws.{insert_entry-put, lookup-find}
use Rattle.hh_names.specs.declared.account.Account.{Account}
use Rattle.hh_names.specs.declared.fault.Fault.{Fault}
use Rattle.hh_names.specs.declared.fault.Refusal.{Refusal}
use Rattle.hh_names.specs.declared.fault.Refusal.TheVariants.{ReferenceMoved, SameAccount}
use Rattle.hh_names.specs.Accounts.{account_cmp, bytes_cmp, is_same_account}
use Rattle.hh_names.specs.CounterpartyRule.{are_same_counterparties, counterparty_refusals, is_moved}
use Rattle.hh_names.specs.Faults.{first_met, row_fault, ByRefusal}
use Rattle.hh_names.proofs.AccountLaws.{account_total, bytes_total, exact_accounts}
use Rattle.std.proofs.lemmas.Cmp.{tied_itself}
use Rattle.std.proofs.lemmas.Map.Lookups.{exact_bytes}
use Rattle.hh_names.specs.declared.values.Contract.{Contract}
use Rattle.hh_names.specs.declared.values.Counterparties.{Counterparties}
use Rattle.hh_texts.specs.declared.period_contracts.PeriodContractRow.{PeriodContractRow}
use Rattle.hh_period.specs.Rows.{counterparties_entry, first_refused, refusal_among, refused_or}
use Rattle.std.specs.BTreeMap.{insert_entry}

pub equal : (o : Ordering) → is_eq o ≡ true → o ≡ Equal
equal Equal e = refl
equal Less e = cc e
equal Greater e = cc e

unfoldable or_else : {A : Type 0} → Option A → Option A → Option A
or_else None other = other
or_else (Some x) other = Some x

-- what is found under a key in two lists is what is found in the first, or otherwise in the second
find-append : {K V : Type 0} (R : K → K → Ordering) (q : K) (es more : List (K × V)) → find R q (es ++ more) ≡ or_else (find R q es) (find R q more)
unfolding or_else
find-append R q [] more = refl
find-append R q (x ∷ es) more = go (find-append R q es more) (eq_by_cmp R q x.0)
  where
    go : find R q (es ++ more) ≡ or_else (find R q es) (find R q more)
        → (b : Bool) → cond b (Some x.1) (find R q (es ++ more)) ≡ or_else (cond b (Some x.1) (find R q es)) (find R q more)
    go same true = refl
    go same false = same

-- why counterparties are refused, given those that are known
abbrev pub beside : Option Counterparties → Counterparties → Option Refusal
beside known own = first_met (counterparty_refusals known own)

-- each reference has the counterparties of its first row
abbrev pub KeepsCounterparties : List PeriodContractRow → List (List ℕ × Contract) → Type 0
KeepsCounterparties before entries = (q : List ℕ) → find bytes_cmp q (map counterparties_entry before) ≡ option_map (λ c. c.counterparties) (find bytes_cmp q entries)

-- what the table has for a row's reference is what the rows before the row say
pub known_counterparties : (before : List PeriodContractRow) (entries : List (List ℕ × Contract)) → KeepsCounterparties before entries
    → (row : PeriodContractRow) (replaced : Option Contract) → replaced ≡ lookup (is_at (bytes_cmp row.reference)) entries
    → (known : Option Counterparties) → known ≡ option_map (λ c. c.counterparties) replaced
    → (answer : Option Refusal) → answer ≡ beside known row.contract.counterparties
    → answer ≡ refusal_among before row
known_counterparties before entries kept row replaced found known is answer e =
    e ∙ ap (λ o. beside o row.contract.counterparties) (is ∙ ap (option_map (λ c. c.counterparties)) (found ∙ lookup-find bytes_cmp row.reference entries) ∙ sym (kept row.reference))

same_account : (a : Account) → is_same_account a a ≡ true
same_account a = ap is_eq (tied_itself account_total a)

-- counterparties are not refused because of themselves
own_counterparties : (o : Option Counterparties) (own : Counterparties) → beside (or_else o (Some own)) own ≡ beside o own
unfolding or_else
own_counterparties (Some first) own = refl
own_counterparties None own = ap (λ b. cond (is_same_account own.seller own.buyer) (Some SameAccount) (cond (not b) (Some ReferenceMoved) None)) same
  where
    same : are_same_counterparties own own ≡ true
    same = rw (same_account own.seller, same_account own.buyer) refl

-- so a row is judged the same among all rows as among those before it
judged_before : (before later : List PeriodContractRow) (row : PeriodContractRow)
    → refusal_among (before ++ row ∷ later) row ≡ refusal_among before row
judged_before before later row =
    let own : Counterparties = row.contract.counterparties in
    ap (λ es. beside (find bytes_cmp row.reference es) own) (map-append counterparties_entry before (row ∷ later))
    ∙ ap (λ o. beside o own) (find-append bytes_cmp row.reference (map counterparties_entry before) (map counterparties_entry (row ∷ later)) ∙ ap (or_else (find bytes_cmp row.reference (map counterparties_entry before))) here)
    ∙ own_counterparties (find bytes_cmp row.reference (map counterparties_entry before)) own
  where
    here : find bytes_cmp row.reference (map counterparties_entry (row ∷ later)) ≡ Some row.contract.counterparties
    here = ap (λ o. cond (is_eq o) (Some row.contract.counterparties) (find bytes_cmp row.reference (map counterparties_entry later))) (tied_itself bytes_total row.reference)

rest_is : (rows : List PeriodContractRow) (i : ℕ) (row : PeriodContractRow) → i < length rows → row ≡ get_or rows i row → drop i rows ≡ row ∷ drop (i + 1) rows
rest_is rows i row inside is = drop_more rows i row inside ∙ ap (λ r. r ∷ drop (i + 1) rows) (sym is)

-- how a row is judged among those before it is how it is judged among all
pub judged : (rows : List PeriodContractRow) (i : ℕ) (row : PeriodContractRow) → i < length rows → row ≡ get_or rows i row
    → (answer : Option Refusal) → answer ≡ refusal_among (take i rows) row → answer ≡ refusal_among rows row
judged rows i row inside is answer e =
    e ∙ sym (judged_before (take i rows) (drop (i + 1) rows) row)
    ∙ ap (λ all. refusal_among all row) (ap (λ rest. take i rows ++ rest) (sym (rest_is rows i row inside is)) ∙ take-append-drop i rows)

-- counterparties are not refused for memory
pub not_memory : (known : Option Counterparties) (own : Counterparties) (refusal : Refusal) (P Q : Type 0) → beside known own ≡ Some refusal → Q → ByRefusal refusal P Q
not_memory known own refusal P Q e q = go (is_same_account own.seller own.buyer) (is_moved known own) e
  where
    go : (t m : Bool) → cond t (Some SameAccount) (cond m (Some ReferenceMoved) None) ≡ Some refusal → ByRefusal refusal P Q
    go true m h = let same : SameAccount ≡ refusal = cc h in subst (λ r. ByRefusal r P Q) same q
    go false true h = let moved : ReferenceMoved ≡ refusal = cc h in subst (λ r. ByRefusal r P Q) moved q
    go false false h = cc h

module _ (refusal_of : PeriodContractRow → Option Refusal) (rows : List PeriodContractRow) (i : ℕ) (row : PeriodContractRow) (inside : i < length rows) (is : row ≡ get_or rows i row) where
  next_row : first_refused refusal_of (i + 1) (drop i rows) ≡ refused_or (i + 1) (refusal_of row) (first_refused refusal_of (i + 1 + 1) (drop (i + 1) rows))
  next_row = ap (first_refused refusal_of (i + 1)) (rest_is rows i row inside is)

  -- if a row is refused, that decides
  pub refused_here : (all : Option Fault) → first_refused refusal_of (i + 1) (drop i rows) ≡ all
      → (refusal : Refusal) → refusal_of row ≡ Some refusal → all ≡ Some (row_fault refusal (i + 1))
  refused_here all so_far refusal some =
      sym so_far ∙ next_row ∙ ap (λ o. refused_or (i + 1) o (first_refused refusal_of (i + 1 + 1) (drop (i + 1) rows))) some

  -- if a row is accepted, the rest decides
  pub accepted_more : (all : Option Fault) → first_refused refusal_of (i + 1) (drop i rows) ≡ all
      → refusal_of row ≡ None → first_refused refusal_of (i + 1 + 1) (drop (i + 1) rows) ≡ all
  accepted_more all so_far none =
      sym (next_row ∙ ap (λ o. refused_or (i + 1) o (first_refused refusal_of (i + 1 + 1) (drop (i + 1) rows))) none) ∙ so_far

-- counterparties that are accepted are those that are known
same_counterparties : (first own : Counterparties) → beside (Some first) own ≡ None → first ≡ own
same_counterparties first own none = go (is_same_account own.seller own.buyer) (is_same_account first.seller own.seller) (is_same_account first.buyer own.buyer) refl refl none
  where
    go : (t s b : Bool) → is_same_account first.seller own.seller ≡ s → is_same_account first.buyer own.buyer ≡ b
        → cond t (Some SameAccount) (cond (not (s && b)) (Some ReferenceMoved) None) ≡ None → first ≡ own
    go false true true e f h = λ i. record {
      seller = exact_accounts first.seller own.seller (equal (account_cmp first.seller own.seller) e) i;
      buyer = exact_accounts first.buyer own.buyer (equal (account_cmp first.buyer own.buyer) f) i;
    }
    go false true false e f h = cc h
    go false false b e f h = cc h
    go true s b e f h = cc h

-- so the references keep their counterparties
pub kept_more : (rows : List PeriodContractRow) (i : ℕ) (row : PeriodContractRow) → i < length rows → row ≡ get_or rows i row
    → (entries new : List (List ℕ × Contract)) → KeepsCounterparties (take i rows) entries
    → refusal_among (take i rows) row ≡ None
    → new ≡ insert_entry bytes_cmp entries row.reference row.contract
    → KeepsCounterparties (take (i + 1) rows) new
unfolding or_else
kept_more rows i row inside is entries new kept none e q =
    ap (find bytes_cmp q) (ap (map counterparties_entry) (take_more rows i row inside) ∙ map-append counterparties_entry (take i rows) (get_or rows i row ∷ []) ∙ ap (λ r. map counterparties_entry (take i rows) ++ counterparties_entry r ∷ []) (sym is))
    ∙ find-append bytes_cmp q (map counterparties_entry (take i rows)) (counterparties_entry row ∷ [])
    ∙ go (eq_by_cmp bytes_cmp q row.reference) (find bytes_cmp q (map counterparties_entry (take i rows))) refl refl
    ∙ sym (ap (λ es. option_map (λ c. c.counterparties) (find bytes_cmp q es)) (e ∙ insert_entry-put bytes_cmp row.reference row.contract entries)
    ∙ ap (option_map (λ c. c.counterparties)) (find-put bytes_cmp bytes_total q row.reference row.contract entries))
  where
    go : (t : Bool) (o : Option Counterparties) → eq_by_cmp bytes_cmp q row.reference ≡ t → find bytes_cmp q (map counterparties_entry (take i rows)) ≡ o
        → or_else o (cond t (Some row.contract.counterparties) None) ≡ option_map (λ c. c.counterparties) (cond t (Some row.contract) (find bytes_cmp q entries))
    go true None same found = refl
    go true (Some first) same found =
        let key : q ≡ row.reference = exact_bytes q row.reference (equal (bytes_cmp q row.reference) same) in
        ap Some (same_counterparties first row.contract.counterparties (sym (ap (λ o. beside o row.contract.counterparties) (ap (λ k. find bytes_cmp k (map counterparties_entry (take i rows))) (sym key) ∙ found)) ∙ none))
    go false None same found = sym found ∙ kept q
    go false (Some first) same found = sym found ∙ kept q
