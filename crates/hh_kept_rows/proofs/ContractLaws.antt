-- The contracts in force of an account on a date are those found by going through the table, ordered by Settlement Period.
use Rattle.std.proofs.Common.{◌≡◌, ℕ, ◌+◌, ◌<◌, List, [], ◌∷◌, ◌++◌, map, length, take, get_or, refl, sym, ap, subst, ◌∙◌, Bool, true, false, cond, Option, Some, None, Ordering}
use Rattle.std.specs.Prelude.{ℤ, ◌&&◌, ◌==◌, filter, filter_map, option_map, option_to_list}
use Rattle.std.specs.Cmp.{unsigned_tied}
use Rattle.std.specs.FinMap.{find}
use Rattle.std.specs.List.{cons_option, flat_map}
use Rattle.std.specs.Ordering.{eq_by_cmp, is_eq, nat_cmp, ordering_then}
use Rattle.std.specs.declared.cmp.Ordering.TheVariants.{Less, Equal, Greater}
use Rattle.std.proofs.lemmas.List.{take_more}
use Rattle.std.proofs.lemmas.List.Elements.{filter-append, filter_map-append}
use Rattle.hh_names.specs.declared.account.Account.{Account}
use Rattle.hh_names.specs.declared.values.Counterparties.{Counterparties}
use Rattle.hh_names.specs.Accounts.{bytes_cmp}
use Rattle.hh_rows.specs.Keys.{settlement_period_cmp}
use Rattle.hh_rows.specs.declared.keys.ContractKey.{ContractKey}
use Rattle.hh_rows.specs.declared.rows.ContractRow.{ContractRow}
use Rattle.hh_rows.specs.declared.settlement_period.SettlementPeriod.{SettlementPeriod}
use Rattle.hh_rules.specs.History.{Registered}
use Rattle.hh_states.specs.DaySettlement.{from_one_to}
use Rattle.hh_states.specs.PeriodSettlement.{row_in_force, rows_in_force}
use Rattle.hh_states.specs.Reads.{contracts_of, names_account}
use Rattle.hh_kept_rows.specs.steps.KeptContracts.{contract_on, is_in_period, names, row_that_names}

both_equal : (o p : Ordering) → is_eq (ordering_then o p) ≡ (is_eq o && is_eq p)
both_equal Less p = refl
both_equal Equal p = refl
both_equal Greater p = refl

-- two Settlement Periods are the same if their dates and their numbers are
pub same_period : (a b : SettlementPeriod) → eq_by_cmp settlement_period_cmp a b ≡ ((a.date == b.date) && (a.period == b.period))
same_period a b =
    both_equal (nat_cmp a.date b.date) (nat_cmp a.period b.period)
    ∙ (λ i. unsigned_tied a.date b.date i && unsigned_tied a.period b.period i)

module _ (a : Account) (date : ℕ) (tables : Registered) where
  abbrev here : ℕ → SettlementPeriod
  here p = record { date = date; period = p }

  abbrev is_here : ℕ → ContractKey × ℤ → Bool
  is_here p e = eq_by_cmp settlement_period_cmp e.0.at (here p)

  abbrev row_of : ContractKey × ℤ → Counterparties → ContractRow
  row_of e c = record { key = e.0; contract = record { counterparties = c; volume = e.1 } }

  abbrev found : List (ContractKey × ℤ) → List ContractRow
  found es = filter_map (contract_on tables a date) es

  -- the rows of a Settlement Period out of those that are found
  at_period : (p : ℕ) (es : List (ContractKey × ℤ))
      → filter (is_in_period p) (found es) ≡ filter (names_account a) (filter_map (row_in_force tables) (filter (is_here p) es))
  at_period p [] = refl
  at_period p (e ∷ es) =
      let others : List (ContractKey × ℤ) = filter (is_here p) es in
      let rest : filter (is_in_period p) (found es) ≡ filter (names_account a) (filter_map (row_in_force tables) others) = at_period p es in
      (elim (e.0.at.date == date) as (λ d. filter (is_in_period p) (cons_option (cond d (row_that_names a e (find bytes_cmp e.0.reference tables.references)) None) (found es))
      ≡ filter (names_account a) (filter_map (row_in_force tables) (cond (d && (e.0.at.period == p)) (e ∷ others) others))) [
        | true ↦ elim (e.0.at.period == p) as (λ q. (e.0.at.period == p) ≡ q → filter (is_in_period p) (cons_option (row_that_names a e (find bytes_cmp e.0.reference tables.references)) (found es))
            ≡ filter (names_account a) (filter_map (row_in_force tables) (cond q (e ∷ others) others))) [
              | true ↦ λ now. elim (find bytes_cmp e.0.reference tables.references) as (λ o. filter (is_in_period p) (cons_option (row_that_names a e o) (found es))
                  ≡ filter (names_account a) (cons_option (option_map (row_of e) o) (filter_map (row_in_force tables) others))) [
                    | None ↦ rest
                    | Some c ↦ elim (names a c) as (λ n. filter (is_in_period p) (cons_option (cond n (Some (row_of e c)) None) (found es))
                        ≡ cond n (row_of e c ∷ filter (names_account a) (filter_map (row_in_force tables) others)) (filter (names_account a) (filter_map (row_in_force tables) others))) [
                          | true ↦ ap (λ b. cond b (row_of e c ∷ filter (is_in_period p) (found es)) (filter (is_in_period p) (found es))) now ∙ ap (λ l. row_of e c ∷ l) rest
                          | false ↦ rest
                        ]
                  ]
              | false ↦ λ not_now. elim (find bytes_cmp e.0.reference tables.references) as (λ o. filter (is_in_period p) (cons_option (row_that_names a e o) (found es))
                  ≡ filter (names_account a) (filter_map (row_in_force tables) others)) [
                    | None ↦ rest
                    | Some c ↦ elim (names a c) as (λ n. filter (is_in_period p) (cons_option (cond n (Some (row_of e c)) None) (found es))
                        ≡ filter (names_account a) (filter_map (row_in_force tables) others)) [
                          | true ↦ ap (λ b. cond b (row_of e c ∷ filter (is_in_period p) (found es)) (filter (is_in_period p) (found es))) not_now ∙ rest
                          | false ↦ rest
                        ]
                  ]
            ] refl
        | false ↦ rest
      ])
      ∙ ap (λ b. filter (names_account a) (filter_map (row_in_force tables) (cond b (e ∷ others) others))) (sym (same_period e.0.at (here p)))

  by_periods : (ps : List ℕ)
      → flat_map (λ p. filter (is_in_period p) (found tables.contracts)) ps ≡ filter (names_account a) (flat_map (rows_in_force tables) (map here ps))
  by_periods [] = refl
  by_periods (p ∷ ps) =
      (λ i. at_period p tables.contracts i ++ by_periods ps i)
      ∙ sym (filter-append (names_account a) (rows_in_force tables (here p)) (flat_map (rows_in_force tables) (map here ps)))

  -- the rows that are found, ordered by their Settlement Periods, are the contracts in force of the account on the date
  pub contracts_by_period : flat_map (λ p. filter (is_in_period p) (found tables.contracts)) (from_one_to 50) ≡ contracts_of a date tables
  contracts_by_period = by_periods (from_one_to 50)

-- one more entry, and what is found for it
pub found_more : {X Y : Type 0} (f : X → Option Y) (es lent : List X) → lent ≡ es → (i : ℕ) (e : X) → i < length lent → e ≡ get_or lent i e → (o : Option Y) → o ≡ f e → (old new : List Y)
    → old ≡ filter_map f (take i es) → new ≡ old ++ option_to_list o → new ≡ filter_map f (take (i + 1) es)
found_more f es lent same i e inside is o found old new so_far more =
    let at : e ≡ get_or es i e = subst (λ l. e ≡ get_or l i e) same is in
    more
    ∙ (λ j. so_far j ++ option_to_list (found j))
    ∙ ap (λ l. filter_map f (take i es) ++ l) (single (f e))
    ∙ sym (filter_map-append f (take i es) (e ∷ []))
    ∙ ap (filter_map f) (ap (λ x. take i es ++ x ∷ []) at ∙ sym (take_more es i e (subst (λ l. i < length l) same inside)))
  where
    single : {Z : Type 0} (o : Option Z) → option_to_list o ≡ cons_option o []
    single None = refl
    single (Some z) = refl
