-- The sums of what accounts pay by rows.
use Rattle.std.proofs.Common.{◌≡◌, ℕ, ◌+◌, ◌<◌, List, [], ◌∷◌, ◌++◌, map, length, take, get_or, refl, sym, ap, ◌∙◌, true, false, cond, Some}
use Rattle.std.specs.Prelude.{ℤ, pos, ◌+ℤ◌, unwrap_or}
use Rattle.std.specs.FinMap.{find, put}
use Rattle.std.specs.FinMap.Entries.{find-put}
use Rattle.std.specs.Ordering.{eq_by_cmp}
use Rattle.std.proofs.Math.IntN.{+ℤ_idr}
use Rattle.std.proofs.lemmas.Cmp.{eq_by_cmp_equiv}
use Rattle.std.proofs.lemmas.List.{take_more}
use Rattle.std.proofs.lemmas.Map.Views.{tells_apart}
use Rattle.hh_num.specs.Totals.{total}
use Rattle.hh_num.proofs.TotalLaws.{total-append, total-map}
use Rattle.hh_names.specs.declared.account.Account.{Account}
use Rattle.hh_names.specs.Accounts.{account_cmp}
use Rattle.hh_names.proofs.AccountLaws.{account_total, exact_accounts}
use Rattle.hh_rows.specs.declared.settlement_period.SettlementPeriod.{SettlementPeriod}
use Rattle.hh_calc.specs.declared.result.AccountRow.{AccountRow}
use Rattle.hh_calc.specs.Settled.{moved_by_row, paid_by}
use Rattle.hh_calc.specs.Terms.{Settled}
use Rattle.hh_runs.specs.DayNets.{DayNets, day_net_of}
use Rattle.hh_runs.specs.declared.run_key.RunKey.{RunKey}
use Rattle.hh_states.specs.declared.run_keys.ResultKey.{ResultKey}
use Rattle.hh_states.specs.Content.{result_entries, result_key}
use Rattle.hh_states.specs.RunReads.{paid_in, rows_by_period}
use Rattle.hh_day.specs.steps.RunParts.{AddsRow, AreNetsOf}

-- putting the net of an account with what a row moves adds the row
pub adds_row : (nets : DayNets) (row : AccountRow) (net : ℤ) → net ≡ day_net_of nets row.account +ℤ paid_by row → AddsRow row nets (put account_cmp row.account net nets)
adds_row nets row net is a =
    ap (λ o. unwrap_or o (pos 0)) (find-put account_cmp account_total a row.account net nets)
    ∙ elim (eq_by_cmp account_cmp a row.account) as (λ t. eq_by_cmp account_cmp a row.account ≡ t → unwrap_or (cond t (Some net) (find account_cmp a nets)) (pos 0) ≡ day_net_of nets a +ℤ cond t (paid_by row) (pos 0)) [
      | true ↦ λ same. is ∙ ap (λ b. day_net_of nets b +ℤ paid_by row) (sym (tells_apart exact_accounts a row.account same))
      | false ↦ λ other. sym (+ℤ_idr (day_net_of nets a))
    ] refl
    ∙ ap (λ t. day_net_of nets a +ℤ cond t (paid_by row) (pos 0)) ((eq_by_cmp_equiv account_total).symm a row.account)

-- a sum over one more element of a list
pub total_next : {X : Type 0} (f : X → ℤ) (xs : List X) (i : ℕ) (x : X) → i < length xs → x ≡ get_or xs i x → total f (take (i + 1) xs) ≡ total f (take i xs) +ℤ f x
total_next f xs i x inside is =
    ap (total f) (take_more xs i x inside ∙ ap (λ y. take i xs ++ y ∷ []) (sym is))
    ∙ total-append f (take i xs) (x ∷ [])
    ∙ ap (λ z. total f (take i xs) +ℤ z) (+ℤ_idr (f x))

-- the nets after one more row
pub nets_next : {K : Type 0} (rows : List (K × AccountRow)) (i : ℕ) (e : K × AccountRow) (old new : DayNets) → i < length rows → e ≡ get_or rows i e
    → AreNetsOf (take i rows) old → AddsRow e.1 old new → AreNetsOf (take (i + 1) rows) new
nets_next rows i e old new inside is so_far adds a =
    adds a ∙ ap (λ z. z +ℤ moved_by_row a e.1) (so_far a) ∙ sym (total_next (λ x. moved_by_row a x.1) rows i e inside is)

-- what an account pays by the rows of settled periods, which is the same under either kind of key
pub paid_by_entries : (run : RunKey) (a : Account) (day : List (SettlementPeriod × Settled)) → total (λ e. moved_by_row a e.1) (result_entries run day) ≡ paid_in a (rows_by_period day)
paid_by_entries run a [] = refl
paid_by_entries run a (q ∷ day) =
    total-append (λ e. moved_by_row a e.1) (map (λ r. (result_key run q.0 r, r)) q.1.accounts) (result_entries run day)
    ∙ (λ i. (total-map (λ (e : ResultKey × AccountRow). moved_by_row a e.1) (λ r. (result_key run q.0 r, r)) q.1.accounts
    ∙ sym (total-map (λ (e : ℕ × AccountRow). moved_by_row a e.1) (λ r. (q.0.period, r)) q.1.accounts)) i +ℤ paid_by_entries run a day i)
    ∙ sym (total-append (λ e. moved_by_row a e.1) (map (λ r. (q.0.period, r)) q.1.accounts) (rows_by_period day))
