-- The entries of a run, period by period.
use Rattle.std.proofs.Common.{◌≡◌, ℕ, ◌+◌, ◌<◌, List, [], ◌∷◌, ◌++◌, map, length, take, get_or, sym, ap, ◌∙◌}
use Rattle.std.specs.Prelude.{ℤ}
use Rattle.std.specs.List.{flat_map}
use Rattle.std.proofs.lemmas.List.{append-nil, take_more}
use Rattle.std.proofs.lemmas.Grind.{flat_map-append}
use Rattle.hh_rows.specs.declared.settlement_period.SettlementPeriod.{SettlementPeriod}
use Rattle.hh_calc.specs.declared.result.AccountRow.{AccountRow}
use Rattle.hh_calc.specs.declared.result.CreditRow.{CreditRow}
use Rattle.hh_calc.specs.Terms.{Settled}
use Rattle.hh_runs.specs.declared.run_key.RunKey.{RunKey}
use Rattle.hh_states.specs.declared.run_keys.CreditKey.{CreditKey}
use Rattle.hh_states.specs.declared.run_keys.ResultKey.{ResultKey}
use Rattle.hh_states.specs.Content.{credit_entries, credit_key, result_entries, result_key}

-- what one more element of a list gives comes after what the elements before it give
flat_map_next : {X Y : Type 0} (f : X → List Y) (xs : List X) (i : ℕ) (x : X) → i < length xs → x ≡ get_or xs i x → flat_map f (take (i + 1) xs) ≡ flat_map f (take i xs) ++ f x
flat_map_next f xs i x inside is =
    ap (flat_map f) (take_more xs i x inside ∙ ap (λ y. take i xs ++ y ∷ []) (sym is))
    ∙ flat_map-append f (take i xs) (x ∷ [])
    ∙ ap (λ ys. flat_map f (take i xs) ++ ys) (append-nil (f x))

module _ (run : RunKey) (day : List (SettlementPeriod × Settled)) (i : ℕ) (q : SettlementPeriod × Settled) (inside : i < length day) (is : q ≡ get_or day i q) where
  -- the rows of one more Settlement Period, under their keys
  pub results_next : (at : SettlementPeriod) (rows : List AccountRow) (so_far now : List (ResultKey × AccountRow)) → at ≡ q.0 → rows ≡ q.1.accounts
      → so_far ≡ result_entries run (take i day) → now ≡ so_far ++ map (λ r. (result_key run at r, r)) rows → now ≡ result_entries run (take (i + 1) day)
  results_next at rows so_far now at_is rows_are before pushed =
      pushed
      ∙ (λ j. before j ++ map (λ r. (result_key run (at_is j) r, r)) (rows_are j))
      ∙ sym (flat_map_next {Y = ResultKey × AccountRow} (λ p. map (λ r. (result_key run p.0 r, r)) p.1.accounts) day i q inside is)

  -- the credits of one more Settlement Period, under their keys
  pub credits_next : (at : SettlementPeriod) (credits : List CreditRow) (so_far now : List (CreditKey × ℤ)) → at ≡ q.0 → credits ≡ q.1.credits
      → so_far ≡ credit_entries run (take i day) → now ≡ so_far ++ map (λ c. (credit_key run at c, c.credited)) credits → now ≡ credit_entries run (take (i + 1) day)
  credits_next at credits so_far now at_is credits_are before pushed =
      pushed
      ∙ (λ j. before j ++ map (λ c. (credit_key run (at_is j) c, c.credited)) (credits_are j))
      ∙ sym (flat_map_next {Y = CreditKey × ℤ} (λ p. map (λ c. (credit_key run p.0 c, c.credited)) p.1.credits) day i q inside is)
