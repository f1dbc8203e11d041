-- The Settlement Periods of a day, settled one after another.
use Rattle.std.proofs.Common.{inl, inr, ◌≡◌, ℕ, zero, suc, ◌+◌, ◌<◌, List, [], ◌∷◌, ◌++◌, length, take, get_or, refl, sym, ap, subst, ◌∙◌, Bool, true, false, cond, Some, None, arith}
use Rattle.std.specs.Prelude.{All, IsFalse, IsTrue, Option, find, min, not}
use Rattle.std.specs.List.{AllZip}
use Rattle.std.specs.Option.{option_or}
use Rattle.std.proofs.Math.Nat.{min-eq_left}
use Rattle.std.proofs.lemmas.List.{map-append, take_all, take_more}
use Rattle.std.proofs.lemmas.List.Folds.{find-append}
use Rattle.std.proofs.lemmas.Slice.Zip.{AllZip-long}
use Rattle.hh_rows.specs.declared.settlement_period.SettlementPeriod.{SettlementPeriod}
use Rattle.hh_rules.specs.History.{Registered}
use Rattle.hh_calc.specs.Limits.{is_within_limits}
use Rattle.hh_calc.specs.steps.Limits.{kept_where}
use Rattle.hh_calc.specs.Formulas.{netted}
use Rattle.hh_calc.specs.Ready.{AreUnitsDistinct, IsReady}
use Rattle.hh_calc.specs.Settled.{IsSettled}
use Rattle.hh_calc.specs.Terms.{PeriodDataView, Settled}
use Rattle.hh_states.specs.DaySettlement.{settled_at, settled_day, too_large}
use Rattle.hh_states.specs.Nets.{NetsSettleAlike}
use Rattle.hh_states.specs.PeriodSettlement.{settled, terms_at}
use Rattle.hh_states.specs.Sums.{CreditsEachOnce}
use Rattle.hh_states.specs.Readiness.{ArePeriodsConsistent, AreTermsConsistent}
use Rattle.hh_store.specs.DayReads.{ArePeriodsOf, IsPeriodOf}
use Rattle.hh_store.specs.declared.day_data.PeriodState.{PeriodState}
use Rattle.hh_store.specs.declared.day_data.PeriodState.TheVariants.{Changed}
use Rattle.hh_day.specs.NewRuns.{SettledInOneWay}
use Rattle.hh_day.specs.steps.PeriodSteps.{SettlesPeriod}

-- The first n of these Settlement Periods have these settlements, and none of them passes a limit. This holds for all that is
-- registered and in force from which the states were read, if what each period is settled from fits together.
abbrev pub SettlesFirst : ℕ → List SettlementPeriod → List PeriodState → List (SettlementPeriod × Settled) → Type 0
SettlesFirst n periods states day =
    (tables : Registered) → ArePeriodsOf tables periods states → ArePeriodsConsistent tables periods
    → (too_large tables (take n periods) ≡ None) × (day ≡ settled_day tables (take n periods))

-- a search that goes on with the next element of a list
module _ {X : Type 0} (test : X → Bool) where
  -- if no element so far passes, and the next doesn't, none passes up to it
  not_yet : (xs : List X) (i : ℕ) (x : X) → i < length xs → get_or xs i x ≡ x → find test (take i xs) ≡ None → test x ≡ false → find test (take (i + 1) xs) ≡ None
  not_yet xs i x inside is so_far fails =
      ap (find test) (take_more xs i x inside ∙ ap (λ y. take i xs ++ y ∷ []) is)
      ∙ find-append test (take i xs) (x ∷ [])
      ∙ (λ j. option_or (so_far j) (cond (fails j) (Some x) None))

  -- if no element so far passes, but the next does, the next is found
  now_found : (xs : List X) (i : ℕ) (x : X) → i < length xs → get_or xs i x ≡ x → find test (take i xs) ≡ None → test x ≡ true → find test xs ≡ Some x
  now_found [] i x inside is so_far passes = absurd (nothing_below i inside)
    where
      nothing_below : (i : ℕ) → i < 0 → ⊥
      nothing_below i h = omega (arith, h)
  now_found (y ∷ xs) zero x inside is so_far passes = ap (λ b. cond b (Some y) (find test xs)) (ap test is ∙ passes) ∙ ap Some is
  now_found (y ∷ xs) (suc i) x inside is so_far passes =
      elim (test y) as (λ b. test y ≡ b → cond b (Some y) (find test (take i xs)) ≡ None → cond b (Some y) (find test xs) ≡ Some x) [
        | true ↦ λ t found. absurd (some_is_not_none y found)
        | false ↦ λ t rest. now_found xs i x (omega (arith, inside)) is rest passes
      ] refl so_far
    where
      some_is_not_none : (y : X) → Some y ≡ None → ⊥
      some_is_not_none y e = cc

-- what a period is settled from fits together with net volumes too, if it may be settled with them
netted_fits : (terms p : PeriodDataView) → p ≡ netted terms → IsReady p → AreTermsConsistent terms → AreTermsConsistent p
netted_fits terms p is ready consistent = record {
  ready = ready;
  units = subst (λ (q : PeriodDataView). AreUnitsDistinct q) (sym is) consistent.units;
  credits = subst (λ (q : PeriodDataView). All CreditsEachOnce q.units) (sym is) consistent.credits;
}

-- a period that is settled within the limits has this outcome, if it has only one settlement, and the same one with net volumes
pub settles_within : SettledInOneWay → NetsSettleAlike → (at : SettlementPeriod) (p : PeriodDataView) (s : Settled) → IsReady p → IsTrue (is_within_limits p) → IsSettled p s
    → SettlesPeriod at (Changed p) (Some (at, s))
settles_within one_way alike at p s ready within is tables (inl is_of) consistent =
    ap (λ x. Some (at, x)) (one_way (terms_at tables at) s consistent (subst (λ q. IsSettled q s) is_of is))
    ∙ sym (ap (λ b. kept_where b (settled_at tables at)) (sym (ap is_within_limits is_of) ∙ within))
settles_within one_way alike at p s ready within is tables (inr netted) consistent =
    let terms : PeriodDataView = terms_at tables at in
    let both = alike terms consistent.ready.0 in
    ap (λ x. Some (at, x)) (one_way p s (netted_fits terms p netted.same ready consistent) is ∙ ap settled netted.same ∙ both.0)
    ∙ sym (ap (λ b. kept_where b (settled_at tables at)) (sym (ap is_within_limits netted.same ∙ both.1) ∙ within))

-- a period that passes a limit has no settlement
pub settles_beyond : NetsSettleAlike → (at : SettlementPeriod) (p : PeriodDataView) → IsFalse (is_within_limits p) → SettlesPeriod at (Changed p) None
settles_beyond alike at p beyond tables (inl is_of) consistent =
    sym (ap (λ b. kept_where b (settled_at tables at)) (sym (ap is_within_limits is_of) ∙ beyond))
settles_beyond alike at p beyond tables (inr netted) consistent =
    sym (ap (λ b. kept_where b (settled_at tables at)) (sym (ap is_within_limits netted.same ∙ (alike (terms_at tables at) consistent.ready.0).1) ∙ beyond))

-- a period that has a settlement is within the limits, and the settlement is its own
kept : (b : Bool) (x y : SettlementPeriod × Settled) → Some x ≡ kept_where b y → (b ≡ true) × (x ≡ y)
kept true x y e = (refl, cc)
kept false x y e = absurd (no_some e)
  where
    no_some : Some x ≡ None → ⊥
    no_some h = cc

-- a period that has no settlement passes a limit
not_kept : (b : Bool) (y : SettlementPeriod × Settled) → None ≡ kept_where b y → b ≡ false
not_kept false y e = refl
not_kept true y e = absurd (no_none e)
  where
    no_none : None ≡ Some y → ⊥
    no_none h = cc

-- if the elements of two lists are related one by one, those at each place are
at_place : {X Y : Type 0} (R : X → Y → Type 0) (xs : List X) (ys : List Y) (n : ℕ) (x : X) (y : Y) → n < length xs → AllZip R xs ys → get_or xs n x ≡ x → get_or ys n y ≡ y → R x y
at_place R [] ys n x y inside all is_x is_y = absurd (nothing_below n inside)
  where
    nothing_below : (i : ℕ) → i < 0 → ⊥
    nothing_below i h = omega (arith, h)
at_place R (z ∷ xs) [] n x y inside all is_x is_y = absurd all
at_place R (z ∷ xs) (w ∷ ys) zero x y inside all is_x is_y = subst (R x) is_y (subst (λ v. R v w) is_x all.0)
at_place R (z ∷ xs) (w ∷ ys) (suc n) x y inside all is_x is_y = at_place R xs ys n x y (omega (arith, inside)) all.1 is_x is_y

-- all periods are settled, if as many are settled as both lists have
pub settles_all : (periods : List SettlementPeriod) (states : List PeriodState) (n : ℕ) (day : List (SettlementPeriod × Settled)) → n ≡ min (length periods) (length states) → SettlesFirst n periods states day
    → (tables : Registered) → ArePeriodsOf tables periods states → ArePeriodsConsistent tables periods → (too_large tables periods ≡ None) × (day ≡ settled_day tables periods)
settles_all periods states n day counted so_far tables are consistent =
    let long : length states ≡ length periods = AllZip-long (IsPeriodOf tables) periods states are in
    let each : n ≡ length periods = counted ∙ min-eq_left (omega arith) in
    subst (λ ps. (too_large tables ps ≡ None) × (day ≡ settled_day tables ps)) (take_all n periods (omega arith)) (so_far tables are consistent)

-- the Settlement Period at a place, with what it is settled from
module _ (periods : List SettlementPeriod) (states : List PeriodState) (n : ℕ) (at : SettlementPeriod) (p : PeriodState) (inside : n < length periods)
    (is_at : get_or periods n at ≡ at) (is_p : get_or states n p ≡ p) (day : List (SettlementPeriod × Settled)) (so_far : SettlesFirst n periods states day) where
  -- its outcome is its settlement, if that is within the limits
  comes_to : (outcome : Option (SettlementPeriod × Settled)) → SettlesPeriod at p outcome → (tables : Registered) → ArePeriodsOf tables periods states → ArePeriodsConsistent tables periods
      → outcome ≡ kept_where (is_within_limits (terms_at tables at)) (settled_at tables at)
  comes_to outcome settles tables are consistent =
      settles tables (at_place (IsPeriodOf tables) periods states n at p inside are is_at is_p) (subst (λ q. AreTermsConsistent (terms_at tables q)) is_at (consistent n at inside))

  -- if it has a settlement, one more period is settled
  pub settles_next : (one : SettlementPeriod × Settled) → SettlesPeriod at p (Some one) → SettlesFirst (n + 1) periods states (day ++ one ∷ [])
  settles_next one settles tables are consistent =
      let is : (is_within_limits (terms_at tables at) ≡ true) × (one ≡ settled_at tables at) =
      kept (is_within_limits (terms_at tables at)) one (settled_at tables at) (comes_to (Some one) settles tables are consistent) in
      let before = so_far tables are consistent in (
        not_yet (λ q. not (is_within_limits (terms_at tables q))) periods n at inside is_at before.0 (ap not is.0),
        (λ i. before.1 i ++ is.1 i ∷ [])
            ∙ sym (map-append (settled_at tables) (take n periods) (at ∷ []))
            ∙ ap (settled_day tables) (sym (take_more periods n at inside ∙ ap (λ q. take n periods ++ q ∷ []) is_at)),
      )

  -- if it has none, it is the first that passes a limit
  pub passes_first : SettlesPeriod at p None → (tables : Registered) → ArePeriodsOf tables periods states → ArePeriodsConsistent tables periods → too_large tables periods ≡ Some at
  passes_first settles tables are consistent =
      now_found (λ q. not (is_within_limits (terms_at tables q))) periods n at inside is_at (so_far tables are consistent).0
      (ap not (not_kept (is_within_limits (terms_at tables at)) (settled_at tables at) (comes_to None settles tables are consistent)))
