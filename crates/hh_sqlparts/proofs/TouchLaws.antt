-- The Settlement Periods that were touched, as the keys of rows without other columns.
use Rattle.std.proofs.Common.{◌≡◌, ◌==◌, ℕ, List, [], ◌∷◌, map, filter, cond, Bool, true, false, is_eq, Ok, Err, Result, IfOk, Vec, refl, ap, ◌∙◌}
use Rattle.std.specs.Cmp.{unsigned_tied}
use Rattle.std.specs.Ordering.{nat_cmp}
use Rattle.std.specs.declared.alloc.Global.{Global}
use Rattle.hh_rows.specs.declared.settlement_period.SettlementPeriod.{SettlementPeriod}
use Rattle.hh_sqlrows.specs.no_columns.NoColumns.{NoColumns}

-- the keys of the entries whose keys pass a test are the keys that pass it
keys_kept : {K V : Type 0} (p : K → Bool) (es : List (K × V)) → map (λ e. e.0) (filter (λ e. p e.0) es) ≡ filter p (map (λ e. e.0) es)
keys_kept p [] = refl
keys_kept p (e ∷ es) = go (p e.0) (keys_kept p es)
  where
    go : (b : Bool) → map (λ e. e.0) (filter (λ e. p e.0) es) ≡ filter p (map (λ e. e.0) es)
        → map (λ e. e.0) (cond b (e ∷ filter (λ e. p e.0) es) (filter (λ e. p e.0) es)) ≡ cond b (e.0 ∷ filter p (map (λ e. e.0) es)) (filter p (map (λ e. e.0) es))
    go true more = ap (λ ks. e.0 ∷ ks) more
    go false more = more

-- the periods of the rows of a date are those of the date
pub periods_listed : {E : Type 0} (date : ℕ) (rows found : List (SettlementPeriod × NoColumns)) (r : Result (Vec SettlementPeriod Global) E)
    → found ≡ filter (λ e. is_eq (nat_cmp e.0.date date)) rows → IfOk r (λ periods. periods.items ≡ map (λ e. e.0) found)
    → IfOk r (λ periods. periods.items ≡ filter (λ at. at.date == date) (map (λ e. e.0) rows))
periods_listed date rows found (Ok periods) is h =
    h ∙ ap (map (λ (e : SettlementPeriod × NoColumns). e.0)) (is ∙ (λ i. filter (λ e. unsigned_tied e.0.date date i) rows)) ∙ keys_kept (λ at. at.date == date) rows
periods_listed date rows found (Err e) is h = tt
