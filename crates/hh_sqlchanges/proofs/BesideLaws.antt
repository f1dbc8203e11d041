-- What writing positions and touched Settlement Periods makes of what is kept beside the content.
use Rattle.std.proofs.Common.{◌≡◌, ◌∙◌, List, [], ◌∷◌, ◌++◌, map, Bool, true, false, Result, OnOk, arith, refl, sym, ap, subst}
use Rattle.std.specs.Prelude.{◌||◌, ◌==◌, filter, filter_map, not, ℕ}
use Rattle.std.specs.FinMap.{find, put}
use Rattle.std.specs.Cmp.{IsTotalOrder, nat_cmp_total}
use Rattle.std.proofs.lemmas.Cmp.{on_total}
use Rattle.std.specs.FinMap.Entries.{by_order, find-put}
use Rattle.std.specs.Ordering.{eq_by_cmp}
use Rattle.std.specs.declared.cmp.Ordering.TheVariants.{Less, Equal, Greater}
use Rattle.std.proofs.lemmas.Result.{on_ok_weaker}
use Rattle.hh_tables.specs.Tables.{Table, put_all}
use Rattle.sqlite.specs.Effect.{Database}
use Rattle.hh_rows.specs.Keys.{settlement_period_cmp}
use Rattle.hh_rows.specs.declared.settlement_period.SettlementPeriod.{SettlementPeriod}
use Rattle.hh_rows.proofs.KeyLaws.{exact_settlement_periods}
use Rattle.hh_states.specs.Content.{Content}
use Rattle.hh_rules.specs.Positions.{position_key_cmp}
use Rattle.hh_rules.specs.declared.positions.Position.{Position}
use Rattle.hh_rules.specs.declared.positions.PositionKey.{PositionKey}
use Rattle.hh_states.specs.Changes.{LoadChangeView, RunChangeView}
use Rattle.hh_registrations.specs.declared.unit_steps.UnitStep.{UnitStep}
use Rattle.hh_states.specs.Beside.{is_among}
use Rattle.hh_beside.specs.DayLaws.{HaveTheSame}
use Rattle.hh_beside.specs.Keeping.{beside_with_load, beside_with_run, positions_with, touched_by, touched_by_successions}
use Rattle.hh_beside.specs.Laws.{AreAlike}
use Rattle.hh_beside.proofs.AgreeLaws.{among_both, same_with_more}
use Rattle.hh_beside.proofs.RisingLaws.{filter-map}
use Rattle.hh_sqlrows.specs.no_columns.NoColumns.{NoColumns}
use Rattle.hh_sqlrows.specs.Contents.{beside_in}
use Rattle.hh_sqlrows.specs.Forms.{PutsAll, rows_under_keys}
use Rattle.hh_sqlrows.specs.steps.Forms.{Puts, Removes}
use Rattle.hh_sqlrows.specs.OfficeTables as forms
use Rattle.hh_sqlchanges.specs.Writes.{ChangesByLoad, ChangesByRun, WritesBesideAnew}
use Rattle.hh_sqlchanges.specs.steps.Becoming.{StoresLoadAlone, StoresRunAlone, WritesBeside, touched_entry}
use Rattle.hh_sqlchanges.proofs.StayLaws.{content_kept, positions_kept, settings_kept, stays_office, stays_then, touched_kept}

-- ---- touched Settlement Periods that are put into a table

pub or_twice : (p q : Bool) → (p || q) ≡ (p || (p || q))
or_twice true q = refl
or_twice false q = refl

pub or_swap : (p q r : Bool) → (p || (q || r)) ≡ (q || (p || r))
or_swap true true r = refl
or_swap true false r = refl
or_swap false q r = refl

among_put : (at p : SettlementPeriod) (es : Table SettlementPeriod NoColumns)
    → is_among (map (λ e. e.0) (put settlement_period_cmp p (record {}) es)) at ≡ (eq_by_cmp settlement_period_cmp p at || is_among (map (λ e. e.0) es) at)
among_put at p [] = refl
among_put at p (e ∷ es) =
    let there : Bool = is_among (map (λ x. x.0) es) at in
    let own : SettlementPeriod × NoColumns = (p, record {}) in
    let same : SettlementPeriod × NoColumns = (e.0, record {}) in
    elim (settlement_period_cmp p e.0) as (λ o. settlement_period_cmp p e.0 ≡ o
    → is_among (map (λ x. x.0) (by_order o (own ∷ e ∷ es) (same ∷ es) (e ∷ put settlement_period_cmp p (record {}) es))) at
    ≡ (eq_by_cmp settlement_period_cmp p at || (eq_by_cmp settlement_period_cmp e.0 at || there))) [
      | Less ↦ λ is. refl
      | Equal ↦ λ is. subst (λ q. (eq_by_cmp settlement_period_cmp q at || there) ≡ (eq_by_cmp settlement_period_cmp p at || (eq_by_cmp settlement_period_cmp q at || there)))
          (exact_settlement_periods p e.0 is) (or_twice (eq_by_cmp settlement_period_cmp p at) there)
      | Greater ↦ λ is. ap (λ b. eq_by_cmp settlement_period_cmp e.0 at || b) (among_put at p es) ∙ or_swap (eq_by_cmp settlement_period_cmp e.0 at) (eq_by_cmp settlement_period_cmp p at) there
    ] refl

among_put_all : (ps : List SettlementPeriod) (es : Table SettlementPeriod NoColumns) (at : SettlementPeriod)
    → is_among (map (λ e. e.0) (put_all settlement_period_cmp (map touched_entry ps) es)) at ≡ is_among (ps ++ map (λ e. e.0) es) at
among_put_all [] es at = refl
among_put_all (p ∷ ps) es at =
    let there : List SettlementPeriod = map (λ e. e.0) es in
    let is : Bool = eq_by_cmp settlement_period_cmp p at in
    among_put_all ps (put settlement_period_cmp p (record {}) es) at
    ∙ (among_both ps (map (λ e. e.0) (put settlement_period_cmp p (record {}) es)) at
    ∙ (ap (λ b. is_among ps at || b) (among_put at p es)
    ∙ (or_swap (is_among ps at) is (is_among there at)
    ∙ ap (λ b. is || b) (sym (among_both ps there at)))))

-- ---- beside a load

beside_put : (changed : List (PositionKey × Position)) (periods : List SettlementPeriod) (old mid new : Database) → PutsAll forms.positions changed old mid
    → PutsAll forms.touched (map touched_entry periods) mid new → WritesBeside changed periods old new
beside_put changed periods old mid new first second = record {
  stays = stays_then old mid new (stays_office 26 old mid first.is_office first.others (omega arith) (λ e. omega (arith, e))) (stays_office 28 mid new second.is_office second.others (omega arith) (λ e. omega (arith, e)));
  content = λ kept. content_kept 28 mid.trees new.trees second.others (omega arith) (omega arith) kept ∙ content_kept 26 old.trees mid.trees first.others (omega arith) (omega arith) kept;
  positions = positions_kept 28 mid.trees new.trees second.others (λ e. omega (arith, e)) ∙ first.rows;
  touched = λ at. ap (λ es. is_among (map (λ e. e.0) es) at) (second.rows ∙ ap (put_all settlement_period_cmp (map touched_entry periods)) (touched_kept 26 old.trees mid.trees first.others (λ e. omega (arith, e))))
      ∙ among_put_all periods _ at;
}

pub beside_made : {X E : Type 0} (changed : List (PositionKey × Position)) (periods : List SettlementPeriod) (old mid new : Database) (result : Result X E)
    → PutsAll forms.positions changed old mid → OnOk result (PutsAll forms.touched (map touched_entry periods) mid new) → OnOk result (WritesBeside changed periods old new)
beside_made changed periods old mid new result first = on_ok_weaker result (beside_put changed periods old mid new first)

-- ---- beside a content for which nothing was kept

one_row_total : IsTotalOrder forms.one_row_cmp
one_row_total = on_total (λ _. 0) nat_cmp_total

mark_put : (changed : List (PositionKey × Position)) (periods : List SettlementPeriod) (old mid new : Database) → WritesBeside changed periods old mid
    → Puts forms.marks (record {}) true mid new → WritesBesideAnew changed periods old new
mark_put changed periods old mid new written marked = record {
  is_office = marked.is_office;
  settings = settings_kept 30 mid.trees new.trees marked.others (λ e. omega (arith, e)) ∙ written.stays.settings;
  content = λ kept. content_kept 30 mid.trees new.trees marked.others (omega arith) (omega arith) kept ∙ written.content kept;
  positions = positions_kept 30 mid.trees new.trees marked.others (λ e. omega (arith, e)) ∙ written.positions;
  touched = λ at. ap (λ es. is_among (map (λ e. e.0) es) at) (touched_kept 30 mid.trees new.trees marked.others (λ e. omega (arith, e))) ∙ written.touched at;
  mark = ap (find forms.one_row_cmp (record {})) marked.rows ∙ find-put forms.one_row_cmp one_row_total (record {}) (record {}) true (rows_under_keys forms.marks mid.trees);
}

pub marked_anew : {X E : Type 0} (changed : List (PositionKey × Position)) (periods : List SettlementPeriod) (old mid new : Database) (result : Result X E)
    → WritesBeside changed periods old mid → OnOk result (Puts forms.marks (record {}) true mid new) → OnOk result (WritesBesideAnew changed periods old new)
marked_anew changed periods old mid new result written = on_ok_weaker result (mark_put changed periods old mid new written)

pub load_changed : {X E : Type 0} (w : LoadChangeView) (steps : List UnitStep) (changed : List (PositionKey × Position)) (periods : List SettlementPeriod) (old mid new : Database) (result : Result X E)
    → StoresLoadAlone w steps old mid → OnOk result (WritesBeside changed periods mid new) → OnOk result (ChangesByLoad w steps changed periods old new)
load_changed w steps changed periods old mid new result stored = on_ok_weaker result (λ written. record {
  stores = record {
    stays = stays_then old mid new stored.stores.stays written.stays;
    content = λ are kept. written.content kept ∙ stored.stores.content are kept;
  };
  positions = written.positions ∙ ap (λ b. put_all forms.positions.order changed b.positions) stored.beside;
  touched = λ at. written.touched at ∙ ap (λ b. is_among (periods ++ b.touched) at) stored.beside;
})

-- ---- beside a run

run_untouched : (w : RunChangeView) (old mid new : Database) → StoresRunAlone w old mid → Removes forms.touched (λ at. at.date == w.key.date) mid new → ChangesByRun w old new
run_untouched w old mid new stored removed = record {
  stores = record {
    stays = stays_then old mid new stored.stores.stays (stays_office 28 mid new removed.is_office removed.others (omega arith) (λ e. omega (arith, e)));
    content = λ own kept. content_kept 28 mid.trees new.trees removed.others (omega arith) (omega arith) kept ∙ stored.stores.content own kept;
  };
  positions = positions_kept 28 mid.trees new.trees removed.others (λ e. omega (arith, e)) ∙ ap (λ b. b.positions) stored.beside;
  touched = ap (map (λ e. e.0)) removed.rows ∙ (sym (filter-map (λ at. not (at.date == w.key.date)) (λ e. e.0) _) ∙ ap (λ b. filter (λ at. not (at.date == w.key.date)) b.touched) stored.beside);
}

pub run_changed : {X E : Type 0} (w : RunChangeView) (date : ℕ) → date ≡ w.key.date → (old mid new : Database) (result : Result X E) → StoresRunAlone w old mid
    → OnOk result (Removes forms.touched (λ at. at.date == date) mid new) → OnOk result (ChangesByRun w old new)
run_changed w date is old mid new result stored = on_ok_weaker result (λ removed. run_untouched w old mid new stored
    (subst (λ (d : ℕ). Removes forms.touched (λ at. at.date == d) mid new) is removed))

-- ---- what is kept beside the content is as it should be after the load or the run

pub alike_after_load : (w : LoadChangeView) (content : Content) (steps : List UnitStep) (changed : List (PositionKey × Position)) (periods : List SettlementPeriod) (old new : Database) → ChangesByLoad w steps changed periods old new
    → put_all position_key_cmp changed (beside_in old.trees).positions ≡ positions_with w.rows content.registered.contracts (beside_in old.trees).positions
    → HaveTheSame periods (touched_by_successions w.rows content.registered.leads content.runs ++ filter_map touched_by w.rows)
    → AreAlike (beside_in new.trees) (beside_with_load w content (beside_in old.trees))
alike_after_load w content steps changed periods old new changes positions same =
    let by_successions : List SettlementPeriod = touched_by_successions w.rows content.registered.leads content.runs in
    let by_rows : List SettlementPeriod = filter_map touched_by w.rows in
    let before : List SettlementPeriod = (beside_in old.trees).touched in (
      changes.positions ∙ positions,
      λ at.
          changes.touched at
          ∙ same_with_more periods (by_successions ++ by_rows) before same at
          ∙ among_both (by_successions ++ by_rows) before at
          ∙ ap (λ b. b || is_among before at) (among_both by_successions by_rows at)
          ∙ turned (is_among by_successions at) (is_among by_rows at) (is_among before at)
          ∙ sym (among_both by_rows (by_successions ++ before) at ∙ ap (λ b. is_among by_rows at || b) (among_both by_successions before at)),
    )
  where
    turned : (p q r : Bool) → ((p || q) || r) ≡ (q || (p || r))
    turned true true r = refl
    turned true false r = refl
    turned false true r = refl
    turned false false r = refl

pub alike_after_run : (w : RunChangeView) (old new : Database) → ChangesByRun w old new → AreAlike (beside_in new.trees) (beside_with_run w (beside_in old.trees))
alike_after_run w old new changes = (changes.positions, λ at. ap (λ ps. is_among ps at) changes.touched)
