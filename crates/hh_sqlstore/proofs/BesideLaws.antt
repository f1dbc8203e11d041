-- The content after what a transaction has written: what is kept beside it still agrees with it, or agrees from now on.
use Rattle.std.proofs.Common.{◌≡◌, ◌∙◌, ◌++◌, true, false, filter_map, Some, IsTrue, refl, ap, subst, sym}
use Rattle.std.specs.Prelude.{◌||◌, not, unwrap_or}
use Rattle.std.proofs.lemmas.List.{append-nil}
use Rattle.sqlite.specs.Effect.{Database}
use Rattle.sqlite_trees.specs.Tree.{Trees}
use Rattle.hh_tables.specs.Tables.{put_all}
use Rattle.hh_time.specs.Days.{Midnights}
use Rattle.hh_rows.specs.declared.settings.Settings.{Settings}
use Rattle.hh_states.specs.Changes.{IsLoadFrom, IsRunFrom, LoadEffect, LoadChangeView, RunEffect, RunChangeView, effect_of_load, effect_of_run}
use Rattle.hh_rules.specs.Positions.{position_key_cmp}
use Rattle.hh_states.specs.PeriodSettlement.{row_in_force}
use Rattle.hh_sqlparts.specs.DayLaws.{HaveTheSame}
use Rattle.hh_states.specs.Content.{Content, tables_of}
use Rattle.hh_states.specs.Beside.{agrees}
use Rattle.hh_sqlparts.specs.Keeping.{beside_of, beside_with_load, beside_with_run, periods_of_runs}
use Rattle.hh_sqlparts.specs.Laws.{AreAlike, LoadsAgree, MadeAnewAgrees, RunsAgree}
use Rattle.hh_sqlparts.specs.PositionLaws.{MadeAnewAreWritten}
use Rattle.hh_sqlrows.specs.Contents.{beside_in, content_of, is_in_step_in, mark_in, registered_of, stored_content}
use Rattle.hh_sqlparts.specs.BesideAnew.{IsBesideAnew}
use Rattle.hh_sqlparts.specs.declared.beside_anew.BesideAnew.{BesideAnew}
use Rattle.hh_sqlchanges.specs.OwnAccounts.{RowsOfTheirAccounts}
use Rattle.hh_sqlchanges.specs.Writes.{WritesBesideAnew}
use Rattle.hh_sqlschema.specs.TakenOver.{KeepsBeside}
use Rattle.hh_sqlstore.specs.steps.Changed.{KeepsLoad, KeepsRun}

-- if positions are kept, what is kept is in step exactly if it agrees
pub step_is : (kept : Settings) (trees : Trees) → mark_in trees ≡ Some true → is_in_step_in (content_of kept trees) trees ≡ agrees (content_of kept trees) (beside_in trees)
unfolding is_in_step_in
step_is kept trees marked = ap (λ m. not (unwrap_or m false) || agrees (content_of kept trees) (beside_in trees)) marked

-- content that is in step is the same as the content said to be in step
pub as_if : (kept : Settings) (trees : Trees) → is_in_step_in (content_of kept trees) trees ≡ true → content_of kept trees ≡ stored_content kept trees
as_if kept trees step = ap (λ b. record (content_of kept trees) { is_in_step = b }) (sym step)

module _ (kept : Settings) (old new : Database) (marked : mark_in old.trees ≡ Some true) (same_mark : mark_in new.trees ≡ mark_in old.trees) where
  -- the tables of a state are in step, so what is kept beside them agrees with them
  in_state : (t : Content) → t.is_in_step ≡ true → stored_content kept old.trees ≡ t → (content_of kept old.trees ≡ t) × IsTrue (agrees t (beside_in old.trees))
  in_state t step is =
      let old_step : is_in_step_in (content_of kept old.trees) old.trees ≡ true = ap (λ (c : Content). c.is_in_step) is ∙ step in
      let same : content_of kept old.trees ≡ t = as_if kept old.trees old_step ∙ is in
      (same, subst (λ (c : Content). IsTrue (agrees c (beside_in old.trees))) same (sym (step_is kept old.trees marked) ∙ old_step))

  -- content with which everything agrees is stored as it is
  stored_as : (t : Content) → content_of kept new.trees ≡ t → IsTrue (agrees t (beside_in new.trees)) → t.is_in_step ≡ true → stored_content kept new.trees ≡ t
  stored_as t same agreeing step =
      let new_step : is_in_step_in (content_of kept new.trees) new.trees ≡ true = step_is kept new.trees (same_mark ∙ marked) ∙ ap (λ (c : Content). agrees c (beside_in new.trees)) same ∙ agreeing in
      sym (as_if kept new.trees new_step) ∙ same

  pub load_kept : LoadEffect → LoadsAgree → (midnight : Midnights) (w : LoadChangeView) → IsLoadFrom midnight (stored_content kept old.trees) w → KeepsLoad w old new
      → stored_content kept new.trees ≡ effect_of_load w (stored_content kept old.trees)
  load_kept effect agree midnight w (s, load, stands, can, is) keeps =
      let before = in_state (tables_of midnight s) refl stands.1 in
      let alike : AreAlike (beside_in new.trees) (beside_with_load w (tables_of midnight s) (beside_in old.trees)) =
      subst (λ (c : Content). AreAlike (beside_in new.trees) (beside_with_load w c (beside_in old.trees))) before.0 (keeps.1 kept) in
      let after = effect midnight s load stands.0 can in
      let made : content_of kept new.trees ≡ effect_of_load w (tables_of midnight s) = keeps.0.content kept ∙ ap (effect_of_load w) before.0 in
      let is_after : effect_of_load w (tables_of midnight s) ≡ tables_of midnight (Rattle.hh_states.specs.Steps.after_load midnight s load) = ap (λ x. effect_of_load x (tables_of midnight s)) is ∙ sym after in
      let agreeing = agree midnight s load (beside_in old.trees) (beside_in new.trees) stands.0 can before.1
      (subst (λ x. AreAlike (beside_in new.trees) (beside_with_load x (tables_of midnight s) (beside_in old.trees))) is alike) in
      stored_as (effect_of_load w (tables_of midnight s)) made (subst (λ (c : Content). IsTrue (agrees c (beside_in new.trees))) (sym is_after) agreeing) refl
      ∙ ap (effect_of_load w) (sym stands.1)

  pub run_kept : RunEffect → RunsAgree → RowsOfTheirAccounts → (midnight : Midnights) (w : RunChangeView) → IsRunFrom midnight (stored_content kept old.trees) w → KeepsRun w old new
      → stored_content kept new.trees ≡ effect_of_run w (stored_content kept old.trees)
  run_kept effect agree own midnight w (s, moment, key, stands, can, is) keeps =
      let before = in_state (tables_of midnight s) refl stands.1 in
      let after = effect midnight s moment key can in
      let made : content_of kept new.trees ≡ effect_of_run w (tables_of midnight s) = keeps.0.content (own midnight _ w (s, moment, key, stands, can, is)) kept ∙ ap (effect_of_run w) before.0 in
      let is_after : effect_of_run w (tables_of midnight s) ≡ tables_of midnight (Rattle.hh_states.specs.Steps.after_run s key) = ap (λ x. effect_of_run x (tables_of midnight s)) is ∙ sym after in
      let agreeing = agree midnight s moment key (beside_in old.trees) (beside_in new.trees) stands.0 can before.1
      (subst (λ x. AreAlike (beside_in new.trees) (beside_with_run x (beside_in old.trees))) is keeps.1) in
      stored_as (effect_of_run w (tables_of midnight s)) made (subst (λ (c : Content). IsTrue (agrees c (beside_in new.trees))) (sym is_after) agreeing) refl
      ∙ ap (effect_of_run w) (sym stands.1)

-- if no positions are kept, nothing is out of step
step_unmarked : (kept : Settings) (trees : Trees) → mark_in trees ≡ Some false → is_in_step_in (content_of kept trees) trees ≡ true
unfolding is_in_step_in
step_unmarked kept trees unmarked = ap (λ m. not (unwrap_or m false) || agrees (content_of kept trees) (beside_in trees)) unmarked

-- if nothing was kept, and what is made anew is written, it is in step, and the content is as it was
module _ (anew : MadeAnewAgrees) (written : MadeAnewAreWritten) (old new : Database) (found : BesideAnew) (is : IsBesideAnew old.trees found)
    (writes : WritesBesideAnew found.positions.items found.touched.items old new) (unmarked : mark_in old.trees ≡ Some false) where
  positions_written : (kept : Settings) → (beside_in new.trees).positions ≡ (beside_of (content_of kept old.trees)).positions
  positions_written kept =
      writes.positions
      ∙ (λ i. put_all position_key_cmp (is.positions i) (is.nothing.positions i))
      ∙ written (filter_map (row_in_force (registered_of old.trees)) (registered_of old.trees).contracts)

  touched_written : (kept : Settings) → HaveTheSame (beside_in new.trees).touched (beside_of (content_of kept old.trees)).touched
  touched_written kept =
      subst (HaveTheSame (beside_in new.trees).touched)
      ((λ i. is.touched i ++ is.nothing.touched i) ∙ append-nil (periods_of_runs (content_of kept old.trees).runs)) writes.touched

  pub kept_beside : KeepsBeside old new
  kept_beside = record {
    unmarked = unmarked;
    marked = writes.mark;
    is_office = writes.is_office;
    settings = writes.settings;
    content = λ kept.
        let agreeing = anew (content_of kept old.trees) (beside_in new.trees) (positions_written kept, touched_written kept) in
        let new_step : is_in_step_in (content_of kept new.trees) new.trees ≡ true =
        step_is kept new.trees writes.mark ∙ ap (λ (c : Content). agrees c (beside_in new.trees)) (writes.content kept) ∙ agreeing in
        sym (as_if kept new.trees new_step) ∙ writes.content kept ∙ as_if kept old.trees (step_unmarked kept old.trees unmarked);
  }
