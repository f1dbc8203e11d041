-- An office's database that is taken over has the settings and the content that it had.
use Rattle.std.proofs.Common.{◌≡◌, ◌∙◌, inl, inr, true, IsTrue, Option, Some, refl, ap, subst, sym}
use Rattle.std.specs.FinMap.{find}
use Rattle.sqlite.specs.Effect.{Database}
use Rattle.sqlite.specs.State.{HasCleanDisk, State}
use Rattle.sqlite_trees.specs.Tree.{Trees}
use Rattle.hh_rows.specs.declared.settings.Settings.{Settings}
use Rattle.hh_states.specs.Content.{Content}
use Rattle.hh_keyed_rows.specs.Values.{version}
use Rattle.hh_sqlrows.specs.Contents.{mark_in, stored_content}
use Rattle.hh_sqlrows.specs.Office.{IsOffice}
use Rattle.hh_sqlrows.specs.OfficeTables.{one_row_cmp}
use Rattle.hh_sqlrows.specs.Holds.{HasSettings, Holds}
use Rattle.hh_sqlrows.specs.Leaving.{KeepsHeld}
use Rattle.hh_sqlschema.specs.TakenOver.{IsTakenOver, KeepsBeside, MayKeepBeside}
use Rattle.hh_sqlschema.specs.Adopted.{IsAdoptedFrom}
use Rattle.hh_sqlstore.specs.steps.Kept.{IsMarked}
use Rattle.hh_sqlstore.proofs.ContentLaws.{content_is, holds_content}
use Rattle.hh_sqlstore.proofs.CrashLaws.{trees_hold}

module _ (old new : Database) where
  taken_content : IsTakenOver old new → (kept : Settings) → stored_content kept new.trees ≡ stored_content kept old.trees
  taken_content (inl same) kept = ap (λ (db : Database). stored_content kept db.trees) same
  taken_content (inr keeps) kept = keeps.content kept

  taken_settings : IsTakenOver old new → (kept : Settings) → HasSettings version kept old.trees → HasSettings version kept new.trees
  taken_settings (inl same) kept has = subst (λ (db : Database). HasSettings version kept db.trees) (sym same) has
  taken_settings (inr keeps) kept has = ap (find one_row_cmp (record {})) keeps.settings ∙ has

  taken_office : IsTakenOver old new → IsOffice old → IsOffice new
  taken_office (inl same) is = subst IsOffice (sym same) is
  taken_office (inr keeps) is = keeps.is_office

module _ (kept : Settings) (old new : State) (adopted : IsAdoptedFrom kept old) (marked : IsMarked old new) where
  office_committed : IsOffice old.committed
  office_committed = subst IsOffice adopted.settled adopted.is_office

  settings_committed : HasSettings version kept old.committed.trees
  settings_committed = subst (λ (db : Database). HasSettings version kept db.trees) adopted.settled adopted.settings

  pub committed_taken : IsTakenOver old.committed new.committed
  committed_taken = subst (λ (db : Database). IsTakenOver db new.committed) adopted.settled (subst (IsTakenOver old.now) marked.settled marked.taken)

  pub mark_committed : mark_in new.committed.trees ≡ Some true
  mark_committed = subst (λ (db : Database). mark_in db.trees ≡ Some true) marked.settled marked.marked

  pub holds_after : Holds version (stored_content kept new.committed.trees) new.committed
  holds_after =
      holds_content kept new.committed (taken_office old.committed new.committed committed_taken office_committed)
      (taken_settings old.committed new.committed committed_taken kept settings_committed)

  -- it contained that content before
  pub held_before : Holds version (stored_content kept new.committed.trees) old.committed
  held_before =
      subst (λ (content : Content). Holds version content old.committed) (sym (taken_content old.committed new.committed committed_taken kept))
      (holds_content kept old.committed office_committed settings_committed)

  -- and no other content
  pub content_before : (content : Content) → Holds version content old.committed → stored_content kept new.committed.trees ≡ content
  content_before content holds =
      let same : ◌≡◌ {A = Option Settings} (Some kept) (Some content.settings) = sym settings_committed ∙ holds.settings in
      let is : kept ≡ content.settings = cc same in
      taken_content old.committed new.committed committed_taken kept
      ∙ ap (λ k. stored_content k old.committed.trees) is
      ∙ sym (content_is content old.committed holds)

-- if positions are kept from now on, a database contains the content that it contained
beside_holds : (content : Content) (old new : Database) → Holds version content old → KeepsBeside old new → Holds version content new
beside_holds content old new holds keeps =
    let same : content ≡ stored_content content.settings new.trees = content_is content old holds ∙ sym (keeps.content content.settings) in
    subst (λ (c : Content). Holds version c new) (sym same)
    (holds_content content.settings new keeps.is_office (ap (find one_row_cmp (record {})) keeps.settings ∙ holds.settings))

-- whatever a crash leaves of a database that is taken over, or was to be, contains the content that the database had
pub keeps_held : (old new : State) → ((trees : Trees) → IsTrue old.is_open → old.may_leave trees → trees ≡ old.committed.trees) → (HasCleanDisk new → HasCleanDisk old)
    → MayKeepBeside old new → KeepsHeld old new
keeps_held old new settled honest may clean = (
  honest clean,
  λ stands content holds trees left.
      elim (may stands clean trees left) [
        | inl before ↦ trees_hold content old.committed trees (settled trees stands before) holds
        | inr beside ↦ trees_hold content beside.0 trees beside.2 (beside_holds content old.committed beside.0 holds beside.1)
      ],
)
