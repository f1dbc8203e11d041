-- What a statement leaves of its transaction.
use Rattle.std.proofs.lemmas.Bool.{cases_Bool}
use Rattle.std.proofs.Common.{◌∙◌, sym, false, ◌≡◌, ℕ, List, Ok, Err, Result, IsTrue, OnOk, inl, inr}
use Rattle.sqlite_value.specs.Order.{Row}
use Rattle.sqlite_trees.specs.declared.error.StoreError.{StoreError}
use Rattle.sqlite_trees.specs.declared.error.StoreError.TheVariants.{OutOfMemory, Io, Corrupt, Full, Broken, Unstorable}
use Rattle.sqlite_schema.specs.declared.schema.Constraint.{Constraint}
use Rattle.sqlite.specs.State.{State, ExecutesIn, ExecutesInside, IsNotRun, IsUnchanged, shows_rows, store_error}
use Rattle.sqlite.specs.declared.error.Error.{Error}
use Rattle.sqlite.specs.declared.error.Error.TheVariants.{SqliteFailure}
use Rattle.sqlite.specs.declared.error.ErrorCode.TheVariants.{ConstraintViolation}

module _ (sql : List ℕ) (params : Row) (old new : State) where
  pub left_inside : (r : Result ℕ Error) → ExecutesInside 0 sql params old new r → IsTrue new.is_open → IsTrue old.is_open × (new.committed ≡ old.committed)
  left_inside (Ok count) h stands = (h.1.was_open, h.1.committed_is)
  left_inside (Err e) (inl h) stands = elim h.1 [ inl same ↦ (same.0.was_open, same.0.committed_is) | inr back ↦ (back.was_open stands, (back.undone stands).1) ]
  left_inside (Err e) (inr h) stands = (h.2.0.was_open, h.2.0.committed_is)

  pub stays_inside : (r : Result ℕ Error) → ExecutesInside 0 sql params old new r → OnOk r (IsTrue new.in_transaction)
  stays_inside (Ok count) h = h.1.mode
  stays_inside (Err e) h = tt

-- no failure of the store is told as a constraint that is not met
no_failure : (unmet : Constraint) (cause : StoreError) → SqliteFailure (ConstraintViolation unmet) ≡ store_error cause → ⊥
no_failure unmet OutOfMemory e = cc
no_failure unmet Io e = cc
no_failure unmet Corrupt e = cc
no_failure unmet Full e = cc
no_failure unmet Broken e = cc
no_failure unmet Unstorable e = cc

module _ (sql : List ℕ) (params : Row) (old new : State) (unmet : Constraint) (e : Error) (is : e ≡ SqliteFailure (ConstraintViolation unmet)) where
  -- a statement that a constraint refuses leaves all as it was
  pub refused_whole : ExecutesInside 0 sql params old new (Err e) → IsUnchanged old new
  unfolding ExecutesIn IsNotRun
  refused_whole (inl (inl (inl refused), _)) = refused.1
  refused_whole (inl (inl (inr failed), _)) = absurd (no_failure unmet failed.0 (sym is ∙ failed.1))
  refused_whole (inl (inr ran, _)) = elim (cases_Bool (shows_rows false ran.0)) [
    | inl shows ↦ (rw shows at ran.2).1
    | inr runs ↦ elim (rw runs at ran.2) [ inl refused ↦ refused.1 | inr failed ↦ absurd (no_failure unmet failed.0 (sym is ∙ failed.1)) ]
  ]
  refused_whole (inr late) = late.2
