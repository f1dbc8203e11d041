-- What a crash leaves of a change that is committed after a reading.
use Rattle.std.proofs.Common.{◌≡◌, ◌⊎◌, inl, inr, IsTrue, subst}
use Rattle.sqlite.specs.Effect.{Database}
use Rattle.sqlite.specs.State.{HasCleanDisk, State, Survives}
use Rattle.sqlite_trees.specs.Tree.{Trees}
use Rattle.hh_sqlrows.specs.Leaving.{MayBecome, MayStand}
use Rattle.hh_sqlrows.specs.Reads.{LeavesNoMore}

or_never : {A : Type 0} → A ⊎ ⊥ → A
or_never (inl a) = a
or_never (inr none) = absurd none

pub no_more : (old new : State) → (IsTrue old.is_open → Survives old new (λ _. ⊥)) → IsTrue old.is_open → LeavesNoMore old new
no_more old new survives stands clean trees may = or_never ((survives stands).crash clean trees may)

-- if a change may be made, so may any that follows from it
pub may_become_so : (Change Other : Database → Database → Type 0) (old new : State) → ((a b : Database) → Change a b → Other a b) → MayBecome Change old new → MayBecome Other old new
may_become_so Change Other old new follows may stands clean trees left = either (may stands clean trees left)
  where
    either : old.may_leave trees ⊎ MayStand (Change old.committed) trees → old.may_leave trees ⊎ MayStand (Other old.committed) trees
    either (inl before) = inl before
    either (inr (db, changed, is)) = inr (db, follows old.committed db changed, is)

module _ (Change : Database → Database → Type 0) (old mid new : State) (first : IsTrue old.is_open → LeavesNoMore old mid)
    (same : IsTrue old.is_open → HasCleanDisk mid → IsTrue mid.is_open × (mid.committed ≡ old.committed)) (honest : HasCleanDisk new → HasCleanDisk mid) where
  -- the change may be made after a call that leaves no more
  pub may_become_after : MayBecome Change mid new → MayBecome Change old new
  may_become_after last stands clean trees may =
      let here = same stands (honest clean) in
      either (last here.0 clean trees may)
    where
      either : mid.may_leave trees ⊎ MayStand (Change mid.committed) trees → old.may_leave trees ⊎ MayStand (Change old.committed) trees
      either (inl before) = inl (first stands (honest clean) trees before)
      either (inr (db, changes, is)) = inr (db, subst (λ (d : Database). Change d db) (same stands (honest clean)).1 changes, is)

  -- if such a database may be committed, the change may be made
  pub may_become_made : (P : Database → Type 0) → (IsTrue mid.is_open → Survives mid new (MayStand P)) → (IsTrue mid.is_open → (db : Database) → P db → Change mid.committed db) → MayBecome Change old new
  may_become_made P survives makes = may_become_after (λ stands clean trees may. either stands trees ((survives stands).crash clean trees may))
    where
      either : IsTrue mid.is_open → (trees : Trees) → mid.may_leave trees ⊎ MayStand P trees → mid.may_leave trees ⊎ MayStand (Change mid.committed) trees
      either stands trees (inl before) = inl before
      either stands trees (inr (db, p, is)) = inr (db, makes stands db p, is)
