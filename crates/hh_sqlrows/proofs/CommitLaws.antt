-- What a crash leaves of a transaction that is committed.
use Rattle.std.proofs.Common.{◌≡◌, true, arith}
use Rattle.sqlite_trees.specs.declared.store.Store.{Ghosts}
use Rattle.sqlite.specs.Effect.{Database}
use Rattle.sqlite.specs.Held.{Held, state}
use Rattle.sqlite.specs.State.{HasCleanDisk, State, Survives}
use Rattle.sqlite.proofs.Callers.{survives_begin}
use Rattle.sqlite.proofs.StateLemmas.{survives_then}
use Rattle.hh_sqlrows.specs.Leaving.{MayStand}

-- after a crash in a transaction, the database is as it was, or as the commit makes it
pub survives_making : {S : Type 0} (g : Ghosts S) (P : Database → Type 0) (old : Held S) (mid new : State) → Survives (state g (record old { in_transaction = true })) mid (λ _. ⊥) → (HasCleanDisk mid → P mid.now) → Survives mid new (λ trees. trees ≡ mid.now.trees)
    → Survives (state g old) new (MayStand P)
survives_making g P old mid new inside made last =
    survives_then (state g old) mid new _ _ _ (λ _ db none. absurd none) (λ clean db same. (mid.now, made (omega (arith, last.clean, clean)), same)) (survives_begin g old mid _ inside) last
