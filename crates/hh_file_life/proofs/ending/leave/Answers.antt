use Rattle.std.proofs.Common.{◌≡◌, IsTrue, sym, subst, arith}
use Rattle.std.proofs.Math.Logic.{∥∥₁_map}
use Rattle.sqlite_disk.specs.declared.Disk.{Ghosts}
use Rattle.sqlite_disk.specs.declared.Files.{Files}
use Rattle.sqlite_wal.specs.Files.{outcomes}
use Rattle.sqlite_wal.specs.Reads.{AreClean}
use Rattle.sqlite_trees.proofs.Doubt.{no_doubt}
use Rattle.sqlite_trees.specs.View.{IsClean}
use Rattle.sqlite_pool.proofs.StateLemmas.{clean_is, may_leave_is}
use Rattle.sqlite_store.specs.declared.store.FileStore.{FileStore}
use Rattle.sqlite_store.specs.FileStore.{view, files}
use Rattle.sqlite.proofs.Theorems.{opens_again}
use Rattle.hh_file_life.proofs.ending.leave.Goals as goal

clean_files : {D : Type 0} {g : Ghosts D} (it : FileStore D g) (last : Files D) → ◌≡◌ {A = D × D} (last.log, last.db) (files it) → AreClean g last.log last.db → IsClean (view it)
clean_files {g = g} it last is clean = no_doubt _ (subst IsTrue (sym (clean_is it.pool)) (subst (λ p. AreClean g p.0 p.1) is clean))

pub returns-clause-honest : goal.returns-clause-honest
returns-clause-honest g c clean = omega (arith, clean_files c.into_store.result c.close.result c.close.ensures clean, c.into_store.ensures.quiet.clean)

pub returns-clause-left : goal.returns-clause-left
returns-clause-left g c clean image may =
    let it = c.into_store.result in
    let none = clean_files it c.close.result c.close.ensures clean in
    let same = subst (λ p. AreClean g.D.Disk p.0 p.1 × outcomes g.D.Disk p.0 p.1 image) c.close.ensures (clean, may) in
    ∥∥₁_map (opens_again it (c.into_store.ensures.numbered none) (c.into_store.ensures.sound none) image (may_leave_is it.pool image same.0 same.1))
    (λ found. (found.0, found.2, c.into_store.ensures.quiet.outcomes found.0 found.1))
