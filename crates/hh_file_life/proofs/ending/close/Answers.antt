use Rattle.std.proofs.Math.Logic.{∥∥₁_map}
use Rattle.sqlite_store.specs.Laws.{stays_at}
use Rattle.sqlite.specs.Files.{file_state}
use Rattle.hh_file_life.proofs.ending.close.Goals as goal

pub returns-in-Ok-clause-left : goal.returns-in-Ok-clause-left
returns-in-Ok-clause-left g c clean image may =
    let copied = c.in-Ok.ensures.copied clean in
    ∥∥₁_map (copied.left image may).both (λ holds. ((file_state c.args.connection).committed.trees, holds, stays_at c.args.connection.store g.met.D.Disk.seen_may_stay copied.was_open))
