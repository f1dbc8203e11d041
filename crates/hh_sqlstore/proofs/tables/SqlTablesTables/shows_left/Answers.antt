use Rattle.std.proofs.Common.{subst}
use Rattle.sqlite.specs.Held.{state}
use Rattle.hh_store.specs.Crashes.{LeavesContent}
use Rattle.hh_sqlrows.specs.Holds.{TreesHold}
use Rattle.hh_sqlstore.specs.Stores.{Stored, content_in}
use Rattle.hh_sqlstore.proofs.CrashLaws.{left_holds}
use Rattle.hh_sqlstore.proofs.tables.SqlTablesTables.shows_left.Goals as goal

pub returns-clause-holds : goal.returns-clause-holds
returns-clause-holds g c =
    subst (λ (t : Stored _). LeavesContent (λ (s : Stored _). (state g.S.Store s.connection).is_open) (λ (s : Stored _) trees. (state g.S.Store s.connection).may_leave trees) TreesHold t (content_in g.S.Store t)) c.self.view_is
    (left_holds g.S.Store _ c.self.invariant (λ trees stands may. g.met.S.Store.settled _ trees stands may))
