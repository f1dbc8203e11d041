use Rattle.std.proofs.Common.{◌≡◌, subst}
use Rattle.hh_states.specs.Reads.{contracts_of}
use Rattle.hh_sqlrows.specs.Contents.{registered_of}
use Rattle.hh_sqlstore.specs.Stores.{Stored, content_in}
use Rattle.hh_sqlparts.proofs.ReadingLaws.{only}
use Rattle.hh_sqlstore.proofs.IdleLaws.{of_committed}
use Rattle.hh_sqlstore.proofs.CrashLaws.{reading_adds_nothing}
use Rattle.hh_sqlstore.proofs.tables.SqlTablesTables.contracts.Goals as goal

pub returns-in-Ok-clause-value : goal.returns-in-Ok-clause-value
returns-in-Ok-clause-value g c stands =
    subst (λ (t : Stored _). c.in-Ok.rows.items ≡ contracts_of c.args.account.now c.args.date (content_in g.S.Store t).registered) c.self.view_is
    (of_committed g.S.Store _ c.self.invariant c.contracts_of_account.new.conn c.self.inside.refusals (only _ _ _ c.in-Ok.ensures.frame) (λ trees. c.in-Ok.rows.items ≡ contracts_of c.args.account.now c.args.date (registered_of trees)) c.in-Ok.ensures.value stands)

pub returns-in-Ok-clause-crash : goal.returns-in-Ok-clause-crash
returns-in-Ok-clause-crash g c =
    reading_adds_nothing g.S.Store _ c.self.invariant c.contracts_of_account.new.conn c.self.inside.refusals (λ P. P) c.in-Ok.ensures.frame.stays c.in-Ok.ensures.frame.honest c.in-Ok.ensures.frame.crash _ c.self.view_is

pub returns-in-Err-clause-crash : goal.returns-in-Err-clause-crash
returns-in-Err-clause-crash g c =
    reading_adds_nothing g.S.Store _ c.self.invariant c.contracts_of_account.new.conn c.refuse.new.refusals (λ P. Unit {0}) (λ stands clean. tt) c.in-Err.ensures.frame.honest c.in-Err.ensures.frame.crash _ c.self.view_is
