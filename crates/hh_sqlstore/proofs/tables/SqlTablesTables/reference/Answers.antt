use Rattle.hh_sqlstore.proofs.CrashLaws.{reading_adds_nothing}
use Rattle.hh_sqlstore.proofs.tables.SqlTablesTables.reference.Goals as goal

pub returns-in-Ok-clause-crash : goal.returns-in-Ok-clause-crash
returns-in-Ok-clause-crash g c =
    reading_adds_nothing g.S.Store _ c.self.invariant c.select.new.conn c.self.inside.refusals (λ P. P) (λ stands. c.in-Ok.ensures.frame.stays tt) c.in-Ok.ensures.frame.honest (λ stands is. c.in-Ok.ensures.frame.crash tt is.0) _ c.self.view_is

pub returns-in-Err-clause-crash : goal.returns-in-Err-clause-crash
returns-in-Err-clause-crash g c =
    reading_adds_nothing g.S.Store _ c.self.invariant c.select.new.conn c.refuse.new.refusals (λ P. Unit {0}) (λ stands clean. tt) c.in-Err.ensures.frame.honest (λ stands is. c.in-Err.ensures.frame.crash tt is.0) _ c.self.view_is
