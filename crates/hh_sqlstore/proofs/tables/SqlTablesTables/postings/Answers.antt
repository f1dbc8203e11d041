use Rattle.std.proofs.Common.{◌≡◌, subst}
use Rattle.std.specs.Prelude.{filter_map}
use Rattle.hh_states.specs.Reads.{posting_to, postings_in}
use Rattle.hh_sqlrows.specs.Forms.{rows_under_keys}
use Rattle.hh_sqlrows.specs.OfficeTables.{postings}
use Rattle.hh_sqlstore.specs.Stores.{Stored, content_in}
use Rattle.hh_sqlparts.proofs.ReadingLaws.{only}
use Rattle.hh_sqlstore.proofs.IdleLaws.{idle_with, of_committed}
use Rattle.hh_sqlstore.proofs.CrashLaws.{reading_adds_nothing}
use Rattle.hh_sqlstore.proofs.tables.SqlTablesTables.postings.Goals as goal

pub invariant_of-self : goal.invariant_of-self
invariant_of-self g c =
    idle_with g.S.Store _ c.self.invariant c.postings_to_account.new.conn c.self.inside.refusals (only _ _ _ c.in-Ok.ensures.frame)
    c.postings_to_account.new.posted (c.in-Ok.ensures.posted c.self.invariant.at_hand) (c.in-Ok.ensures.frame.outside c.self.invariant.autocommit)

pub invariant_of-self-in-Err : goal.invariant_of-self-in-Err
invariant_of-self-in-Err g c =
    idle_with g.S.Store _ c.self.invariant c.postings_to_account.new.conn c.refuse.new.refusals (only _ _ _ c.in-Err.ensures.frame)
    c.postings_to_account.new.posted (c.in-Err.ensures.posted c.self.invariant.at_hand) (c.in-Err.ensures.frame.outside c.self.invariant.autocommit)

pub returns-in-Ok-clause-value : goal.returns-in-Ok-clause-value
returns-in-Ok-clause-value g c stands =
    subst (λ (t : Stored _). c.in-Ok.rows.items ≡ postings_in (content_in g.S.Store t) c.args.account.now) c.self.view_is
    (of_committed g.S.Store _ c.self.invariant c.postings_to_account.new.conn c.self.inside.refusals (only _ _ _ c.in-Ok.ensures.frame)
    (λ trees. c.in-Ok.rows.items ≡ filter_map (posting_to c.args.account.now) (rows_under_keys postings trees)) (c.in-Ok.ensures.value c.self.invariant.at_hand) stands)

pub returns-in-Ok-clause-crash : goal.returns-in-Ok-clause-crash
returns-in-Ok-clause-crash g c =
    reading_adds_nothing g.S.Store _ c.self.invariant c.postings_to_account.new.conn c.self.inside.refusals (λ P. P) c.in-Ok.ensures.frame.stays c.in-Ok.ensures.frame.honest c.in-Ok.ensures.frame.crash _ c.self.view_is

pub returns-in-Err-clause-crash : goal.returns-in-Err-clause-crash
returns-in-Err-clause-crash g c =
    reading_adds_nothing g.S.Store _ c.self.invariant c.postings_to_account.new.conn c.refuse.new.refusals (λ P. Unit {0}) (λ stands clean. tt) c.in-Err.ensures.frame.honest c.in-Err.ensures.frame.crash _ c.self.view_is
