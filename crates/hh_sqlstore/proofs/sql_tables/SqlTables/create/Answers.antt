use Rattle.std.proofs.Common.{sym}
use Rattle.sqlite.specs.Held.{state}
use Rattle.hh_states.specs.Content.{empty_content}
use Rattle.hh_sqlstore.proofs.ContentLaws.{clean_while_open, content_is, holds_its_own}
use Rattle.hh_sqlstore.proofs.sql_tables.SqlTables.create.Goals as goal

pub invariant_of-result : goal.invariant_of-result
invariant_of-result g c =
    let new = state g.S.Store c.make_office.new.connection in
    record {
      autocommit = c.in-Ok.ensures.autocommit;
      settled = λ stands. (c.in-Ok.ensures.made (clean_while_open g.S.Store c.make_office.new.connection g.met.S.Store.shut_if_dirty stands)).settled;
      holds = λ stands. holds_its_own _ _ (c.in-Ok.ensures.made (clean_while_open g.S.Store c.make_office.new.connection g.met.S.Store.shut_if_dirty stands)).is_new.holds;
      marked = λ stands. (c.in-Ok.ensures.made (clean_while_open g.S.Store c.make_office.new.connection g.met.S.Store.shut_if_dirty stands)).is_new.mark;
      at_hand = λ stands. tt;
    }

pub returns-in-Ok-clause-is_new : goal.returns-in-Ok-clause-is_new
returns-in-Ok-clause-is_new g c stands = (c.in-Ok.ensures.made (clean_while_open g.S.Store c.make_office.new.connection g.met.S.Store.shut_if_dirty stands)).is_new

pub returns-in-Ok-clause-empty : goal.returns-in-Ok-clause-empty
returns-in-Ok-clause-empty g c stands = sym (content_is (empty_content c.args.settings) _ (c.in-Ok.ensures.made (clean_while_open g.S.Store c.make_office.new.connection g.met.S.Store.shut_if_dirty stands)).is_new.holds)

pub returns-in-Ok-clause-represents : goal.returns-in-Ok-clause-represents
returns-in-Ok-clause-represents g c stands midnight = sym (content_is (empty_content c.args.settings) _ (c.in-Ok.ensures.made (clean_while_open g.S.Store c.make_office.new.connection g.met.S.Store.shut_if_dirty stands)).is_new.holds)

pub returns-in-Err-clause-undone : goal.returns-in-Err-clause-undone
returns-in-Err-clause-undone g c stands = c.in-Err.ensures.undone (clean_while_open g.S.Store c.make_office.new.connection g.met.S.Store.shut_if_dirty stands) stands
