use Rattle.sqlite.specs.Held.{state}
use Rattle.hh_states.specs.DaySettlement.{periods_on}
use Rattle.hh_sqlparts.specs.DayBeside.{IsBesideOf}
use Rattle.hh_sqlrows.specs.Contents.{beside_in, content_of}
use Rattle.hh_sqlparts.proofs.ReadingLaws.{only, found_first, found_last}
use Rattle.hh_sqlstore.proofs.ReadLaws.{all_on_date}
use Rattle.hh_sqlstore.proofs.parts.data_of_day.Goals as goal

pub returns-clause-value : goal.returns-clause-value
returns-clause-value g c stands is settled settings agreeing =
    let old = state g.S.Store c.args.conn.now in
    let mid = state g.S.Store c.select_day.new.conn in
    let new = state g.S.Store c.select_day_beside.new.conn in
    let day = c.args.day.now in
    let first = (only _ _ _ c.in_ok-part.ensures.frame) in
    let last = (only _ _ _ c.in_ok-beside.ensures.frame) in
    let part = found_first old mid new first last _ c.in_ok-part.ensures.value stands is settled in
    let held = found_last old mid new first last (λ db. IsBesideOf (content_of settings db.trees) (beside_in db.trees) day.date c.in_ok-beside.beside)
    (c.in_ok-beside.ensures.value settings) stands is settled in
    c.read_by_what_is_beside.ensures (content_of settings old.now.trees) (beside_in old.now.trees) agreeing day.date _ _ part held
    (periods_on day.date day.count) (all_on_date day.date day.count) _ c.in_ok-day_data_beside.ensures
