use Rattle.std.proofs.Common.{◌≤◌, rules}
use Rattle.hh_time.specs.Days.{last_date}
use Rattle.hh_registrations.proofs.ChangeLaws.{put_in_order}
use Rattle.hh_registrations.proofs.leads.LeadTable.put_row.Goals as goal

pub invariant_of-self-then-le : goal.invariant_of-self-then-le
invariant_of-self-then-le c =
    let own : c.args.row.now.0.from ≤ last_date = search rules in
    put_in_order c.args.row.now.0 c.args.row.now.1 c.self.inside.rows own c.self.invariant
    c.put.new.self c.put.result c.put.ensures.ok c.put.ensures.err
