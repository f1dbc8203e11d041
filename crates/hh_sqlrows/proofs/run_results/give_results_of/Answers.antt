use Rattle.sqlite.specs.Held.{state}
use Rattle.hh_sqlrows.proofs.RisingLaws.{run_rises}
use Rattle.hh_sqlrows.proofs.run_results.give_results_of.Goals as goal

pub returns-clause-in_order : goal.returns-clause-in_order
returns-clause-in_order g c = run_rises c.args.run.now (state g.S.Store c.args.conn.now).now.trees
