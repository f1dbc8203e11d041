use Rattle.std.proofs.Common.{rules, tests}
use Rattle.std.proofs.lemmas.Iterator.{YieldsList-from_slice, items_from_collect}
use Rattle.std.proofs.lemmas.Iterator.Consumers.{YieldsList-from_filter_map}
use Rattle.hh_rules.specs.Entries.{meter_entry}
use Rattle.hh_sqlchanges.proofs.file_rows.readings_of.Goals as goal

pub returns : goal.returns
returns c = items_from_collect _ c.collect.ensures.ran (YieldsList-from_filter_map _ meter_entry (YieldsList-from_slice c.args.rows.now cc) c.filter_map.ensures.closure (λ x r q k. search (rules, tests)))
