use Rattle.std.proofs.Common.{◌∙◌, ap, sym}
use Rattle.std.specs.Ordering.{is_lt}
use Rattle.hh_tables.proofs.BehindLaws.{rising_above}
use Rattle.hh_tables.proofs.list_table.are_rising_above.Goals as goal

pub returns-then-is_lt : goal.returns-then-is_lt
returns-then-is_lt g c =
    c.are_rising.ensures
    ∙ rising_above g.met.K.Ord.total c.args.key.now c.in-Some.first.now c.args.rows.now c.in-Some.ensures.value (ap is_lt (sym c.cmp.ensures) ∙ sym c.is_lt.ensures ∙ c.if-is_lt.true)
