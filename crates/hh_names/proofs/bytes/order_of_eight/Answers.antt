use Rattle.std.proofs.Common.{sym, ◌∙◌}
use Rattle.std.specs.Ordering.{nat_cmp}
use Rattle.hh_names.proofs.ByteFacts.{spelt_order}
use Rattle.hh_names.proofs.bytes.order_of_eight.Goals as goal

pub returns : goal.returns
returns c =
    c.cmp.ensures
    ∙ (λ i. nat_cmp (c.number_of.ensures i) (c.number_of-2.ensures i))
    ∙ sym (spelt_order c.args.first.now c.args.second.now (c.told-first ∙ sym c.told-second) c.fits-first c.fits-second)
