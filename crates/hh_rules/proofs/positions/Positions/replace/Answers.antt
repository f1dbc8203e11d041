use Rattle.std.proofs.Common.{◌∙◌, ap, option_copied}
use Rattle.std.proofs.lemmas.Result.{on_ok_weaker}
use Rattle.std.specs.FinMap.{put}
use Rattle.hh_rules.specs.Positions.{position_key_cmp}
use Rattle.hh_rules.proofs.PositionLaws.{puts_moved}
use Rattle.hh_rules.proofs.positions.Positions.replace.Goals as goal

pub returns-clause-ok : goal.returns-clause-ok
returns-clause-ok c =
    let seller = c.key_of-seller.result in
    let buyer = c.key_of-buyer.result in
    on_ok_weaker c.put_two.result
    (λ done. done ∙ ap (λ es. put position_key_cmp buyer c.plus-2.result (put position_key_cmp seller c.plus.result es)) c.self.view_is
    ∙ puts_moved (option_copied c.args.old) c.args.new.now c.args.self.now seller buyer c.key_of-seller.ensures c.key_of-buyer.ensures
    c.of.result c.plus.result c.of_beside.result c.plus-2.result c.units.result c.volume_of.result c.units.ensures.value c.volume_of.ensures.value
    c.units.ensures.range c.volume_of.ensures.range c.of.ensures c.plus.ensures c.of_beside.ensures c.plus-2.ensures)
    c.put_two.ensures.ok
