use Rattle.std.proofs.Common.{◌≡◌, true, false, sym, ap, ◌∙◌, rules, cond}
use Rattle.std.specs.Cmp.Rules.{comparing}
use Rattle.std.specs.Ordering.{eq_by_cmp}
use Rattle.hh_rules.specs.Positions.{position_in, position_key_cmp}
use Rattle.hh_rules.proofs.PositionLaws.{in_put}
use Rattle.hh_rules.proofs.positions.Positions.of_beside.Goals as goal

pub returns-then-eq : goal.returns-then-eq
returns-then-eq c =
    let same : eq_by_cmp position_key_cmp c.args.key.now c.args.other.now.0 ≡ true = search (comparing, rules) in
    sym (in_put c.args.self.now c.args.other.now.0 c.args.key.now c.args.other.now.1 ∙ ap (λ b. cond b c.args.other.now.1 (position_in c.args.self.now c.args.key.now)) same)

pub returns-else-eq : goal.returns-else-eq
returns-else-eq c =
    let apart : eq_by_cmp position_key_cmp c.args.key.now c.args.other.now.0 ≡ false = search (comparing, rules) in
    c.of.ensures ∙ sym (in_put c.args.self.now c.args.other.now.0 c.args.key.now c.args.other.now.1 ∙ ap (λ b. cond b c.args.other.now.1 (position_in c.args.self.now c.args.key.now)) apart)
