use Rattle.hh_rules.proofs.WalkLaws.{IsLeft}
use Rattle.hh_rules.proofs.register.Register.is_reallocated_to_lead.Given as goal

-- what is left of the walk
abbrev pub invariant-loop-key : goal.invariant-loop-key
invariant-loop-key l = IsLeft l.row l.self.standing.tables.reallocations l.key-iterator
