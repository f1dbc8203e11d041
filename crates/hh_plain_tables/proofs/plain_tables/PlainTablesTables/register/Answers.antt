use Rattle.std.proofs.Common.{subst, sym}
use Rattle.hh_states.specs.Content.{Content}
use Rattle.hh_states.specs.Soundness.{AreSound}
use Rattle.hh_plain_tables.proofs.RefusalLaws.{memory_counts_nothing, reached_sound}
use Rattle.hh_plain_tables.proofs.plain_tables.PlainTablesTables.register.Goals as goal

pub returns-clause-refusals_counted : goal.returns-clause-refusals_counted
returns-clause-refusals_counted c reached =
    let sound = reached_sound c.sound_states.ensures c.args.self.now reached in
    memory_counts_nothing 0 c.register_for.result
    (c.register_for.ensures.memory_alone (subst (λ (content : Content). AreSound content.registered) (sym c.self.view_is) sound))
