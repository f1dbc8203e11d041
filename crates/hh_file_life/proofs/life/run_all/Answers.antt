use Rattle.std.proofs.Common.{◌≡◌, ◌∷◌, [], ◌++◌, ◌+◌, ◌∙◌, length, drop, sym, ap, subst, cond, arith, length-append}
use Rattle.std.proofs.Math.ListN.{drop_of_length-le}
use Rattle.std.proofs.lemmas.List.{drop_more}
use Rattle.jiff.specs.Words.{plain_zone}
use Rattle.hh_time.specs.Zone.{midnight_in}
use Rattle.hh_file_life.specs.Life.{LeaveStates}
use Rattle.hh_file_life.proofs.LifeLaws.{GoesOn, lives_begin, lives_end, lives_on}
use Rattle.hh_file_life.proofs.life.run_all.Goals as goal

pub commands-preserved : goal.commands-preserved
commands-preserved g c =
    let midnight = midnight_in (plain_zone c.args.zone.now) in
    let commands = c.args.commands.now in
    let i = c.commands.command-index in
    let before = c.commands.replies.items in
    let reply = c.in-Ok.ended.0 in
    let next = c.in-Ok.ended.1 in
    let rest = drop (i + 1) commands in
    let is : drop i commands ≡ c.command-item.result ∷ rest = drop_more commands i c.command-item.result c.commands-test.true ∙ ap (λ r. r ∷ rest) (sym c.command-item.is) in
    let pushed = c.push-pushed.ensures.items ∙ ap (λ b. cond b (before ++ reply ∷ []) before) (sym c.if-prove.ensures.value) in
    let kept = c.push-pushed.ensures.capacity in
    let room = c.commands.invariant.room in
    record {
      honest = λ clean. c.commands.invariant.honest (c.in-Ok.ensures.honest clean);
      life = λ clean s reached leaves.
          subst (λ given. LeaveStates g.D.Disk next midnight (GoesOn midnight s commands given rest)) (sym pushed)
          (lives_on g.D.Disk g.met.D.Disk.seen_may_stay midnight s commands c.commands.files next before (drop i commands) c.command-item.result rest reply is
          (c.commands.invariant.life (c.in-Ok.ensures.honest clean) s reached leaves) (λ t is_reached read. c.in-Ok.ensures.life clean t is_reached read));
      count = ap length pushed ∙ length-append before (reply ∷ []) ∙ ap (λ n. n + 1) c.commands.invariant.count;
      room = omega arith;
    }

pub commands-init : goal.commands-init
commands-init g c =
    let midnight = midnight_in (plain_zone c.args.zone.now) in
    let none = c.in_ok-replies.ensures.items in
    record {
      honest = λ clean. clean;
      life = λ clean s reached leaves.
          subst (λ given. LeaveStates g.D.Disk c.args.files midnight (GoesOn midnight s c.args.commands.now given c.args.commands.now)) (sym none)
          (lives_begin g.D.Disk g.met.D.Disk.seen_may_stay midnight s c.args.commands.now c.args.files reached leaves);
      count = ap length none;
      room = c.in_ok-replies.ensures.capacity;
    }

pub returns-clause-life : goal.returns-clause-life
returns-clause-life g c clean s reached leaves =
    lives_end g.D.Disk g.met.D.Disk.seen_may_stay (midnight_in (plain_zone c.args.zone.now)) s c.args.commands.now c.commands.files c.commands.replies.items (drop c.commands.command-index c.args.commands.now)
    (drop_of_length-le c.args.commands.now c.commands-test.false) (c.commands.invariant.life clean s reached leaves)
