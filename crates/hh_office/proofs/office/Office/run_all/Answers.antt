use Rattle.std.proofs.Common.{◌≡◌, ◌+◌, ◌∷◌, [], ◌++◌, length, take, subst, sym, ap, ◌∙◌, cond, arith, length-append}
use Rattle.std.proofs.lemmas.List.{take_more}
use Rattle.hh_office.specs.Promises.{RunAllStep}
use Rattle.hh_office.specs.Refusals.{CountsReplies}
use Rattle.hh_office.proofs.RefusalLaws.{counts_more}
use Rattle.hh_office.proofs.HandleLaws.{conserves_after_all, represents_after_all, represents_some}
use Rattle.hh_office.proofs.CrashLaws.{AreReplied, behind_reply, crash_after_all, replied_before}
use Rattle.hh_office.proofs.ListLaws.{all_named, run_more, run_to_the_end}
use Rattle.hh_office.proofs.OnceLaws.{AreNamed, named_more}
use Rattle.hh_office.proofs.office.Office.run_all.Goals as goal

pub loop-request-preserved : goal.loop-request-preserved
loop-request-preserved g c =
    let old = c.args.self.now.seen in
    let i = c.loop-request.request-index in
    let requests = c.args.requests.now in
    let t = c.request-item.result in
    let before = c.loop-request.replies.items in
    let pushed = c.push-pushed.ensures.items ∙ ap (λ b. cond b (before ++ c.handle_timed.result ∷ []) before) (sym c.if-prove.ensures.value) in
    let front : take (i + 1) requests ≡ take i requests ++ t ∷ [] = take_more requests i t (omega arith) ∙ ap (λ x. take i requests ++ x ∷ []) (sym c.request-item.is) in
    let room = c.loop-request.invariant.room in
    let kept = c.push-pushed.ensures.capacity in
    record {
      named = subst AreNamed (sym front) (named_more (take i requests) t c.loop-request.invariant.named c.handle_timed.ensures.named);
      run = λ sure. subst (λ ts. RunAllStep old c.handle_timed.new.self.seen ts c.push-pushed.new.self.items) (sym front)
          (subst (RunAllStep old c.handle_timed.new.self.seen (take i requests ++ t ∷ [])) (sym pushed)
          (run_more old c.loop-request.self.seen c.handle_timed.new.self.seen (take i requests) before t c.handle_timed.result c.loop-request.invariant.named (c.loop-request.invariant.run (c.handle_timed.ensures.sure sure)) (c.handle_timed.ensures.makes sure)));
      sure = λ sure. c.loop-request.invariant.sure (c.handle_timed.ensures.sure sure);
      refusals_counted = λ sure some.
          let standing = c.handle_timed.ensures.sure sure in
          let ran = c.loop-request.invariant.run standing in
          let first = g.T.Tables.refusals c.args.self.now.tables in
          let last = g.T.Tables.refusals c.handle_timed.new.self.tables in
          subst (λ given. CountsReplies given first last) (sym pushed)
          (counts_more before c.handle_timed.result first (g.T.Tables.refusals c.loop-request.self.tables) last (c.loop-request.invariant.refusals_counted standing some)
          (c.handle_timed.ensures.refusals_counted sure (represents_some old c.loop-request.self.seen (take i requests) before c.loop-request.invariant.named ran some)));
      crash = λ honest.
          let last = c.handle_timed.ensures.crash honest in
          let before_it = c.loop-request.invariant.crash last.0 in (
            before_it.0,
            λ stood all.
                let replied = replied_before before c.handle_timed.result (subst AreReplied pushed all) in
                behind_reply c.handle_timed.result _ replied.1 (last.1 (before_it.1 stood replied.0)).0,
          );
      count = ap length pushed ∙ length-append before (c.handle_timed.result ∷ []) ∙ ap (λ n. n + 1) c.loop-request.invariant.count;
      room = omega arith;
    }

pub returns-clause-represents : goal.returns-clause-represents
returns-clause-represents g c sure =
    let i = c.loop-request.request-index in
    let end : i ≡ length c.args.requests.now = omega arith in
    let run : RunAllStep c.args.self.now.seen c.loop-request.self.seen c.args.requests.now c.loop-request.replies.items =
    run_to_the_end c.args.self.now.seen c.loop-request.self.seen c.args.requests.now c.loop-request.replies.items i end (c.loop-request.invariant.run sure) in
    represents_after_all c.args.self.now.seen c.loop-request.self.seen c.args.requests.now c.loop-request.replies.items (all_named c.args.requests.now i end c.loop-request.invariant.named) run

pub returns-clause-sums : goal.returns-clause-sums
returns-clause-sums g c sure =
    let i = c.loop-request.request-index in
    let end : i ≡ length c.args.requests.now = omega arith in
    let run : RunAllStep c.args.self.now.seen c.loop-request.self.seen c.args.requests.now c.loop-request.replies.items =
    run_to_the_end c.args.self.now.seen c.loop-request.self.seen c.args.requests.now c.loop-request.replies.items i end (c.loop-request.invariant.run sure) in
    conserves_after_all c.reached_conserve.ensures c.args.self.now.seen c.loop-request.self.seen c.args.requests.now c.loop-request.replies.items (all_named c.args.requests.now i end c.loop-request.invariant.named) run

pub returns-clause-left : goal.returns-clause-left
returns-clause-left g c =
    let i = c.loop-request.request-index in
    let end : i ≡ length c.args.requests.now = omega arith in
    crash_after_all g.T.Tables.is_honest g.T.Tables.is_open g.T.Tables.may_leave g.T.Tables.holds c.args.self.now c.loop-request.self c.shows_left.ensures c.args.requests.now c.loop-request.replies.items
    (λ honest stood all. (c.loop-request.invariant.crash honest).1 stood all)
    (λ sure. run_to_the_end c.args.self.now.seen c.loop-request.self.seen c.args.requests.now c.loop-request.replies.items i end (c.loop-request.invariant.run sure))
