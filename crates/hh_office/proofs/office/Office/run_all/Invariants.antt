use Rattle.std.proofs.Common.{◌≡◌, ◌≤◌, length, take}
use Rattle.std.specs.Prelude.{vec_capacity}
use Rattle.hh_office.specs.Promises.{RunAllStep}
use Rattle.hh_office.specs.Refusals.{CountsReplies, RepresentsSome}
use Rattle.hh_office.specs.Views.{IsSure}
use Rattle.hh_office.proofs.CrashLaws.{AreReplied}
use Rattle.hh_office.proofs.OnceLaws.{AreNamed}
use Rattle.hh_office.proofs.office.Office.run_all.Given as goal

-- the requests so far were answered, and there is room for the other replies
abbrev pub invariant-loop-request : goal.invariant-loop-request
invariant-loop-request g l = record {
  named : AreNamed (take l.request-index l.requests);
  run : IsSure g.T.Tables.is_open l.self → RunAllStep l.fn.self.seen l.self.seen (take l.request-index l.requests) l.replies.items;
  sure : IsSure g.T.Tables.is_open l.self → IsSure g.T.Tables.is_open l.fn.self;
  refusals_counted : IsSure g.T.Tables.is_open l.self → RepresentsSome l.fn.self.seen → CountsReplies l.replies.items (g.T.Tables.refusals l.fn.self.tables) (g.T.Tables.refusals l.self.tables);
  crash : g.T.Tables.is_honest l.self.tables → g.T.Tables.is_honest l.fn.self.tables × (IsSure g.T.Tables.is_open l.fn.self → AreReplied l.replies.items → IsSure g.T.Tables.is_open l.self);
  count : length l.replies.items ≡ l.request-index;
  room : length l.requests ≤ vec_capacity l.replies;
}
