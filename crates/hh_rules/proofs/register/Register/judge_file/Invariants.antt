use Rattle.std.proofs.Common.{◌≡◌, ◌+◌, length}
use Rattle.hh_rules.specs.steps.RegisterView.{IsKeptIn}
use Rattle.hh_rules.proofs.FileLaws.{AreJudgedBut}
use Rattle.hh_rules.proofs.register.Register.judge_file.Given as goal

-- the rows so far are judged, each counts once, and the kept Settlement Day is one of the zone
abbrev pub invariant-loop-index : goal.invariant-loop-index
invariant-loop-index l = record {
  judged : AreJudgedBut l.zone l.fn.self l.moment l.rows l.index l.self l.file;
  count : length l.file.rows + l.file.late ≡ l.index;
  kept : IsKeptIn l.zone l.last.day;
}
