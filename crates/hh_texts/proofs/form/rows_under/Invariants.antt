use Rattle.std.proofs.Common.{◌≡◌, ◌+◌, length}
use Rattle.hh_texts.specs.Records.{IsReading, left_of}
use Rattle.hh_texts.specs.Rows.{rows_from}
use Rattle.hh_texts.proofs.RowFacts.{behind}
use Rattle.hh_texts.proofs.form.rows_under.Given as goal

-- the rows so far, and those of the records that are left, are all the rows
abbrev pub invariant-loop-row : goal.invariant-loop-row
invariant-loop-row g l =
    let read = rows_from (length (g.F.Form.form l.form).header) (g.F.Form.form l.form).row in
    record {
      reading : IsReading l.reader;
      few : length l.rows.items + 1 ≡ l.row;
      same : behind l.rows.items (read l.row (left_of l.reader)) ≡ read 1 (left_of l.fn.reader);
    }
