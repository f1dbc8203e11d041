use Rattle.hh_texts.proofs.FileLaws.{read_fits}
use Rattle.hh_texts.proofs.files.read_file.Goals as goal

pub returns-clause-rows : goal.returns-clause-rows
returns-clause-rows c = rw c.forms_of.ensures at c.read_rows.ensures.rows

pub returns-clause-fits : goal.returns-clause-fits
returns-clause-fits c = read_fits c.args.kind c.args.bytes.now c.read_rows.result (rw c.forms_of.ensures at c.read_rows.ensures.rows)
