use Rattle.csv.specs.Records.{fields_of}
use Rattle.hh_texts.proofs.RecordFacts.{left_of-read}
use Rattle.hh_texts.proofs.records.next_record.Goals as goal

pub returns-clause-record : goal.returns-clause-record
returns-clause-record c =
    left_of-read c.args.reader.now c.read_byte_record.new.self c.in-Ok.found (fields_of c.read_byte_record.new.row) c.requires
    (c.in-Ok.ensures.reads c.requires.trim c.requires.ready)
