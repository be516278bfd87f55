use Rattle.share_text.proofs.ReadingLemmas.{reads-spelled, reads-refused}
use Rattle.share_text.proofs.reading.read_line.Goals as goal

pub returns-clause-spelled : goal.returns-clause-spelled
returns-clause-spelled c =
    reads-spelled c.args.version c.args.bytes.now c.read_bytes.result c.read_bytes.ensures

pub returns-clause-refused : goal.returns-clause-refused
returns-clause-refused c =
    reads-refused c.args.version c.args.bytes.now c.read_bytes.result c.read_bytes.ensures
