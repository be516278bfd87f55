use Rattle.share_frame.specs.declared.reading.FrameRead2.TheVariants.{Frame, More, Bad}
use Rattle.share_frame.proofs.UniqueAnswerLemmas.{read-exact2}
use Rattle.share_frame.proofs.reading.read_frame2.Goals as goal

pub returns-clause-frame : goal.returns-clause-frame
returns-clause-frame c = λ flow seq tariff len.
    read-exact2 c.args.bytes.now c.read.result (Frame flow seq tariff len) c.read.ensures

pub returns-clause-more : goal.returns-clause-more
returns-clause-more c = read-exact2 c.args.bytes.now c.read.result More c.read.ensures

pub returns-clause-bad : goal.returns-clause-bad
returns-clause-bad c = λ place. read-exact2 c.args.bytes.now c.read.result (Bad place) c.read.ensures
