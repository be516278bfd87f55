use Rattle.share_ingress.specs.Reader.{ReadsOn}
use Rattle.share_ingress.proofs.reader.IngressReader.read_on.Given as goal

abbrev pub invariant-record : goal.invariant-record
invariant-record g l = ReadsOn g.R.TellingReader.gives g.R.TellingReader.left l.initial.self l.self

abbrev pub decreases-record : goal.decreases-record
decreases-record g l = l.self.reads_left
