use Rattle.share_ingress.specs.Reader.{EndStands}
use Rattle.share_ingress.proofs.ReaderLemmas.{some_known}
use Rattle.share_ingress.proofs.reader.IngressReader.next.Goals as goal

pub returns-in-Some-clause-reason : goal.returns-in-Some-clause-reason
returns-in-Some-clause-reason g c =
    rw (← c.self.view_is)
    (some_known _ _ (λ e. EndStands g.R.TellingReader.gives (record {
      reader = c.self.inside.reader;
      buffered = c.self.inside.buffered.items;
      reads_left = c.self.inside.reads_left;
      ended = c.self.inside.ended;
    }) e) c.in-Some.is c.self.invariant.1)
