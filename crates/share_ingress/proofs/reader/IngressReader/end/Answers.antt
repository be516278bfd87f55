use Rattle.std.proofs.Common.{Some}
use Rattle.share_ingress.proofs.ReaderLemmas.{stands_ended}
use Rattle.share_ingress.proofs.reader.IngressReader.end.Goals as goal

pub invariant_of-self : goal.invariant_of-self
invariant_of-self g c = (
  c.self.invariant.0,
  stands_ended g.R.TellingReader.gives g.R.TellingReader.left c.args.ended (record {
    reader = c.self.inside.reader;
    buffered = c.self.inside.buffered.items;
    reads_left = c.self.inside.reads_left;
    ended = c.self.inside.ended;
  }) (Some c.args.ended) (rw (← c.self.view_is) at c.requires),
)
