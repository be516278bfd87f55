use Rattle.std.proofs.Common.{refl, ap, ◌∙◌}
use Rattle.share_ingress.specs.Reader.{Reading}
use Rattle.share_ingress.proofs.GateLemmas.{waits_none, waits_more, drops, refused_more}
use Rattle.share_ingress.proofs.workers.put.Goals as goal

pub loop-init : goal.loop-init
loop-init g c = record { end = refl; reader = refl; parcel = refl; gate = waits_none _ _ _ _ }

pub loop-preserved : goal.loop-preserved
loop-preserved g c = record {
  end = refused_more c.args.end.now c.loop.end c.offer.new.self c.loop.invariant.end c.in-Full.ensures.1;
  reader = c.if-not-turn.ensures.0
      ∙ ap (λ (r : Reading _). record r { reads_left = c.turn.new.self.reads_left }) c.loop.invariant.reader;
  parcel = c.in-Full.ensures.0 ∙ c.loop.invariant.parcel;
  gate = waits_more _ _ _ _ _ _ _ _ _ c.loop.invariant.end c.loop.invariant.gate c.in-Full.ensures.1 _
      c.if-not-full.ensures c.if-not-turn.ensures.1;
}

pub returns-then-not-full-clause-gate : goal.returns-then-not-full-clause-gate
returns-then-not-full-clause-gate g c =
    drops _ _ _ _ _ _ _ _ _ c.loop.invariant.end c.loop.invariant.gate c.in-Full.ensures.1 _ _ _ refl
    c.if-not-full.ensures refl

pub returns-then-not-turn-clause-gate : goal.returns-then-not-turn-clause-gate
returns-then-not-turn-clause-gate g c =
    drops _ _ _ _ _ _ _ _ _ c.loop.invariant.end c.loop.invariant.gate c.in-Full.ensures.1 _ _ _
    (ap (λ (r : Reading _). r.reads_left) c.if-not-turn.ensures.0) c.if-not-full.ensures (refl, c.if-not-turn.ensures.1)
