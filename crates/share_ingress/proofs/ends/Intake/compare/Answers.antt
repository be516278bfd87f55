use Rattle.std.proofs.Common.{refl}
use Rattle.crossbeam_queue.specs.Passes.{view}
use Rattle.share_model.specs.ingress.Queue.{a_host}
use Rattle.share_ingress.proofs.JoinLemmas.{lays, compares, parts, front_of}
use Rattle.share_ingress.proofs.ends.Intake.compare.Goals as goal

pub beside-token-requires-clause-joins : goal.beside-token-requires-clause-joins
beside-token-requires-clause-joins c =
    lays _ (view c.self.inside.token.pass) _ _ _ _ _ _ _ _ c.self.invariant.1 c.end.invariant.1 _

pub beside-token-requires-clause-learns : goal.beside-token-requires-clause-learns
beside-token-requires-clause-learns c = compares _ _ _ _ _ _ _ _ _ _ c.self.invariant.1 c.end.invariant.1 refl

pub beside-token-requires-clause-parts : goal.beside-token-requires-clause-parts
beside-token-requires-clause-parts c = parts _ _ _ _ _ _ _ _ _ _ c.self.invariant.1 c.end.invariant.1 refl

pub returns-clause-front : goal.returns-clause-front
returns-clause-front c =
    let intake = view c.self.inside.token.pass in
    let end = view c.end.inside.token.pass in
    rw (← c.self.view_is, ← c.end.view_is)
    (front_of (a_host intake end) intake end _ c.beside-token.ensures.learned.0 refl c.end.invariant.1
    c.beside-token.ensures.learned.1)
