use Rattle.std.proofs.Common.{◌∙◌, ◌≡◌, ◌++◌, List, ℕ, IfSome, take, drop, subst, sym}
use Rattle.share_model.specs.io.Told.{Fits}
use Rattle.share_model.specs.link.Buffers.{head_of}
use Rattle.share_core.proofs.PayloadLemmas.{stands_in, busy_in, busy_headed, framed_seen, none_stamped, out_within}
use Rattle.share_core.proofs.PayloadLemmas.{of_framed}
use Rattle.share_core.proofs.payload_buffers.PayloadBuffers.offer_at.Goals as goal

pub stamp_at-requires-clause-there : goal.stamp_at-requires-clause-there
stamp_at-requires-clause-there g c =
    stands_in c.self.inside.buffers c.args.self.now c.self.view_is c.args.handle.now c.requires.there

pub stamp_at-requires-clause-busy : goal.stamp_at-requires-clause-busy
stamp_at-requires-clause-busy g c =
    sym (busy_in c.self.inside.buffers c.args.self.now c.self.view_is c.args.handle.now.flow)
    ∙ busy_headed c.args.self.now c.args.handle.now.flow c.requires.head

pub unreachable-requires : goal.unreachable-requires
unreachable-requires g c =
    none_stamped c.stamp_at.new.self c.args.self.now c.args.handle.now.flow
    (c.stamp_at.ensures.payloads ∙ c.self.view_is) c.requires.head c.in-None.ensures

pub offer-requires : goal.offer-requires
offer-requires g c =
    let flow = c.args.handle.now.flow in
    let framed : IfSome (head_of c.args.self.now flow) (λ h. c.framed_in.result.now ≡ c.args.header.now ++ h.payload) =
    subst (λ (bytes : List ℕ). IfSome (head_of c.args.self.now flow) (λ h. bytes ≡ c.args.header.now ++ h.payload))
    (sym c.framed_in.ensures)
    (framed_seen c.self.inside.buffers c.stamp_at.new.self c.args.self.now c.self.view_is flow _
    c.in-Some.body.now c.args.header.now c.stamp_at.ensures.after c.in-Some.ensures) in
    out_within (head_of c.args.self.now flow) c.args.header.now c.framed_in.result.now c.args.out c.requires.head framed
    c.requires.within

pub returns-clause-answered : goal.returns-clause-answered
returns-clause-answered g c =
    let flow = c.args.handle.now.flow in
    let framed : IfSome (head_of c.args.self.now flow) (λ h. c.framed_in.result.now ≡ c.args.header.now ++ h.payload) =
    subst (λ (bytes : List ℕ). IfSome (head_of c.args.self.now flow) (λ h. bytes ≡ c.args.header.now ++ h.payload))
    (sym c.framed_in.ensures)
    (framed_seen c.self.inside.buffers c.stamp_at.new.self c.args.self.now c.self.view_is flow _
    c.in-Some.body.now c.args.header.now c.stamp_at.ensures.after c.in-Some.ensures) in
    of_framed (head_of c.args.self.now flow) c.args.header.now c.framed_in.result.now
    (λ (bytes : List ℕ). g.W.TellingWriter.answers c.args.writer.now (take c.args.most (drop c.args.out bytes))
    c.offer.result c.offer.new.writer × Fits (take c.args.most (drop c.args.out bytes)) c.offer.result)
    framed (c.offer.ensures.answered, c.offer.ensures.fits)
