use Rattle.std.proofs.Common.{◌≤◌, ◌++◌, ℕ, List, Option, IsSome, IfSome, length, take, drop, ap, refl}
use Rattle.std.proofs.Common.{subst, sym, arith}
use Rattle.share_model.specs.io.Told.{Fits}
use Rattle.share_model.specs.link.Frame.{Packet}
use Rattle.share_model.specs.link.Turns.{Sending, sending, rest_of, frame_of}
use Rattle.share_model.specs.link.View.{LinkView}
use Rattle.share_model.proofs.lemmas.run.SoundLinkLemmas.{sending-few}
use Rattle.share_core.specs.declared.next_write.NextWrite.{NextWrite}
use Rattle.share_core.proofs.TurnLemmas.{for_sent, sent_head, sent_bytes, header-long}
use Rattle.share_core.proofs.SentFrameLemmas.{sent}
use Rattle.share_core.proofs.link.Link.offer_under.Goals as goal

pub offer_at-requires-clause-head : goal.offer_at-requires-clause-head
offer_at-requires-clause-head g c =
    let t = sent _ _ c.args.due.now c.self.view_is c.requires.due in
    subst IsSome (sym (sent_head _ c.args.due.now c.self.invariant.1 t)) refl

pub offer_at-requires-clause-header : goal.offer_at-requires-clause-header
offer_at-requires-clause-header g c =
    let t = sent _ _ c.args.due.now c.self.view_is c.requires.due in
    header-long _ _ c.args.due.now c.args.header.now c.self.view_is t c.requires.header

pub offer_at-requires-clause-within : goal.offer_at-requires-clause-within
offer_at-requires-clause-within g c =
    let t = sent _ _ c.args.due.now c.self.view_is c.requires.due in
    let few = sending-few c.self.invariant.1 t.is in
    let out = ap (λ (p : NextWrite). p.out) t.due_is in
    let bytes = sent_bytes _ _ c.args.due.now c.args.header.now c.self.view_is t c.requires.header in
    let within : c.args.due.now.out ≤ length (c.args.header.now ++ t.frame.head.payload) =
    omega (arith, few, out, ap length bytes) in
    subst (λ (o : Option Packet). IfSome o (λ h. c.args.due.now.out ≤ length (c.args.header.now ++ h.payload)))
    (sym (sent_head _ c.args.due.now c.self.invariant.1 t)) within

pub returns-clause-answered : goal.returns-clause-answered
returns-clause-answered g c =
    let t = sent _ _ c.args.due.now c.self.view_is c.requires.due in
    let head = sent_head _ c.args.due.now c.self.invariant.1 t in
    let Q : List ℕ → Type 0 = λ bytes. g.W.TellingWriter.answers c.args.writer.now bytes c.offer_at.result
    c.offer_at.new.writer × Fits bytes c.offer_at.result in
    let offered : Q (take c.args.most (drop c.args.due.now.out (c.args.header.now ++ t.frame.head.payload))) =
    subst (λ (o : Option Packet). IfSome o (λ h. Q (take c.args.most
    (drop c.args.due.now.out (c.args.header.now ++ h.payload))))) head c.offer_at.ensures.answered in
    let framed : Q (take c.args.most (drop c.args.due.now.out (frame_of t.frame))) =
    subst (λ (bytes : List ℕ). Q (take c.args.most (drop c.args.due.now.out bytes)))
    (sent_bytes _ _ c.args.due.now c.args.header.now c.self.view_is t c.requires.header) offered in
    let rest : Q (take c.args.most (rest_of t.frame)) =
    subst (λ (n : ℕ). Q (take c.args.most (drop n (frame_of t.frame)))) (ap (λ (p : NextWrite). p.out) t.due_is)
    framed in
    subst (λ (k : LinkView (Unit {0})). IfSome (sending k.live) (λ s. Q (take c.args.most (rest_of s))))
    c.self.view_is
    (for_sent _ c.args.due.now (λ (s : Sending). Q (take c.args.most (rest_of s))) t rest)
