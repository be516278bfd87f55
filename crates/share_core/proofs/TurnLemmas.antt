-- The offer of a turn, and the effect of the answer.
use Rattle.std.proofs.Common.{◌≡◌, ◌∙◌, ◌++◌, ◌-◌, arith, ℕ, List, length, Option, Some, IfSome, sym, ap, subst, refl}
use Rattle.std.proofs.Common.{inl, inr}
use Rattle.share_base.specs.Body.{IsHeaderLength}
use Rattle.share_base.specs.Version.{header_length}
use Rattle.share_base.specs.declared.version.Version.{Version}
use Rattle.share_base.specs.declared.version.Version.TheVariants.{One, Two}
use Rattle.share_model.specs.declared.rates.Rate.{Rate}
use Rattle.share_model.specs.link.Buffers.{head_of}
use Rattle.share_model.specs.link.Live.{Live}
use Rattle.share_model.specs.link.Frame.{header, frame}
use Rattle.share_model.specs.link.Turns.{Sending, frame_of, sending}
use Rattle.share_model.specs.link.View.{LinkView}
use Rattle.share_model.proofs.lemmas.link.FrameLemmas.{length-header}
use Rattle.share_model.specs.run.Sound.{Sound}
use Rattle.share_model.proofs.lemmas.run.SoundLinkLemmas.{sending-head, sending-version, sending-length}
use Rattle.share_core.specs.declared.next_write.NextWrite.{NextWrite}
use Rattle.share_core.specs.NextWrite.{IsHeaderOf}
use Rattle.share_core.proofs.SentFrameLemmas.{IsSent}

-- a fact about the frame that is sent, by any write of it
pub for_sent : (l : Live) (due : NextWrite) (P : Sending → Type 0) (t : IsSent l due) → P t.frame → IfSome (sending l) P
for_sent l due P t h = subst (λ (o : Option Sending). IfSome o P) (sym t.is) h

pub of_sent : (l : Live) (due : NextWrite) (P : Sending → Type 0) (t : IsSent l due) → IfSome (sending l) P → P t.frame
of_sent l due P t h = subst (λ (o : Option Sending). IfSome o P) t.is h

-- the flow of the frame that is sent has a head packet, its own
pub sent_head : {life : ℕ} {rates : List Rate} (l : Live) (due : NextWrite) → Sound life rates l
    → (t : IsSent l due)
    → head_of l.buffers due.buffer.flow ≡ Some t.frame.head
sent_head l due sound t =
    subst (λ (p : NextWrite). head_of l.buffers p.buffer.flow ≡ Some t.frame.head) (sym t.due_is)
    (sending-head sound t.is)

-- The bytes before the payload of the frame that is sent

header_is : (k m : LinkView (Unit {0})) (due : NextWrite) (header : List ℕ) → k ≡ m → (t : IsSent k.live due)
    → IsHeaderOf (sending m.live) header → IsHeaderOf (Some t.frame) header
header_is k m due header same t is =
    subst (λ (o : Option Sending). IsHeaderOf o header)
    (ap (λ (k : LinkView (Unit {0})). sending k.live) (sym same) ∙ t.is) is

-- with the payload after them they are the frame
pub sent_bytes : (k m : LinkView (Unit {0})) (due : NextWrite) (header : List ℕ) → k ≡ m → (t : IsSent k.live due)
    → IsHeaderOf (sending m.live) header → header ++ t.frame.head.payload ≡ frame_of t.frame
unfolding frame
sent_bytes k m due header same t is =
    ap (λ (bytes : List ℕ). bytes ++ t.frame.head.payload) (header_is k m due header same t is)

long_by : (version : Version) → IsHeaderLength (header_length version)
long_by One = inl refl
long_by Two = inr refl

-- they are as many as a header has
pub header-long : (k m : LinkView (Unit {0})) (due : NextWrite) (header : List ℕ) → k ≡ m → (t : IsSent k.live due)
    → IsHeaderOf (sending m.live) header → IsHeaderLength (length header)
header-long k m due header same t is =
    subst IsHeaderLength
    (sym (ap length (header_is k m due header same t is)
    ∙ length-header t.frame.version t.frame.tariff t.frame.head.flow t.frame.head.seq (length t.frame.head.payload)))
    (long_by t.frame.version)

-- they are the header that the write gives
pub header-told : {life : ℕ} {rates : List Rate} (k m : LinkView (Unit {0})) (due : NextWrite) (bytes : List ℕ)
    (version : Version) (before : ℕ)
    → k ≡ m → Sound life rates k.live → (t : IsSent k.live due)
    → k.live.version ≡ version → before ≡ header_length k.live.version
    → bytes ≡ header version due.tariff due.buffer.flow due.seq (due.length - before)
    → IsHeaderOf (sending m.live) bytes
header-told k m due bytes version before same sound t chosen long is =
    let v : Version = k.live.version in
    let payload : length (frame_of t.frame) - header_length v ≡ length t.frame.head.payload =
    omega (arith, sending-length sound t.is) in
    let own : bytes
    ≡ header t.frame.version t.frame.tariff t.frame.head.flow t.frame.head.seq (length t.frame.head.payload) =
    is ∙ ap (λ (v : Version). header v due.tariff due.buffer.flow due.seq (due.length - before)) (sym chosen)
    ∙ ap (λ n. header v due.tariff due.buffer.flow due.seq (due.length - n)) long
    ∙ ap (λ (p : NextWrite). header v p.tariff p.buffer.flow p.seq (p.length - header_length v)) t.due_is
    ∙ ap (header v t.frame.tariff t.frame.head.flow t.frame.head.seq) payload
    ∙ ap (λ (v : Version). header v t.frame.tariff t.frame.head.flow t.frame.head.seq (length t.frame.head.payload))
    (sym (sending-version sound t.is)) in
    subst (λ (o : Option Sending). IsHeaderOf o bytes)
    (sym (ap (λ (k : LinkView (Unit {0})). sending k.live) (sym same) ∙ t.is)) own
