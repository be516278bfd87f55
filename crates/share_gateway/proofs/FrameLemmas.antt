-- Frames that are cut out of a stream.
use Rattle.std.proofs.Common.{◌≡◌, ◌↔◌, ℕ, ◌+◌, ◌-◌, ◌<◌, ◌≤◌, List, [], ◌∷◌, ◌++◌, length, take, drop, min}
use Rattle.std.proofs.Common.{arith, refl, sym, ap, ◌∙◌, subst}
use Rattle.std.proofs.lemmas.List.{append_assoc, append-nil, take_at, drop_at, length-append, length-take}
use Rattle.share_base.specs.declared.version.Version.TheVariants.{Two}
use Rattle.share_frame.specs.Reading.{BeginsWithFrame}
use Rattle.share_frame.specs.declared.reading.FrameRead2.{FrameRead2}
use Rattle.share_frame.specs.declared.reading.FrameRead2.TheVariants.{Frame}
use Rattle.share_model.proofs.lemmas.link.FrameLemmas.{length-header, length-frame, frame_length-few, frame-prefix}
use Rattle.share_model.proofs.lemmas.lists.FirstItemLemmas.{each-append, each-one}
use Rattle.share_model.specs.link.Frame.{FitsFrame, header, frame}
use Rattle.share_model.specs.lists.Each.{Each}
use Rattle.share_model.specs.run.History.{IsBeginning}
use Rattle.share_gateway.specs.Frames.{GivesFrame, Framed, framed_bytes, AreFrames, NoFrame, Reads, began, fed, given}

pub part_short : (bytes : List ℕ) → IsBeginning Two bytes → length bytes < 9017
part_short bytes b =
    let all = length-frame Two b.tariff b.head in
    let few = frame_length-few Two b.head b.fits.payload in
    let long : length bytes ≡ min b.at (length (frame Two b.tariff b.head)) =
    ap (λ t. length t) b.is ∙ length-take b.at (frame Two b.tariff b.head) in
    omega (arith, b.few, all, few, long)

-- the frame in front is within the bytes
pub frame_fits : (bytes slice : List ℕ) (flow seq tariff len size : ℕ) → slice ≡ bytes → size ≡ len
    → BeginsWithFrame Two flow seq tariff len slice → (17 ≤ 17 + size) × (17 + size ≤ length bytes)
frame_fits bytes slice flow seq tariff len size slice_is size_is b =
    let all = ap (λ t. length t) (sym slice_is ∙ b.is) ∙ length-append (frame Two tariff b.head) b.rest in
    let long = length-frame Two tariff b.head in
    (omega arith, omega (arith, all, long, b.len_is, size_is))

frame_is : (slice : List ℕ) (flow seq tariff len : ℕ) → (b : BeginsWithFrame Two flow seq tariff len slice)
    → (take len (drop 17 slice) ≡ b.head.payload) × (drop (17 + len) slice ≡ b.rest)
unfolding frame
frame_is slice flow seq tariff len b =
    let front = header Two tariff b.head.flow b.head.seq (length b.head.payload) in
    let long : length front ≡ 17 = length-header Two tariff b.head.flow b.head.seq (length b.head.payload) in
    let after : drop 17 slice ≡ b.head.payload ++ b.rest =
    ap (λ t. drop 17 t) (b.is ∙ append_assoc front b.head.payload b.rest)
    ∙ drop_at front (b.head.payload ++ b.rest) 17 long in
    let all : length (front ++ b.head.payload) ≡ 17 + len =
    omega (arith, length-append front b.head.payload, long, b.len_is) in (
      ap (λ t. take len t) after ∙ take_at b.head.payload b.rest len b.len_is,
      ap (λ t. drop (17 + len) t) b.is ∙ drop_at (front ++ b.head.payload) b.rest (17 + len) all,
    )

pub gives_frame : (bytes slice payload rest : List ℕ) (flow seq tariff len size : ℕ) → slice ≡ bytes → size ≡ len
    → BeginsWithFrame Two flow seq tariff len slice
    → payload ≡ take (17 + size - 17) (drop 17 bytes) → rest ≡ drop (17 + size) bytes
    → GivesFrame bytes tariff (record { flow = flow; seq = seq; payload = payload }) rest
gives_frame bytes slice payload rest flow seq tariff len size slice_is size_is b payload_is rest_is =
    let parts = frame_is slice flow seq tariff len b in
    let same : 17 + size - 17 ≡ len = omega (arith, size_is) in
    let given : payload ≡ b.head.payload =
    payload_is ∙ (λ k. take (same k) (drop 17 (sym slice_is k))) ∙ parts.0 in
    let left : rest ≡ b.rest = rest_is ∙ (λ k. drop (17 + size_is k) (sym slice_is k)) ∙ parts.1 in
    let packet : b.head ≡ record { flow = flow; seq = seq; payload = payload } =
    (λ k. record { flow = b.flow_is k; seq = b.seq_is k; payload = sym given k }) in
    record {
      fits = subst (λ h. FitsFrame Two tariff h) packet b.fits;
      bytes = sym slice_is ∙ b.is ∙ (λ k. frame Two tariff (packet k) ++ sym left k);
    }

framed_bytes-one : (packets : List Framed) (f : Framed)
    → framed_bytes (packets ++ f ∷ []) ≡ framed_bytes packets ++ frame Two f.tariff f.packet
framed_bytes-one [] f = append-nil (frame Two f.tariff f.packet)
framed_bytes-one (p ∷ packets) f =
    ap (λ t. frame Two p.tariff p.packet ++ t) (framed_bytes-one packets f)
    ∙ sym (append_assoc (frame Two p.tariff p.packet) (framed_bytes packets) (frame Two f.tariff f.packet))

pub frames_are : (stream : List ℕ) (packets : List Framed) (bytes : List ℕ) → Reads stream packets bytes
    → AreFrames stream packets bytes
frames_are _ _ _ began = record { good = tt; bytes = refl }
frames_are _ _ _ (fed stream packets bytes reads piece) =
    let f = frames_are stream packets bytes reads in
    record {
      good = f.good;
      bytes = ap (λ t. t ++ piece) f.bytes ∙ append_assoc (framed_bytes packets) bytes piece;
    }
frames_are _ _ _ (given stream packets bytes reads tariff packet rest gives) =
    let f = frames_are stream packets bytes reads in
    let last : Framed = record { tariff = tariff; packet = packet } in
    record {
      good = each-append (λ (g : Framed). FitsFrame Two g.tariff g.packet) packets (last ∷ []) f.good
          (each-one (λ (g : Framed). FitsFrame Two g.tariff g.packet) last gives.fits);
      bytes = f.bytes ∙ ap (λ t. framed_bytes packets ++ t) gives.bytes
          ∙ sym (append_assoc (framed_bytes packets) (frame Two tariff packet) rest)
          ∙ ap (λ t. t ++ rest) (sym (framed_bytes-one packets last));
    }

-- One reading

begins : (bytes : List ℕ) (f : Framed) (rest : List ℕ) → FitsFrame Two f.tariff f.packet
    → bytes ≡ frame Two f.tariff f.packet ++ rest
    → BeginsWithFrame Two f.packet.flow f.packet.seq f.tariff (length f.packet.payload) bytes
begins bytes f rest fits is =
    record { head = f.packet; fits = fits; flow_is = refl; seq_is = refl; len_is = refl; rest = rest; is = is }

-- packets that stand in front of others
abbrev MoreThan : List Framed → List Framed → Type 0
MoreThan packets all = (more : List Framed) × (all ≡ packets ++ more)

first_by : (packets : List Framed) (bytes : List ℕ) (all : List Framed) (rest : List ℕ)
    → Each (λ (f : Framed). FitsFrame Two f.tariff f.packet) packets
    → Each (λ (f : Framed). FitsFrame Two f.tariff f.packet) all
    → framed_bytes packets ++ bytes ≡ framed_bytes all ++ rest → NoFrame rest → MoreThan packets all
first_by [] bytes all rest good goods same none = (all, refl)
first_by (p ∷ packets) bytes [] rest good goods same none =
    let is : rest ≡ frame Two p.tariff p.packet ++ (framed_bytes packets ++ bytes) =
    sym same ∙ append_assoc (frame Two p.tariff p.packet) (framed_bytes packets) bytes in
    absurd (none _ _ _ _ (begins rest p (framed_bytes packets ++ bytes) good.0 is))
first_by (p ∷ packets) bytes (q ∷ all) rest good goods same none =
    let heads = frame-prefix Two p.tariff q.tariff p.packet q.packet (framed_bytes packets ++ bytes)
    (framed_bytes all ++ rest) good.0 goods.0
    (sym (append_assoc (frame Two p.tariff p.packet) (framed_bytes packets) bytes) ∙ same
    ∙ append_assoc (frame Two q.tariff q.packet) (framed_bytes all) rest) in
    let more = first_by packets bytes all rest good.1 goods.1 heads.rest none in
    let one : p ≡ q = (λ k. record { tariff = heads.tariff refl k; packet = heads.head k }) in
    (more.0, (λ k. sym one k ∷ more.1 k))

pub first_are : (stream : List ℕ) (packets : List Framed) (bytes : List ℕ) (all : List Framed) (rest : List ℕ)
    → Reads stream packets bytes → AreFrames stream all rest → NoFrame rest
    → (more : List Framed) × (all ≡ packets ++ more)
first_are stream packets bytes all rest reads others none =
    let f = frames_are stream packets bytes reads in
    first_by packets bytes all rest f.good others.good (sym f.bytes ∙ others.bytes) none

-- bytes that are read as something else begin with no frame
pub reads_none : (bytes slice : List ℕ) (r : FrameRead2) → slice ≡ bytes
    → ((flow seq tariff len : ℕ) → (r ≡ Frame flow seq tariff len) ↔ BeginsWithFrame Two flow seq tariff len slice)
    → ((flow seq tariff len : ℕ) → r ≡ Frame flow seq tariff len → ⊥) → NoFrame bytes
reads_none bytes slice r is exact other =
    λ flow seq tariff len b.
    other flow seq tariff len
    ((exact flow seq tariff len).1 (subst (λ t. BeginsWithFrame Two flow seq tariff len t) (sym is) b))
