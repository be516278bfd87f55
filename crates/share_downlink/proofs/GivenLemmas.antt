-- The part of the frames of a connection that is given, call by call.
use Rattle.std.proofs.Common.{◌≡◌, ◌<◌, ℕ, ◌+◌, Bool, List, [], ◌∷◌, ◌++◌, length, arith, refl, ◌∙◌, ap, sym, subst}
use Rattle.std.proofs.lemmas.List.{append_assoc, append-nil, length-append}
use Rattle.share_base.specs.declared.version.Version.TheVariants.{Two}
use Rattle.share_gateway.specs.Frames.{Framed, GivesFrame, framed_bytes}
use Rattle.share_model.proofs.lemmas.link.FrameLemmas.{length-frame}
use Rattle.share_model.proofs.lemmas.lists.FirstItemLemmas.{each-append, each-one}
use Rattle.share_model.specs.link.Frame.{FitsFrame, Packet, frame}
use Rattle.share_downlink.specs.Connection.{ComesMore, FirstGives, FirstNone, FirstOne}
use Rattle.share_downlink.specs.declared.connection.First.{First}
use Rattle.share_downlink.specs.declared.connection.First.TheVariants.{Given, Waits, More}
use Rattle.share_downlink.specs.Given.{CutsOff, Gives, GivesFrames, IncomingView, Passes, capped, counted, frame_size}
use Rattle.share_downlink.specs.Given.{no_packet, offset_after, packet}
use Rattle.share_downlink.specs.Steps.{GivesOne, Stays}
use Rattle.share_downlink.specs.declared.counts.Counts.{Counts}

framed-one : (packets : List Framed) (f : Framed)
    → framed_bytes (packets ++ f ∷ []) ≡ framed_bytes packets ++ frame Two f.tariff f.packet
framed-one [] f = append-nil (frame Two f.tariff f.packet)
framed-one (p ∷ packets) f =
    ap (λ (t : List ℕ). frame Two p.tariff p.packet ++ t) (framed-one packets f)
    ∙ sym (append_assoc (frame Two p.tariff p.packet) (framed_bytes packets) (frame Two f.tariff f.packet))

framed-more : (packets more : List Framed) → framed_bytes (packets ++ more) ≡ framed_bytes packets ++ framed_bytes more
framed-more [] more = refl
framed-more (p ∷ packets) more =
    ap (λ (t : List ℕ). frame Two p.tariff p.packet ++ t) (framed-more packets more)
    ∙ sym (append_assoc (frame Two p.tariff p.packet) (framed_bytes packets) (framed_bytes more))

offset-more : (offset : ℕ) (packets more : List Framed)
    → offset_after offset (packets ++ more) ≡ offset_after (offset_after offset packets) more
offset-more offset [] more = refl
offset-more offset (p ∷ packets) more = offset-more (capped (offset + frame_size p.packet.payload)) packets more

-- nothing was given
pub cuts_nothing : {T : Type 0} (delivers : T → ℕ → List ℕ → Bool → T → Type 0) (t u : T) (c d : Counts)
    (old new : IncomingView) → Stays t c old u d new → CutsOff delivers t c old u d new
cuts_nothing {T} delivers t u c d old new stays =
    subst (λ (x : T). CutsOff delivers t c old x d new) (sym stays.taker)
    (subst (λ (x : Counts). CutsOff delivers t c old t x new) (sym stays.counts)
    (subst (λ (x : IncomingView). CutsOff delivers t c old t c x) (sym stays.bytes)
    (record { packets = []; good = tt; given = no_packet; bytes = refl; offset = refl })))

-- the packet of one frame was given after others
pub cuts_one : {T : Type 0} (delivers : T → ℕ → List ℕ → Bool → T → Type 0) (t u v : T) (c d e : Counts)
    (old mid new : IncomingView) (flow seq tariff : ℕ) → CutsOff delivers t c old u d mid
    → GivesOne delivers u d mid flow seq tariff v e new → CutsOff delivers t c old v e new
cuts_one {T} delivers t u v c d e old mid new flow seq tariff cuts gives =
    let f : Framed = record {
      tariff = tariff;
      packet = record { flow = flow; seq = seq; payload = new.payload };
    } in
    subst (λ (x : Counts). CutsOff delivers t c old v x new) (sym gives.counts)
    (record {
      packets = cuts.packets ++ f ∷ [];
      good = each-append (λ (g : Framed). FitsFrame Two g.tariff g.packet) cuts.packets (f ∷ []) cuts.good
          (each-one (λ (g : Framed). FitsFrame Two g.tariff g.packet) f gives.gives.fits);
      given = packet cuts.packets u d cuts.given f gives.is_known v gives.delivered;
      bytes = cuts.bytes ∙ ap (λ (x : List ℕ). framed_bytes cuts.packets ++ x) gives.gives.bytes
          ∙ sym (append_assoc (framed_bytes cuts.packets) (frame Two f.tariff f.packet) new.bytes)
          ∙ ap (λ (x : List ℕ). x ++ new.bytes) (sym (framed-one cuts.packets f));
      offset = gives.offset ∙ ap (λ (x : ℕ). capped (x + frame_size new.payload)) cuts.offset
          ∙ sym (offset-more old.offset cuts.packets (f ∷ []));
    })

-- packets were given after others
gives_more : {T : Type 0} (delivers : T → ℕ → List ℕ → Bool → T → Type 0) (t u : T) (c d : Counts)
    (ps : List Framed) → Gives delivers t c ps u d → (v : T) (e : Counts) (qs : List Framed)
    → Gives delivers u d qs v e → Gives delivers t c (ps ++ qs) v e
gives_more {T} delivers t u c d ps first _ _ _ no_packet =
    subst (λ (x : List Framed). Gives delivers t c x u d) (sym (append-nil ps)) first
gives_more {T} delivers t u c d ps first _ _ _ (packet qs before b given f is_known after delivered) =
    subst (λ (x : List Framed). Gives delivers t c x after (counted is_known (frame_size f.packet.payload) b))
    (append_assoc ps qs (f ∷ []))
    (packet (ps ++ qs) before b (gives_more delivers t u c d ps first before b qs given) f is_known after delivered)

-- no byte came, and nothing was given
pub passes_nothing : {T : Type 0} (delivers : T → ℕ → List ℕ → Bool → T → Type 0) (t : T) (c : Counts)
    (i : IncomingView) → Passes delivers t c i t c i
passes_nothing {T} delivers t c i =
    record { came = []; packets = []; good = tt; given = no_packet; bytes = append-nil i.bytes; offset = refl }

-- packets were given of what was there then
pub passes_cut : {T : Type 0} (delivers : T → ℕ → List ℕ → Bool → T → Type 0) (t u v : T) (c d e : Counts)
    (i j k : IncomingView) → Passes delivers t c i u d j → CutsOff delivers u d j v e k → Passes delivers t c i v e k
passes_cut {T} delivers t u v c d e i j k passes cuts = record {
  came = passes.came;
  packets = passes.packets ++ cuts.packets;
  good = each-append (λ (g : Framed). FitsFrame Two g.tariff g.packet) passes.packets cuts.packets passes.good
      cuts.good;
  given = gives_more delivers t u c d passes.packets passes.given v e cuts.packets cuts.given;
  bytes = passes.bytes ∙ ap (λ (x : List ℕ). framed_bytes passes.packets ++ x) cuts.bytes
      ∙ sym (append_assoc (framed_bytes passes.packets) (framed_bytes cuts.packets) k.bytes)
      ∙ ap (λ (x : List ℕ). x ++ k.bytes) (sym (framed-more passes.packets cuts.packets));
  offset = cuts.offset ∙ ap (λ (x : ℕ). offset_after x cuts.packets) passes.offset
      ∙ sym (offset-more i.offset passes.packets cuts.packets);
}

-- bytes came after that
pub passes_come : {T : Type 0} (delivers : T → ℕ → List ℕ → Bool → T → Type 0) (t u : T) (c d : Counts)
    (i j k : IncomingView) → Passes delivers t c i u d j → ComesMore j k → Passes delivers t c i u d k
passes_come {T} delivers t u c d i j k passes comes = record {
  came = passes.came ++ comes.came;
  packets = passes.packets;
  good = passes.good;
  given = passes.given;
  bytes = sym (append_assoc i.bytes passes.came comes.came)
      ∙ ap (λ (x : List ℕ). x ++ comes.came) passes.bytes
      ∙ append_assoc (framed_bytes passes.packets) j.bytes comes.came
      ∙ ap (λ (x : List ℕ). framed_bytes passes.packets ++ x) (sym comes.bytes);
  offset = comes.offset ∙ passes.offset;
}

-- nothing changed after that
pub passes_same : {T : Type 0} (delivers : T → ℕ → List ℕ → Bool → T → Type 0) (t u : T) (c d : Counts)
    (i j k : IncomingView) → Passes delivers t c i u d j → k ≡ j → Passes delivers t c i u d k
passes_same {T} delivers t u c d i j k passes same =
    subst (λ (x : IncomingView). Passes delivers t c i u d x) (sym same) passes

-- ---- One frame after the other

pub stays_same : {T : Type 0} (t : T) (c : Counts) (i : IncomingView) → Stays t c i t c i
stays_same t c i = record { taker = refl; counts = refl; bytes = refl }

-- a frame that was given leaves fewer bytes
pub gives_less : {T : Type 0} (delivers : T → ℕ → List ℕ → Bool → T → Type 0) (t u : T) (c d : Counts)
    (old new : IncomingView) (flow seq tariff : ℕ) → GivesOne delivers t c old flow seq tariff u d new
    → length new.bytes < length old.bytes
gives_less {T} delivers t u c d old new flow seq tariff gives =
    let head : Packet = record { flow = flow; seq = seq; payload = new.payload } in
    let all = ap (λ (x : List ℕ). length x) gives.gives.bytes
    ∙ length-append (frame Two tariff head) new.bytes in
    let long = length-frame Two tariff head in
    omega (arith, all, long)

-- it takes its own bytes away
pub frame_left : (old new given payload : List ℕ) (flow seq tariff buffered : ℕ)
    → GivesFrame old tariff (record { flow = flow; seq = seq; payload = given }) new → payload ≡ given
    → buffered ≡ length old → buffered ≡ 17 + length payload + length new
frame_left old new given payload flow seq tariff buffered gives same buffered_is =
    let head : Packet = record { flow = flow; seq = seq; payload = given } in
    let all = ap (λ (x : List ℕ). length x) gives.bytes ∙ length-append (frame Two tariff head) new in
    let long = length-frame Two tariff head in
    let size = ap (λ (x : List ℕ). length x) same in
    omega (arith, all, long, size, buffered_is)

-- ---- The connections of a downlink

pub gives_none : {T : Type 0} (delivers : T → ℕ → List ℕ → Bool → T → Type 0) (t : T) (c : Counts)
    → GivesFrames delivers t c t c
gives_none {T} delivers t c = record { packets = []; good = tt; given = no_packet }

pub gives_then : {T : Type 0} (delivers : T → ℕ → List ℕ → Bool → T → Type 0) (t u v : T) (c d e : Counts)
    → GivesFrames delivers t c u d → GivesFrames delivers u d v e → GivesFrames delivers t c v e
gives_then {T} delivers t u v c d e first more = record {
  packets = first.packets ++ more.packets;
  good = each-append (λ (g : Framed). FitsFrame Two g.tariff g.packet) first.packets more.packets first.good more.good;
  given = gives_more delivers t u c d first.packets first.given v e more.packets more.given;
}

pub gives_same : {T : Type 0} (delivers : T → ℕ → List ℕ → Bool → T → Type 0) (t u v : T) (c d e : Counts)
    → GivesFrames delivers t c u d → v ≡ u → e ≡ d → GivesFrames delivers t c v e
gives_same {T} delivers t u v c d e gives same is =
    subst (λ (x : T). GivesFrames delivers t c x e) (sym same)
    (subst (λ (x : Counts). GivesFrames delivers t c u x) (sym is) gives)

one_gives : {T : Type 0} (delivers : T → ℕ → List ℕ → Bool → T → Type 0) (t u : T) (c d : Counts)
    (i j : IncomingView) → FirstOne delivers t c i u d j → GivesFrames delivers t c u d
one_gives {T} delivers t u c d i j one =
    let f : Framed = record {
      tariff = one.tariff;
      packet = record { flow = one.flow; seq = one.seq; payload = j.payload };
    } in
    subst (λ (x : Counts). GivesFrames delivers t c u x) (sym one.gives.counts)
    (record {
      packets = f ∷ [];
      good = each-one (λ (g : Framed). FitsFrame Two g.tariff g.packet) f one.gives.gives.fits;
      given = packet [] t c no_packet f one.gives.is_known u one.gives.delivered;
    })

none_gives : {T : Type 0} (delivers : T → ℕ → List ℕ → Bool → T → Type 0) (t u : T) (c d : Counts)
    (i j : IncomingView) → FirstNone t c i u d j → GivesFrames delivers t c u d
none_gives {T} delivers t u c d i j none =
    gives_same delivers t t u c c d (gives_none delivers t c) none.taker none.counts

pub first_gives : {T : Type 0} (delivers : T → ℕ → List ℕ → Bool → T → Type 0) (first : First) (t u : T)
    (c d : Counts) (i j : IncomingView) → FirstGives delivers t c i first u d j → GivesFrames delivers t c u d
first_gives {T} delivers Given t u c d i j gives = one_gives delivers t u c d i j gives
first_gives {T} delivers Waits t u c d i j gives = none_gives delivers t u c d i j gives
first_gives {T} delivers More t u c d i j gives = none_gives delivers t u c d i j gives
