-- Laws of the histories of runs: the bytes determine the packets.
use Rattle.std.specs.Prelude.{◌≡◌, ◌<◌, ◌≤◌, ◌+◌, ◌-◌, ◌^◌, ℕ, suc, List, [], ◌∷◌, ◌++◌, length, drop}
use Rattle.std.specs.Prelude.{min, take, get_or, Option, None, Some, option_and_then}
use Rattle.std.proofs.Common.{refl, ap, sym, ◌∙◌, subst, arith, append_assoc, length-append, length-take}
use Rattle.std.proofs.lemmas.List.{append-nil, take-append-drop, get_or-take}
use Rattle.std.proofs.lemmas.Option.{same_Some}
use Rattle.share_base.specs.declared.version.Version.{Version}
use Rattle.share_base.specs.declared.version.Version.TheVariants.{One, Two}
use Rattle.share_model.specs.declared.rates.Rate.{Rate}
use Rattle.share_base.specs.declared.command.Event.{Event}
use Rattle.share_model.specs.link.Fields.{IsBody}
use Rattle.share_model.specs.link.Tariff.{AreInRange}
use Rattle.share_model.specs.link.Frame.{Packet, FitsFrame, FitsTariff, FitsSeq, frame, frame_length, version_byte}
use Rattle.share_model.proofs.lemmas.link.FrameLemmas.{length-frame, header_length-some, frame-prefix}
use Rattle.share_model.proofs.lemmas.link.FrameLemmas.{frame-version_byte}
use Rattle.share_model.specs.link.Buffers.{Buffer, buffer_of, is_buffer_of, head_in, head_of_buffer, head_of}
use Rattle.share_model.proofs.lemmas.link.BufferLemmas.{head_in_flow}
use Rattle.share_model.specs.link.Live.{Live}
use Rattle.share_model.specs.link.Turns.{Sending, frame_of, frame_in_part}
use Rattle.share_model.specs.run.Fold.{Sent, TornFrame, State, empty_state, run}
use Rattle.share_model.specs.run.Fold.{sent_frame, beginning, out}
use Rattle.share_model.specs.run.Events.{MayFollow}
use Rattle.share_model.specs.lists.Each.{Each}
use Rattle.share_model.specs.run.Sound.{IsSoundBuffer, Sound, SoundState}
use Rattle.share_model.proofs.lemmas.lists.FirstItemLemmas.{each_map, each-append, each-one, each-find}
use Rattle.share_model.proofs.lemmas.run.SoundLinkLemmas.{IsSending, part-sending, sending-head, sending-few}
use Rattle.share_model.proofs.lemmas.run.SoundLinkLemmas.{head-given}
use Rattle.share_model.proofs.lemmas.run.SoundLinkLemmas.{frame-shelf, sending-shelf}
use Rattle.share_model.proofs.lemmas.run.EventLemmas.{run-sound}
use Rattle.share_model.proofs.lemmas.run.ByteLemmas.{sent_of, frames_of, frame_of-sending}
use Rattle.share_model.proofs.lemmas.link.VersionLemmas.{run-version}
use Rattle.share_model.proofs.lemmas.run.EventCaseLemmas.{StepCases, run-cases}
use Rattle.share_model.specs.run.History.{IsBeginning, SentFits, AreFramesOf, sent_packets}

-- Lists of frames

too_short : (version : Version) (t : ℕ) (b : Packet) (x more : List ℕ) → FitsFrame version t b → IsBeginning version x
    → x ≡ frame version t b ++ more → ⊥
too_short version t b x more fits begins is =
    let own = frame version begins.tariff begins.head in
    let whole : own ≡ x ++ drop begins.at own
    = sym (take-append-drop begins.at own) ∙ ap (λ bytes. bytes ++ drop begins.at own) (sym begins.is) in
    let same : own ++ [] ≡ frame version t b ++ (more ++ drop begins.at own)
    = append-nil own
    ∙ (whole ∙ (ap (λ bytes. bytes ++ drop begins.at own) is
    ∙ append_assoc (frame version t b) more (drop begins.at own))) in
    let heads : begins.head ≡ b
    = (frame-prefix version begins.tariff t begins.head b [] (more ++ drop begins.at own) begins.fits fits same).head in
    let long : length x ≡ length (frame version t b) + length more
    = ap length is ∙ length-append (frame version t b) more in
    let short : length x ≡ min begins.at (length own) = ap length begins.is ∙ length-take begins.at own in
    let frames : length own ≡ length (frame version t b)
    = length-frame version begins.tariff begins.head
    ∙ (ap (frame_length version) heads ∙ sym (length-frame version t b)) in
    omega (arith, begins.few)

-- two lists of packets with the same frames, and the bytes after them
record SameFrames (version : Version) (ds es : List Sent) (x y : List ℕ) : Type 0 where
  heads : sent_packets ds ≡ sent_packets es
  tariffs : version ≡ Two → ds ≡ es
  rest : x ≡ y

same_sent : (d e : Sent) → d.head ≡ e.head → d.tariff ≡ e.tariff → d ≡ e
same_sent d e heads tariffs =
    ap (λ t. record { head = d.head; tariff = t }) tariffs ∙ ap (λ h. record { head = h; tariff = e.tariff }) heads

-- bytes that are frames and the beginning of one more determine the frames
frames-told : (version : Version) (ds es : List Sent) (x y : List ℕ) → Each (SentFits version) ds
    → Each (SentFits version) es → IsBeginning version x → IsBeginning version y
    → frames_of version ds ++ x ≡ frames_of version es ++ y → SameFrames version ds es x y
frames-told version [] [] x y fits fits' begins begins' same =
    record { heads = refl; tariffs = λ two. refl; rest = same }
frames-told version [] (e ∷ es) x y fits fits' begins begins' same =
    absurd (too_short version e.tariff e.head x (frames_of version es ++ y) fits'.0 begins
    (same ∙ append_assoc (sent_frame version e) (frames_of version es) y))
frames-told version (d ∷ ds) [] x y fits fits' begins begins' same =
    absurd (too_short version d.tariff d.head y (frames_of version ds ++ x) fits.0 begins'
    (sym same ∙ append_assoc (sent_frame version d) (frames_of version ds) x))
frames-told version (d ∷ ds) (e ∷ es) x y fits fits' begins begins' same =
    let first =
    frame-prefix version d.tariff e.tariff d.head e.head (frames_of version ds ++ x) (frames_of version es ++ y) fits.0
    fits'.0
    (sym (append_assoc (sent_frame version d) (frames_of version ds) x)
    ∙ (same ∙ append_assoc (sent_frame version e) (frames_of version es) y)) in
    let others = frames-told version ds es x y fits.1 fits'.1 begins begins' first.rest in
    record {
      heads = ap (λ h. h ∷ sent_packets ds) first.head ∙ ap (λ hs. e.head ∷ hs) others.heads;
      tariffs = λ two. ap (λ d. d ∷ ds) (same_sent d e first.head (first.tariff two))
          ∙ ap (λ ds. e ∷ ds) (others.tariffs two);
      rest = others.rest;
    }

-- Sent frames are small

-- the numbers of a packet are 1 to n, and a frame of the version carries its payload
pub record IsSmallPacket (version : Version) (n : ℕ) (h : Packet) : Type 0 where
  pub some_flow : 1 ≤ h.flow
  pub flow : h.flow ≤ n
  pub some_seq : 1 ≤ h.seq
  pub seq : h.seq ≤ n
  pub payload : IsBody version h.payload

fits_tariff : (version : Version) (tariff : ℕ) → FitsTariff Two tariff → FitsTariff version tariff
fits_tariff One tariff fits = tt
fits_tariff Two tariff fits = fits

fits_seq : (version : Version) (seq : ℕ) → seq < 2 ^ 32 → FitsSeq version seq
fits_seq One seq few = few
fits_seq Two seq few = omega arith

pub small-fits : (version : Version) (n : ℕ) → n < 2 ^ 32 → (tariff : ℕ) → FitsTariff Two tariff → (h : Packet)
    → IsSmallPacket version n h → FitsFrame version tariff h
small-fits version n few tariff shelf h small = record {
  tariff = fits_tariff version tariff shelf;
  some_flow = small.some_flow;
  flow = omega arith;
  some_seq = small.some_seq;
  seq = fits_seq version h.seq (omega arith);
  payload = small.payload;
}

seq_within : (n next k : ℕ) → next ≤ n + 1 → suc k < next → (1 ≤ next - suc k) × (next - suc k ≤ n)
seq_within n next k few given = (omega arith, omega arith)

small_in : (version : Version) (n : ℕ) (b : Buffer) (ps : List (List ℕ)) (h : Packet) → b.flow ≤ n
    → IsSoundBuffer version n b → b.packets ≡ ps → head_in b ps ≡ Some h → IsSmallPacket version n h
small_in version n b [] h below sound are is = cc
small_in version n b (p ∷ ps) h below sound are is =
    let seq = seq_within n b.next (length ps) sound.numbers (rw are at sound.given) in
    let bodies = rw are at sound.payloads in
    subst (IsSmallPacket version n)
    (same_Some (record { flow = b.flow; seq = b.next - length (p ∷ ps); payload = p }) h is)
    (record { some_flow = sound.flow; flow = below; some_seq = seq.0; seq = seq.1; payload = bodies.0 })

small_by : (version : Version) (n : ℕ) (bs : List Buffer) (f : ℕ) (h : Packet) → Each (IsSoundBuffer version n) bs
    → h.flow ≤ n → (o : Option Buffer) → buffer_of bs f ≡ o → option_and_then head_of_buffer o ≡ Some h
    → IsSmallPacket version n h
small_by version n bs f h all below None found is = cc
small_by version n bs f h all below (Some b) found is =
    small_in version n b b.packets h (subst (λ m. m ≤ n) (head_in_flow b b.packets h is) below)
    (each-find (IsSoundBuffer version n) (is_buffer_of f) bs b all found) refl is

pub head-small : {life : ℕ} {rates : List Rate} {l : Live} {h : Packet} → Sound life rates l → (f : ℕ)
    → head_of l.buffers f ≡ Some h → IsSmallPacket l.version l.counts.events h
head-small {l = l} {h = h} sound f is =
    small_by l.version l.counts.events l.buffers f h sound.buffers
    (omega (arith, head-given sound f is, sound.funding.next_flow)) (buffer_of l.buffers f) refl is

-- a packet that was written whole, under a tariff of the shelf
pub record IsSmallSent (version : Version) (n : ℕ) (d : Sent) : Type 0 where
  pub head : IsSmallPacket version n d.head
  pub tariff : FitsTariff Two d.tariff

-- the torn packet, some of whose frame's bytes are out, but not all
pub record IsSmallTorn (version : Version) (n : ℕ) (t : TornFrame) : Type 0 where
  pub head : IsSmallPacket version n t.head
  pub tariff : FitsTariff Two t.tariff
  pub few : t.out < length (frame version t.tariff t.head)

abbrev TornIsSmall : Version → ℕ → Option TornFrame → Type 0
TornIsSmall version n None = Unit {0}
TornIsSmall version n (Some t) = IsSmallTorn version n t

record IsSmallHistory (version : Version) (n : ℕ) (done : List Sent) (t : Option TornFrame) : Type 0 where
  sent : Each (IsSmallSent version n) done
  torn : TornIsSmall version n t

abbrev HistoryIsSmall : State → Type 0
HistoryIsSmall s = IsSmallHistory s.live.version s.live.counts.events s.done s.torn

head_later : (version : Version) (n : ℕ) (h : Packet) → IsSmallPacket version n h → IsSmallPacket version (n + 1) h
head_later version n h small = record {
  some_flow = small.some_flow;
  flow = omega arith;
  some_seq = small.some_seq;
  seq = omega arith;
  payload = small.payload;
}

torn_later : (version : Version) (n : ℕ) (t : Option TornFrame) → TornIsSmall version n t
    → TornIsSmall version (n + 1) t
torn_later version n None small = tt
torn_later version n (Some t) small =
    record { head = head_later version n t.head small.head; tariff = small.tariff; few = small.few }

small_later : (version : Version) (n : ℕ) (done : List Sent) (t : Option TornFrame) → IsSmallHistory version n done t
    → IsSmallHistory version (n + 1) done t
small_later version n done t small = record {
  sent =
      each_map (IsSmallSent version n) (IsSmallSent version (n + 1))
      (λ d was. record { head = head_later version n d.head was.head; tariff = was.tariff }) done small.sent;
  torn = torn_later version n t small.torn;
}

small_cases : (life : ℕ) (rates : List Rate) (s : State) → AreInRange rates → SoundState life rates s
    → s.live.counts.events < life → HistoryIsSmall s → StepCases HistoryIsSmall rates s
small_cases life rates s range sound below was =
    let n = s.live.counts.events in
    let v = s.live.version in
    let later : IsSmallHistory v (n + 1) s.done s.torn = small_later v n s.done s.torn was in
    record {
      refused = later;
      funded = λ g funded. later;
      opened = λ name limit tariff allowed. later;
      closed = λ f may. later;
      held = λ f held stands. later;
      accepted = λ f body short b found. later;
      finished = λ snd k sends whole. record {
        sent =
            each-append (IsSmallSent v (n + 1)) s.done (sent_of snd ∷ []) later.sent
            (each-one (IsSmallSent v (n + 1)) (sent_of snd)
            (record {
              head =
                  head_later v n snd.head
                  (head-small sound.live snd.head.flow (sending-head sound.live sends.is));
              tariff = sending-shelf range sound.live sends.is;
            }));
        torn = later.torn;
      };
      begun = λ snd k sends. later;
      tore =
          λ snd sends. record {
            sent = later.sent;
            torn
                = record {
                  head =
                      head_later v n snd.head (head-small sound.live snd.head.flow (sending-head sound.live sends.is));
                  tariff = sending-shelf range sound.live sends.is;
                  few
                      = subst (λ bytes. snd.out < length bytes) (sym (frame_of-sending sound.live sends.is))
                      (sending-few sound.live sends.is);
                };
          };
    }

small_empty : (version : Version) → HistoryIsSmall (empty_state version)
small_empty version = record { sent = tt; torn = tt }

run_small : (version : Version) (life : ℕ) (rates : List Rate) (es : List Event) → AreInRange rates
    → MayFollow life rates (empty_state version) es → HistoryIsSmall (run version rates es)
run_small version life rates es range may =
    run-cases HistoryIsSmall life rates range (λ s sound below was. small_cases life rates s range sound below was)
    (small_empty version) es may

-- The bytes of a run

sent_fit : (version : Version) (n : ℕ) → n < 2 ^ 32 → (done : List Sent) → Each (IsSmallSent version n) done
    → Each (SentFits version) done
sent_fit version n few done small =
    each_map (IsSmallSent version n) (SentFits version)
    (λ d was. small-fits version n few d.tariff was.tariff d.head was.head) done small

-- no byte is the beginning of any frame
some_packet : Packet
some_packet = record { flow = 1; seq = 1; payload = 0 ∷ [] }

fits_some_seq : (version : Version) → FitsSeq version 1
fits_some_seq One = omega arith
fits_some_seq Two = omega arith

some_payload : (version : Version) → IsBody version (0 ∷ [])
some_payload One = record { some = omega arith; few = omega arith; bytes = refl }
some_payload Two = record { some = omega arith; few = omega arith; bytes = refl }

some_packet_fits : (version : Version) → FitsFrame version 1 some_packet
unfolding some_packet
some_packet_fits version = record {
  tariff = fits_tariff version 1 (omega arith, omega arith);
  some_flow = omega arith;
  flow = omega arith;
  some_seq = omega arith;
  seq = fits_some_seq version;
  payload = some_payload version;
}

pub begins-none : (version : Version) → IsBeginning version []
begins-none version = record {
  tariff = 1;
  head = some_packet;
  fits = some_packet_fits version;
  at = 0;
  few = omega (arith, length-frame version 1 some_packet, header_length-some version);
  is = refl;
}

begins_by : (life : ℕ) (rates : List Rate) (l : Live) → AreInRange rates → Sound life rates l
    → l.counts.events < 2 ^ 32
    → (t : Option TornFrame) → TornIsSmall l.version l.counts.events t → (o : Option Sending)
    → frame_in_part l l.part ≡ o → IsBeginning l.version (beginning l.version t o)
begins_by life rates l range sound few (Some t) small o is = record {
  tariff = t.tariff;
  head = t.head;
  fits = small-fits l.version l.counts.events few t.tariff small.tariff t.head small.head;
  at = t.out;
  few = small.few;
  is = refl;
}
begins_by life rates l range sound few None small None is = begins-none l.version
begins_by life rates l range sound few None small (Some s) is =
    let part : IsSending l s = part-sending l l.part s sound.part is in
    let same : frame_of s ≡ frame l.version s.tariff s.head =
    ap (λ v. frame v s.tariff s.head) (ap (λ (s : Sending). s.version) part.is) in
    record {
      tariff = s.tariff;
      head = s.head;
      fits =
          small-fits l.version l.counts.events few s.tariff (frame-shelf range sound part) s.head
          (head-small sound s.head.flow part.head);
      at = s.out;
      few = subst (λ bytes. s.out < length bytes) same part.few;
      is = ap (take s.out) same;
    }

-- bytes are the frames of one list of packets at most
pub frames-unique : (version : Version) (bytes : List ℕ) (ds es : List Sent) → AreFramesOf version ds bytes
    → AreFramesOf version es bytes → sent_packets ds ≡ sent_packets es
frames-unique version bytes ds es a b =
    (frames-told version ds es a.rest b.rest a.fits b.fits a.begins b.begins (sym a.is ∙ b.is)).heads

-- and in version 2 under one list of tariffs
pub frames-tariffs : (bytes : List ℕ) (ds es : List Sent) → AreFramesOf Two ds bytes → AreFramesOf Two es bytes
    → ds ≡ es
frames-tariffs bytes ds es a b =
    (frames-told Two ds es a.rest b.rest a.fits b.fits a.begins b.begins (sym a.is ∙ b.is)).tariffs refl

-- The second byte gives the version

byte_of_frame : (version : Version) (t : ℕ) (h : Packet) → get_or (frame version t h) 1 0 ≡ version_byte version
byte_of_frame version t h =
    ap (λ bytes. get_or bytes 1 0) (sym (append-nil (frame version t h))) ∙ frame-version_byte version t h []

byte_of_beginning : (version : Version) (x : List ℕ) → IsBeginning version x → 2 ≤ length x
    → get_or x 1 0 ≡ version_byte version
byte_of_beginning version x begins some =
    let own = frame version begins.tariff begins.head in
    let most : 1 < begins.at = omega (arith, ap length begins.is, length-take begins.at own) in
    ap (λ bytes. get_or bytes 1 0) begins.is
    ∙ (get_or-take begins.at own 1 0 most ∙ byte_of_frame version begins.tariff begins.head)

byte_of_frames : (version : Version) (ds : List Sent) (rest bytes : List ℕ) → IsBeginning version rest
    → bytes ≡ frames_of version ds ++ rest → 2 ≤ length bytes → get_or bytes 1 0 ≡ version_byte version
byte_of_frames version [] rest bytes begins is some =
    ap (λ bytes. get_or bytes 1 0) is ∙ byte_of_beginning version rest begins (rw is at some)
byte_of_frames version (d ∷ ds) rest bytes begins is some =
    ap (λ bytes. get_or bytes 1 0) (is ∙ append_assoc (sent_frame version d) (frames_of version ds) rest)
    ∙ frame-version_byte version d.tariff d.head (frames_of version ds ++ rest)

-- no two bytes are of frames of both versions
pub frames-version : (ones twos : List Sent) (bytes : List ℕ) → AreFramesOf One ones bytes
    → AreFramesOf Two twos bytes → length bytes ≤ 1
frames-version ones twos bytes a b =
    let no : 2 ≤ length bytes → ⊥ = λ some. one_is_two
    (sym (byte_of_frames One ones a.rest bytes a.begins a.is some)
    ∙ byte_of_frames Two twos b.rest bytes b.begins b.is some) in
    omega (arith, no)
  where
    one_is_two : version_byte One ≡ version_byte Two → ⊥
    one_is_two same = cc

state_frames : (life : ℕ) (rates : List Rate) (s : State) → AreInRange rates → SoundState life rates s
    → HistoryIsSmall s → s.live.counts.events < 2 ^ 32 → AreFramesOf s.live.version s.done (out s)
unfolding out
state_frames life rates s range sound small few = record {
  fits = sent_fit s.live.version s.live.counts.events few s.done small.sent;
  rest = beginning s.live.version s.torn (frame_in_part s.live s.live.part);
  begins =
      begins_by life rates s.live range sound.live few s.torn small.torn (frame_in_part s.live s.live.part) refl;
  is = refl;
}

events_few : (n life : ℕ) → n ≤ life → life < 2 ^ 32 → n < 2 ^ 32
events_few n life most few = omega arith

-- the bytes of a run are the frames of the packets that it wrote whole, and the beginning of one more
pub run-frames : (version : Version) (life : ℕ) (rates : List Rate) (es : List Event) → life < 2 ^ 32
    → AreInRange rates → MayFollow life rates (empty_state version) es
    → AreFramesOf version (run version rates es).done (out (run version rates es))
run-frames version life rates es few range may =
    let sound : SoundState life rates (run version rates es) = run-sound version life rates es range may in
    subst (λ v. AreFramesOf v (run version rates es).done (out (run version rates es)))
    (run-version version rates es)
    (state_frames life rates (run version rates es) range sound (run_small version life rates es range may)
    (events_few (run version rates es).live.counts.events life sound.live.counts.events few))
