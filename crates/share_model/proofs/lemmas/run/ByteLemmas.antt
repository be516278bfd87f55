-- The bytes that each event adds to a run.
use Rattle.std.specs.Prelude.{nat_eq, ◌≡◌, ◌≤◌, ◌+◌, ℕ, Bool, true, false, List, [], ◌∷◌, ◌++◌, length, take, drop}
use Rattle.std.specs.Prelude.{flat_map}
use Rattle.std.specs.Prelude.{Option, None, Some, option_map, option_and_then, if◌then◌else◌}
use Rattle.std.proofs.Common.{refl, ap, sym, ◌∙◌, subst, arith, append_assoc, length-drop}
use Rattle.std.proofs.lemmas.Bool.{cond_both, eqb-true, eqb-false, ne_eqb}
use Rattle.std.proofs.lemmas.Option.{same_Some}
use Rattle.std.proofs.lemmas.List.{append-nil, take-append-drop, take_all}
use Rattle.std.proofs.lemmas.List.Concat.{flat_map-append}
use Rattle.std.proofs.Math.Seq.{take-add}
use Rattle.share_base.specs.Body.{BodyView}
use Rattle.share_base.specs.declared.refusal.Refusal.TheVariants.{BufferFull}
use Rattle.share_base.specs.declared.command.Command.{Command}
use Rattle.share_base.specs.declared.command.Reply.{Reply}
use Rattle.share_base.specs.declared.command.Reply.TheVariants.{Packet as PacketReply, Refused}
use Rattle.share_base.specs.declared.command.Event.TheVariants.{Commanded, Arrived, Written, Faulted}
use Rattle.share_base.specs.declared.command.Turn.{Turn}
use Rattle.share_base.specs.declared.command.Turn.TheVariants.{Wrote}
use Rattle.share_base.specs.declared.version.Version.{Version}
use Rattle.share_model.specs.declared.link.Book.{Book}
use Rattle.share_model.specs.declared.link.Part.{Part}
use Rattle.share_model.specs.declared.rates.Rate.{Rate}
use Rattle.share_model.specs.declared.funding.OpenFlow.{OpenFlow as FlowEntry}
use Rattle.share_model.specs.link.Frame.{Packet, frame}
use Rattle.share_model.specs.link.Buffers.{Buffer, buffer_of, is_full, head_of}
use Rattle.share_model.proofs.lemmas.link.BufferLemmas.{head_of-flow, head_of-push_in, head_of-open_in}
use Rattle.share_model.proofs.lemmas.link.BufferLemmas.{head_of-closed_other}
use Rattle.share_model.specs.funding.Graph.{NameBytes}
use Rattle.share_model.specs.funding.Changes.{flow_named}
use Rattle.share_model.proofs.lemmas.link.CommandLemmas.{command-cases}
use Rattle.share_model.specs.link.Live.{Live}
use Rattle.share_model.specs.link.Turns.{Sending, frame_of, sending_at, frame_in_part, sending_by, sending, rest_of}
use Rattle.share_model.specs.link.Books.{tariff_of}
use Rattle.share_model.proofs.lemmas.link.TariffLemmas.{tariff_of-opened, tariff_of-closed_other, tariff_of-held}
use Rattle.share_model.specs.link.Live.{with_one_event}
use Rattle.share_model.specs.link.Commands.{is_part_of, with_graph, open_flow, close_flow, hold_flow, command_step}
use Rattle.share_model.specs.link.Arrivals.{accept, arrive_in}
use Rattle.share_model.specs.link.Arrivals.{arrive_by, arrive_step}
use Rattle.share_model.specs.link.Turns.{is_whole, in_part, whole}
use Rattle.share_model.specs.link.Step.{write_by, fault_by}
use Rattle.share_model.specs.run.Fold.{Sent, TornFrame, State, finished_by, torn_by, step, sent_frame, beginning, out}
use Rattle.share_model.specs.run.Sound.{Sound, SoundState, PartIsSound}
use Rattle.share_model.specs.stride.Moves.{next}
use Rattle.share_model.proofs.lemmas.run.SoundLinkLemmas.{sending-head, sending-is, sending-version, head-given}
use Rattle.share_model.proofs.lemmas.run.TornPacketLemmas.{torn-none}

-- Events of callers leave the frame in part

-- no byte came or went, and the frame in part is that of before
pub record KeepsFrames (old new : Live) : Type 0 where
  pub version : new.version ≡ old.version
  pub part : new.part ≡ old.part
  pub frame : frame_in_part new new.part ≡ frame_in_part old old.part
  pub broken : new.broken ≡ old.broken
  pub written : new.counts.written ≡ old.counts.written
  pub sent : new.counts.sent ≡ old.counts.sent

-- the flow of the frame in part has the head packet and the tariff that it had
record KeepsHead (old new : Live) (p : Part) (h : Packet) : Type 0 where
  head : head_of new.buffers p.flow ≡ Some h
  tariff : tariff_of new.books h.flow ≡ tariff_of old.books h.flow

same_sending : (version : Version) (t t' : ℕ) (h : Packet) (out : ℕ) → t ≡ t'
    → ◌≡◌ {A = Sending} (record { version = version; tariff = t; head = h; out = out })
    (record { version = version; tariff = t'; head = h; out = out })
same_sending version t t' h out same =
    ap (λ n. record { version = version; tariff = n; head = h; out = out }) same

-- a link of the same version, in which that flow does
frame_kept : (l l' : Live) (o : Option Part) → l'.version ≡ l.version → PartIsSound l.version l.buffers o
    → ((p : Part) (h : Packet) → o ≡ Some p → head_of l.buffers p.flow ≡ Some h → KeepsHead l l' p h)
    → frame_in_part l' o ≡ frame_in_part l o
frame_kept l l' None same part keeps = refl
frame_kept l l' (Some p) same part keeps =
    let kept = keeps p part.head refl part.found in
    ap (option_map (sending_at l' p.out)) kept.head
    ∙ (ap Some (same_sending l'.version _ _ part.head p.out kept.tariff)
    ∙ (ap (λ v. Some (record { version = v; tariff = tariff_of l.books part.head.flow; head = part.head; out = p.out }))
    same ∙ sym (ap (option_map (sending_at l p.out)) part.found)))

-- nothing changed that a frame depends on
same_frames : (l l' : Live) → l'.version ≡ l.version → l'.part ≡ l.part → l'.broken ≡ l.broken
    → l'.counts.written ≡ l.counts.written → l'.counts.sent ≡ l.counts.sent
    → frame_in_part l' l.part ≡ frame_in_part l l.part → KeepsFrames l l'
same_frames l l' version part broken written sent frame = record {
  version = version;
  part = part;
  frame = ap (frame_in_part l') part ∙ frame;
  broken = broken;
  written = written;
  sent = sent;
}

frame_in_part-same : (l l' : Live) (o : Option Part) → l'.version ≡ l.version → l'.buffers ≡ l.buffers
    → l'.books ≡ l.books → frame_in_part l' o ≡ frame_in_part l o
frame_in_part-same l l' None version buffers books = refl
frame_in_part-same l l' (Some p) version buffers books =
    let at : Version → List Book → ℕ → Packet → Sending =
    λ v bs out h. record { version = v; tariff = tariff_of bs h.flow; head = h; out = out } in
    ap (λ bs. option_map (sending_at l' p.out) (head_of bs p.flow)) buffers
    ∙ (ap (λ v. option_map (at v l'.books p.out) (head_of l.buffers p.flow)) version
    ∙ ap (λ bs. option_map (at l.version bs p.out) (head_of l.buffers p.flow)) books)

refused_keeps : (l : Live) → KeepsFrames l (with_one_event l)
refused_keeps l =
    same_frames l (with_one_event l) refl refl refl refl refl
    (frame_in_part-same l (with_one_event l) l.part refl refl refl)

closed_apart : (g : ℕ) (p : Part) (o : Option Part) → o ≡ Some p → is_part_of g o ≡ false → nat_eq p.flow g ≡ false
closed_apart g p o is unsent =
    ne_eqb p.flow g (λ same. eqb-false g p.flow (sym (ap (is_part_of g) is) ∙ unsent) (sym same))

closed_keeps : (l : Live) (g : ℕ) (p : Part) (h : Packet) → l.part ≡ Some p → is_part_of g l.part ≡ false
    → head_of l.buffers p.flow ≡ Some h → KeepsHead l (close_flow l g) p h
closed_keeps l g p h is unsent found =
    let apart = closed_apart g p l.part is unsent in
    record {
      head = head_of-closed_other l.buffers g p.flow apart ∙ found;
      tariff =
          tariff_of-closed_other l.books g h.flow
          (subst (λ f. nat_eq f g ≡ false) (sym (head_of-flow l.buffers p.flow h found)) apart);
    }

pub keeps-commanded : {life : ℕ} {rates : List Rate} {l : Live} → Sound life rates l → (c : Command)
    → KeepsFrames l (command_step rates l c).0
keeps-commanded {rates = rates} {l = l} sound c =
    command-cases (KeepsFrames l) rates l c (refused_keeps l)
    (λ g funded. same_frames l (with_graph l g) refl refl refl refl refl
    (frame_in_part-same l (with_graph l g) l.part refl refl refl))
    (λ name limit tariff allowed. same_frames l (open_flow l name limit tariff) refl refl refl refl refl
    (frame_kept l (open_flow l name limit tariff) l.part refl sound.part
    (λ p h is found. record {
      head = head_of-open_in l.buffers l.graph.next_flow limit p.flow h found;
      tariff =
          tariff_of-opened l.books h.flow l.graph.next_flow tariff (head-given sound p.flow found);
    })))
    (λ f may. same_frames l (close_flow l f) refl refl refl refl refl
    (frame_kept l (close_flow l f) l.part refl sound.part
    (λ p h is found. closed_keeps l f p h is may.unsent found)))
    (λ f held stands. same_frames l (hold_flow l f held) refl refl refl refl refl
    (frame_kept l (hold_flow l f held) l.part refl sound.part
    (λ p h is found. record { head = found; tariff = tariff_of-held l.books f h.flow held })))

arrive_in_keeps : (l : Live) → PartIsSound l.version l.buffers l.part → (f : ℕ) (body : List ℕ) (o : Option Buffer)
    → KeepsFrames l (arrive_in l f body o).0
arrive_in_keeps l part f body None = refused_keeps l
arrive_in_keeps l part f body (Some b) =
    cond_both (is_full b) (with_one_event l, Refused BufferFull) (accept l f body, PacketReply f b.next)
    (λ (d : Live × Reply). KeepsFrames l d.0)
    (λ _. refused_keeps l)
    (λ _. same_frames l (accept l f body) refl refl refl refl refl
    (frame_kept l (accept l f body) l.part refl part
    (λ p h is found. record { head = head_of-push_in l.buffers f body p.flow h found; tariff = refl })))

arrive_by_keeps : (l : Live) → PartIsSound l.version l.buffers l.part → (body : List ℕ) (o : Option FlowEntry)
    → KeepsFrames l (arrive_by l body o).0
arrive_by_keeps l part body None = refused_keeps l
arrive_by_keeps l part body (Some e) = arrive_in_keeps l part e.number body (buffer_of l.buffers e.number)

pub keeps-arrived : {life : ℕ} {rates : List Rate} {l : Live} → Sound life rates l → (name : NameBytes) (body : List ℕ)
    → KeepsFrames l (arrive_step l name body).0
keeps-arrived {l = l} sound name body = arrive_by_keeps l sound.part body (flow_named l.graph name)

-- The frame in part

beginning_new : (l : Live) (o : Option Packet) (s : Sending) → option_map (sending_at l 0) o ≡ Some s
    → take s.out (frame_of s) ≡ []
beginning_new l None s is = cc
beginning_new l (Some h) s is = ap (λ (s : Sending). take s.out (frame_of s)) (sym (same_Some (sending_at l 0 h) s is))

beginning_sent : (l : Live) (o : Option Part) (s : Sending) → sending_by l o ≡ Some s
    → beginning l.version None (frame_in_part l o) ≡ take s.out (frame_of s)
beginning_sent l None s is =
    sym (beginning_new l (option_and_then (head_of l.buffers) (next l.queue.clients)) s is)
beginning_sent l (Some p) s is = ap (beginning l.version None) is

-- the frame that is sent is of the link's version
pub frame_of-sending : {life : ℕ} {rates : List Rate} {l : Live} {s : Sending} → Sound life rates l → sending l ≡ Some s
    → frame l.version s.tariff s.head ≡ frame_of s
frame_of-sending {s = s} sound is = ap (λ v. frame v s.tariff s.head) (sym (sending-version sound is))

-- The bytes that each event adds

-- the frames of packets that were written whole
abbrev pub frames_of : Version → List Sent → List ℕ
frames_of version done = flat_map (sent_frame version) done

pub kept_bytes : (done : List Sent) (t : Option TornFrame) (l l' : Live) → KeepsFrames l l'
    → out (record { live = l'; done = done ++ []; torn = t }) ≡ out (record { live = l; done = done; torn = t })
unfolding out
kept_bytes done t l l' kept =
    rw (append-nil done)
    (ap (λ v. frames_of v done ++ beginning v t (frame_in_part l' l'.part)) kept.version
    ∙ ap (λ o. frames_of l.version done ++ beginning l.version t o) kept.frame)

-- a command adds no byte
pub out-commanded : {life : ℕ} {rates : List Rate} {s : State} → SoundState life rates s → (c : Command)
    → out (step rates s (Commanded c)) ≡ out s
out-commanded {rates = rates} {s = s} was c =
    kept_bytes s.done s.torn s.live (command_step rates s.live c).0 (keeps-commanded was.live c)

-- nor does an arrival
pub out-arrived : {life : ℕ} {rates : List Rate} {s : State} → SoundState life rates s
    → (name : NameBytes) (body : BodyView) → out (step rates s (Arrived name body)) ≡ out s
out-arrived {s = s} was name body =
    kept_bytes s.done s.torn s.live (arrive_step s.live name body.payload).0 (keeps-arrived was.live name body.payload)

-- the state after k bytes of a frame were written
abbrev pub written_state : List Rate → State → ℕ → Option Sending → State
written_state rates s k o = record {
  live = (write_by rates s.live k o).0;
  done = s.done ++ finished_by k o;
  torn = s.torn;
}

pub step-written : (rates : List Rate) (s : State) (k : ℕ) (snd : Sending) → sending s.live ≡ Some snd
    → step rates s (Written k) ≡ written_state rates s k (Some snd)
step-written rates s k snd is = ap (written_state rates s k) is

whole_bytes : (front f : List ℕ) (at k : ℕ) → at + k ≡ length f
    → front ++ f ≡ (front ++ take at f) ++ take k (drop at f)
whole_bytes front f at k all =
    rw (
      take_all k (drop at f) (omega (arith, length-drop at f)),
      append_assoc front (take at f) (drop at f),
      take-append-drop at f,
    ) refl

part_bytes : (front f : List ℕ) (at k : ℕ) → front ++ take (at + k) f ≡ (front ++ take at f) ++ take k (drop at f)
part_bytes front f at k = rw (take-add, append_assoc) refl

-- the bytes of a link that is whole and has a frame to send
pub out-sending : (s : State) (snd : Sending) → s.torn ≡ None → sending s.live ≡ Some snd
    → out s ≡ frames_of s.live.version s.done ++ take snd.out (frame_of snd)
unfolding out sending
out-sending s snd untorn is =
    ap (λ t. frames_of s.live.version s.done ++ beginning s.live.version t (frame_in_part s.live s.live.part)) untorn
    ∙ ap (λ bytes. frames_of s.live.version s.done ++ bytes) (beginning_sent s.live s.live.part snd is)

-- the bytes of a link that is whole and has no frame in part
pub out-between : (s : State) → s.torn ≡ None → s.live.part ≡ None → out s ≡ frames_of s.live.version s.done
unfolding out
out-between s untorn none =
    ap (λ t. frames_of s.live.version s.done ++ beginning s.live.version t (frame_in_part s.live s.live.part)) untorn
    ∙ (ap (λ o. frames_of s.live.version s.done ++ beginning s.live.version None (frame_in_part s.live o)) none
    ∙ append-nil (frames_of s.live.version s.done))

-- the entry of the history for the packet that is sent, when its frame is whole
abbrev pub sent_of : Sending → Sent
sent_of s = record { head = s.head; tariff = s.tariff }

-- the outcome of a write; b says whether the frame is whole
abbrev pub write_as : List Rate → Live → Sending → ℕ → Bool → Live × Turn
write_as rates l s k b =
    if b then (whole rates l s k, Wrote s.head.flow s.head.seq k true) else
    (in_part l s k, Wrote s.head.flow s.head.seq k false)

abbrev pub written_as : List Rate → State → Sending → ℕ → Bool → State
written_as rates s snd k b = record {
  live = (write_as rates s.live snd k b).0;
  done = s.done ++ (if b then sent_of snd ∷ [] else []);
  torn = s.torn;
}

sending_on : (life : ℕ) (rates : List Rate) (l : Live) (s : Sending) (k : ℕ) → Sound life rates l → sending l ≡ Some s
    → sending (in_part l s k) ≡ Some (sending_at l (s.out + k) s.head)
unfolding sending
sending_on life rates l s k was is = ap (option_map (sending_at l (s.out + k))) (sending-head was is)

frames_last : (version : Version) (done : List Sent) (d : Sent)
    → frames_of version (done ++ d ∷ []) ≡ frames_of version done ++ sent_frame version d
frames_last version done d =
    flat_map-append (sent_frame version) done (d ∷ [])
    ∙ ap (λ bytes. frames_of version done ++ bytes) (append-nil (sent_frame version d))

out_written_by : (life : ℕ) (rates : List Rate) (s : State) (snd : Sending) (k : ℕ) → SoundState life rates s
    → s.torn ≡ None → sending s.live ≡ Some snd → k ≤ length (rest_of snd) → (b : Bool) → is_whole snd k ≡ b
    → out (written_as rates s snd k b)
    ≡ (frames_of s.live.version s.done ++ take snd.out (frame_of snd)) ++ take k (rest_of snd)
out_written_by life rates s snd k was untorn is fits true test =
    out-between (written_as rates s snd k true) untorn refl
    ∙ (frames_last s.live.version s.done (sent_of snd)
    ∙ (ap (λ bytes. frames_of s.live.version s.done ++ bytes) (frame_of-sending was.live is)
    ∙ whole_bytes (frames_of s.live.version s.done) (frame_of snd) snd.out k
    (eqb-true (snd.out + k) (length (frame_of snd)) test)))
out_written_by life rates s snd k was untorn is fits false test =
    out-sending (written_as rates s snd k false) (sending_at s.live (snd.out + k) snd.head) untorn
    (sending_on life rates s.live snd k was.live is)
    ∙ (ap (λ done. frames_of s.live.version done
    ++ take (snd.out + k) (frame s.live.version (tariff_of s.live.books snd.head.flow) snd.head)) (append-nil s.done)
    ∙ (ap (λ bytes. frames_of s.live.version s.done ++ take (snd.out + k) bytes)
    (sym (ap frame_of (sending-is was.live is).is))
    ∙ part_bytes (frames_of s.live.version s.done) (frame_of snd) snd.out k))

-- a write adds the next k bytes of the frame
pub out-written : {life : ℕ} {rates : List Rate} {s : State} {snd : Sending} → SoundState life rates s
    → s.live.broken ≡ false → sending s.live ≡ Some snd → (k : ℕ) → k ≤ length (rest_of snd)
    → out (step rates s (Written k)) ≡ out s ++ take k (rest_of snd)
out-written {life = life} {rates = rates} {s = s} {snd = snd} was unbroken is k fits =
    ap out (step-written rates s k snd is)
    ∙ (out_written_by life rates s snd k was (torn-none s.live s.torn unbroken was.torn) is fits (is_whole snd k) refl
    ∙ ap (λ bytes. bytes ++ take k (rest_of snd))
    (sym (out-sending s snd (torn-none s.live s.torn unbroken was.torn) is)))

-- the state after the writer failed
abbrev pub failed_state : List Rate → State → Option Sending → State
failed_state rates s o = record {
  live = (fault_by rates s.live o).0;
  done = s.done ++ [];
  torn = option_map torn_by o;
}

pub step-failed : (rates : List Rate) (s : State) (snd : Sending) → sending s.live ≡ Some snd
    → step rates s Faulted ≡ failed_state rates s (Some snd)
step-failed rates s snd is = ap (failed_state rates s) is

out_failed : (rates : List Rate) (s : State) (snd : Sending) → frame s.live.version snd.tariff snd.head ≡ frame_of snd
    → out (failed_state rates s (Some snd)) ≡ frames_of s.live.version s.done ++ take snd.out (frame_of snd)
unfolding out
out_failed rates s snd own =
    ap (λ done. frames_of s.live.version done ++ take snd.out (frame s.live.version snd.tariff snd.head))
    (append-nil s.done)
    ∙ ap (λ bytes. frames_of s.live.version s.done ++ take snd.out bytes) own

-- a fault adds no byte
pub out-failed : {life : ℕ} {rates : List Rate} {s : State} {snd : Sending} → SoundState life rates s
    → s.live.broken ≡ false → sending s.live ≡ Some snd → out (step rates s Faulted) ≡ out s
out-failed {rates = rates} {s = s} {snd = snd} was unbroken is =
    ap out (step-failed rates s snd is)
    ∙ (out_failed rates s snd (frame_of-sending was.live is)
    ∙ sym (out-sending s snd (torn-none s.live s.torn unbroken was.torn) is))
