-- A link with nothing to send has no frame in part, and no flow of it competes.
use Rattle.std.proofs.Common.{◌≡◌, ℕ, ◌<◌, Bool, true, false, not, ◌&&◌, List, [], ◌∷◌, Option, None, Some}
use Rattle.std.proofs.Common.{option_map, option_and_then, unwrap_or, refl, sym, ap, ◌∙◌, subst, arith}
use Rattle.share_model.specs.declared.link.Part.{Part}
use Rattle.share_model.specs.declared.rates.Rate.{Rate}
use Rattle.share_model.specs.declared.stride.Client.{Client}
use Rattle.share_model.specs.funding.Graph.{tickets, is_active_flow}
use Rattle.share_model.proofs.lemmas.funding.HolderLemmas.{idle-none}
use Rattle.share_model.specs.link.Buffers.{Buffer, head_in, head_of_buffer, head_of, buffer_of, is_some_packet}
use Rattle.share_model.specs.link.Books.{is_held}
use Rattle.share_model.specs.link.Buffers.{has_packet}
use Rattle.share_model.specs.link.Frame.{Packet}
use Rattle.share_model.specs.link.Live.{Live}
use Rattle.share_model.specs.link.Turns.{sending_at, sending}
use Rattle.share_model.specs.stride.Moves.{next, new_client, IsNext, IsNextFlow, client}
use Rattle.share_model.proofs.lemmas.stride.NextFlowLemmas.{IsNext-next}
use Rattle.share_model.proofs.lemmas.run.KeptClientLemmas.{competes-stands}
use Rattle.share_model.proofs.lemmas.run.QueueLemmas.{level-flow}
use Rattle.share_model.specs.run.Sound.{Sound, PartIsSound}
use Rattle.share_model.proofs.lemmas.run.SoundLinkLemmas.{flow-active}
use Rattle.share_core.proofs.NextWriteLemmas.{sending-part, sending-next}

-- a buffer that holds a packet has a head
has_head : (b : Buffer) (ps : List (List ℕ)) → is_some_packet ps ≡ true → head_in b ps ≡ None → ⊥
has_head b [] some none = cc
has_head b (p ∷ ps) some none = cc

headed : (o : Option Buffer) → has_packet o ≡ true → option_and_then head_of_buffer o ≡ None → ⊥
headed None busy none = cc
headed (Some b) busy none = has_head b b.packets busy none

no_head : (l : Live) (out : ℕ) (o : Option Packet) → option_map (sending_at l out) o ≡ None → o ≡ None
no_head l out None none = refl
no_head l out (Some h) none = cc

busy_or_none : (t : Bool) (n : ℕ) → (t ≡ false → n ≡ 0) → 0 < n → t ≡ true
busy_or_none true n idle some = refl
busy_or_none false n idle some = absurd (omega (arith, idle refl))

busy_of : (busy free : Bool) → (busy && free) ≡ true → busy ≡ true
busy_of true free both = refl
busy_of false free both = both

-- the next flow has a head packet
next_headed : {life : ℕ} {rates : List Rate} {l : Live} → Sound life rates l → (f : ℕ)
    → IsNextFlow l.queue.clients f → head_of l.buffers f ≡ None → ⊥
next_headed {l = l} sound f first none =
    let competes : (client l.queue f).competes ≡ true =
    ap (λ (o : Option Client). (unwrap_or o new_client).competes) first.competes.found ∙ first.competes.competing in
    let has = level-flow l.queue l.graph f sound.level (competes-stands sound f competes) in
    let active : is_active_flow l.graph f ≡ true =
    busy_or_none (is_active_flow l.graph f) (tickets l.graph f) (idle-none l.graph f) (has.competes.0 competes) in
    headed (buffer_of l.buffers f)
    (busy_of (has_packet (buffer_of l.buffers f)) (not (is_held l.books f)) (sym (flow-active sound f) ∙ active)) none

no_part : {life : ℕ} {rates : List Rate} {l : Live} → Sound life rates l → (o : Option Part) → l.part ≡ o
    → sending l ≡ None → o ≡ None
no_part sound None is none = refl
no_part {l = l} sound (Some p) is none =
    let part = subst (PartIsSound l.version l.buffers) is sound.part in
    let head = no_head l p.out (head_of l.buffers p.flow) (sym (sending-part l p is) ∙ none) in
    let both : Some part.head ≡ None = sym part.found ∙ head in
    cc

no_next : {life : ℕ} {rates : List Rate} {l : Live} → Sound life rates l → l.part ≡ None → (o : Option ℕ)
    → next l.queue.clients ≡ o → IsNext l.queue.clients o → sending l ≡ None → o ≡ None
no_next sound unparted None is first none = refl
no_next {l = l} sound unparted (Some f) is first none =
    absurd (next_headed sound f first (no_head l 0 (head_of l.buffers f) (sym (sending-next l f unparted is) ∙ none)))

pub idle_is_done : {life : ℕ} {rates : List Rate} {l : Live} → Sound life rates l → sending l ≡ None
    → (l.part ≡ None) × (next l.queue.clients ≡ None)
idle_is_done {l = l} sound none =
    let unparted = no_part sound l.part refl none in
    (unparted, no_next sound unparted (next l.queue.clients) refl (IsNext-next l.queue.clients) none)
