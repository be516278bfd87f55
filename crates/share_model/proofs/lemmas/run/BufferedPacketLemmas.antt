-- The packets that the buffer of a flow holds, as packets come and go, and as buffers are opened and closed.
use Rattle.std.specs.Prelude.{◌≡◌, ◌+◌, ◌-◌, ℕ, Bool, true, false, List, [], ◌∷◌, ◌++◌, length, drop, nat_eq, Option}
use Rattle.std.specs.Prelude.{None, Some, option_map, option_and_then, if◌then◌else◌}
use Rattle.std.specs.Option.{option_or}
use Rattle.std.proofs.Common.{refl, ap, sym, ◌∙◌, arith, length-append}
use Rattle.std.proofs.lemmas.Bool.{eqb-true}
use Rattle.std.proofs.lemmas.List.{append-nil}
use Rattle.std.proofs.lemmas.List.Folds.{find-append}
use Rattle.std.proofs.lemmas.Option.{same_Some}
use Rattle.share_model.proofs.lemmas.lists.FirstItemLemmas.{find-change_first, find-change_first_other, find-holds}
use Rattle.share_model.proofs.lemmas.lists.RemovalLemmas.{find-remove_other}
use Rattle.share_model.specs.link.Frame.{Packet}
use Rattle.share_model.specs.link.Buffers.{Buffer, is_buffer_of, buffer_of, new_buffer, open_in, close_in, with_packet}
use Rattle.share_model.specs.link.Buffers.{push_in, without_head, pop_in, head_in, head_of_buffer, head_of}
use Rattle.share_model.proofs.lemmas.link.BufferLemmas.{other_buffer}
use Rattle.share_model.specs.run.History.{held_in, packets_in_buffer, queued_packets}

abbrev pub packet : ℕ → List ℕ → ℕ → Packet
packet f body n = record { flow = f; seq = n; payload = body }

last_number : (next : ℕ) → (next + 1) - 1 ≡ next
last_number next = omega arith

same_number : (next : ℕ) (p body : List ℕ) (ps : List (List ℕ))
    → (next + 1) - length (p ∷ ps ++ body ∷ []) ≡ next - length (p ∷ ps)
same_number next p body ps = rw (length-append (p ∷ ps) (body ∷ [])) (omega arith)

held_more : (b : Buffer) (body : List ℕ) (ps : List (List ℕ))
    → held_in (with_packet body b) (ps ++ body ∷ []) ≡ held_in b ps ++ packet b.flow body b.next ∷ []
held_more b body [] = ap (λ n. packet b.flow body n ∷ []) (last_number b.next)
held_more b body (p ∷ ps) =
    ap (λ n. packet b.flow p n ∷ held_in (with_packet body b) (ps ++ body ∷ [])) (same_number b.next p body ps)
    ∙ ap (λ hs. packet b.flow p (b.next - length (p ∷ ps)) ∷ hs) (held_more b body ps)

-- a packet that is pushed comes last, under the buffer's next number
pub held_pushed : (bs : List Buffer) (f : ℕ) (body : List ℕ) (b : Buffer) → buffer_of bs f ≡ Some b → (g : ℕ) (k : Bool)
    → nat_eq g f ≡ k → queued_packets (push_in bs f body) g
    ≡ queued_packets bs g ++ (if k then packet f body b.next ∷ [] else [])
held_pushed bs f body b found g true test =
    let same : g ≡ f = eqb-true g f test in
    let flow : f ≡ b.flow = eqb-true f b.flow (find-holds (is_buffer_of f) bs b found) in
    let before : queued_packets bs g ≡ held_in b b.packets = ap (queued_packets bs) same ∙ ap packets_in_buffer found in
    let after : queued_packets (push_in bs f body) g ≡ held_in (with_packet body b) (b.packets ++ body ∷ [])
    = ap (queued_packets (push_in bs f body)) same
    ∙ (ap packets_in_buffer (find-change_first (is_buffer_of f) (with_packet body) (λ b holds. holds) bs)
    ∙ ap (λ o. packets_in_buffer (option_map (with_packet body) o)) found) in
    after ∙ (held_more b body b.packets
    ∙ (ap (λ n. held_in b b.packets ++ packet n body b.next ∷ []) (sym flow)
    ∙ ap (λ hs. hs ++ packet f body b.next ∷ []) (sym before)))
held_pushed bs f body b found g false test =
    ap packets_in_buffer (find-change_first_other (is_buffer_of f) (is_buffer_of g) (with_packet body)
    (other_buffer (with_packet body) (λ b. refl) g f test) bs) ∙ sym (append-nil (queued_packets bs g))

held_new : (f limit : ℕ) (k : Bool) (o : Option Buffer)
    → packets_in_buffer (option_or o (if k then Some (new_buffer f limit) else None)) ≡ packets_in_buffer o
held_new f limit k (Some b) = refl
held_new f limit true None = refl
held_new f limit false None = refl

-- a buffer that is opened holds no packet
pub held_opened : (bs : List Buffer) (f limit g : ℕ) → queued_packets (open_in bs f limit) g ≡ queued_packets bs g
held_opened bs f limit g =
    ap packets_in_buffer (find-append (is_buffer_of g) bs (new_buffer f limit ∷ []))
    ∙ held_new f limit (nat_eq g f) (buffer_of bs g)

held_less : (b : Buffer) (ps : List (List ℕ)) (h : Packet) → head_in b ps ≡ Some h
    → held_in b ps ≡ h ∷ held_in (without_head b) (drop 1 ps)
held_less b [] h is = cc
held_less b (p ∷ ps) h is = ap (λ h. h ∷ held_in b ps) (same_Some (packet b.flow p (b.next - length (p ∷ ps))) h is)

held_less_by : (o : Option Buffer) (h : Packet) → option_and_then head_of_buffer o ≡ Some h
    → packets_in_buffer o ≡ h ∷ packets_in_buffer (option_map without_head o)
held_less_by None h is = cc
held_less_by (Some b) h is = held_less b b.packets h is

-- the packet that is taken out was the first
pub held_popped : (bs : List Buffer) (h : Packet) → head_of bs h.flow ≡ Some h → (f : ℕ) (k : Bool)
    → nat_eq f h.flow ≡ k → (if k then h ∷ [] else []) ++ queued_packets (pop_in bs h.flow) f ≡ queued_packets bs f
held_popped bs h is f true test =
    let same : f ≡ h.flow = eqb-true f h.flow test in
    let after : queued_packets (pop_in bs h.flow) f ≡ packets_in_buffer (option_map without_head (buffer_of bs h.flow))
    = ap (queued_packets (pop_in bs h.flow)) same ∙ ap packets_in_buffer
    (find-change_first (is_buffer_of h.flow) without_head (λ b holds. holds) bs) in
    ap (λ hs. h ∷ hs) after ∙ (sym (held_less_by (buffer_of bs h.flow) h is) ∙ ap (queued_packets bs) (sym same))
held_popped bs h is f false test =
    ap packets_in_buffer (find-change_first_other (is_buffer_of h.flow) (is_buffer_of f) without_head
    (other_buffer without_head (λ b. refl) f h.flow test) bs)

pub held_closed : (bs : List Buffer) (f g : ℕ) → nat_eq g f ≡ false
    → queued_packets (close_in bs f) g ≡ queued_packets bs g
held_closed bs f g apart = ap packets_in_buffer (find-remove_other (λ (b : Buffer). b.flow) f g apart bs)
