-- The effects of the connections and the packet ports of a tenant on a book, and the counts of a door, call by call.
use Rattle.std.proofs.Common.{◌≡◌, ℕ, Bool, true, false, refl, ◌∙◌, ap, sym, subst}
use Rattle.share_model.specs.funding.Graph.{NameBytes}
use Rattle.share_book.specs.Audited.{Audited}
use Rattle.share_doors.specs.Door.{DoorView, counted, dropped_one, one_more, read_one}
use Rattle.share_doors.specs.Fills.{Drops, Fills, nothing, packet, of_port, no_payload}
use Rattle.share_doors.specs.Fills.{no_drop, packet_dropped, record_dropped}
use Rattle.share_doors.specs.Takes.{TakesBytes, TakesOne, TakesOnly, can_take, nothing as takes_nothing}
use Rattle.share_doors.specs.Takes.{packet as takes_packet}

-- nothing happened
pub fills_nothing : (d e : DoorView) (a b : Audited) → e ≡ d → b ≡ a → Fills d a e b
fills_nothing d e a b door book =
    subst (λ (x : DoorView). Fills d a x b) (sym door)
    (subst (λ (x : Audited). Fills d a d x) (sym book) (nothing d a))

-- a packet of a connection was taken, and counted
pub fills_one : (d e : DoorView) (n : ℕ) (a b : Audited) → e ≡ counted n d → TakesBytes d.tenant n a b → Fills d a e b
fills_one d e n a b door one =
    subst (λ (x : DoorView). Fills d a x b) (sym door) (packet d d a a b (nothing d a) n one)

-- a packet of a port was read, taken, and counted
pub fills_of_port : (d v e : DoorView) (k n : ℕ) (a b : Audited) → v ≡ d → k ≡ one_more v.read
    → e ≡ counted n (record v { read = k }) → TakesBytes v.tenant n a b → Fills d a e b
fills_of_port d v e k n a b same count door one =
    let read : e ≡ counted n (read_one v)
    = door ∙ ap (λ (x : ℕ). counted n (record v { read = x })) count in
    subst (λ (x : DoorView). Fills x a e b) same
    (subst (λ (x : DoorView). Fills v a x b) (sym read) (of_port v v a a b (nothing v a) n one))

-- a packet of a port was read, and dropped
pub fills_no_payload : (d v e : DoorView) (k : ℕ) (a b : Audited) → v ≡ d → k ≡ one_more v.read
    → e ≡ dropped_one (record v { read = k }) → b ≡ a → Fills d a e b
fills_no_payload d v e k a b same count door book =
    let read : e ≡ dropped_one (read_one v)
    = door ∙ ap (λ (x : ℕ). dropped_one (record v { read = x })) count in
    subst (λ (x : DoorView). Fills x a e b) same
    (subst (λ (x : DoorView). Fills v a x b) (sym read)
    (subst (λ (x : Audited). Fills v a (dropped_one (read_one v)) x) (sym book) (no_payload v v a a (nothing v a))))

-- no packet of a port was read
pub fills_unread : (d v : DoorView) (k : ℕ) (a b : Audited) → v ≡ d → k ≡ v.read → b ≡ a
    → Fills d a (record v { read = k }) b
fills_unread d v k a b same count book =
    fills_nothing d (record v { read = k }) a b (ap (λ (x : ℕ). record v { read = x }) count ∙ same) book

-- one call after others
pub fills_then : (d e f : DoorView) (a b c : Audited) → Fills d a e b → Fills e b f c → Fills d a f c
fills_then d _ _ a _ _ first (nothing e b) = first
fills_then d _ _ a _ _ first (packet e f b g c more n one) =
    packet d f a g c (fills_then d e f a b g first more) n one
fills_then d _ _ a _ _ first (of_port e f b g c more n one) =
    of_port d f a g c (fills_then d e f a b g first more) n one
fills_then d _ _ a _ _ first (no_payload e f b g more) = no_payload d f a g (fills_then d e f a b g first more)

-- the tenant stays
pub fills_tenant : (d e : DoorView) (a b : Audited) → Fills d a e b → e.tenant ≡ d.tenant
fills_tenant _ _ _ _ (nothing d a) = refl
fills_tenant _ _ _ _ (packet d e a b c more n one) = fills_tenant d e a b more
fills_tenant _ _ _ _ (of_port d e a b c more n one) = fills_tenant d e a b more
fills_tenant _ _ _ _ (no_payload d e a b more) = fills_tenant d e a b more

-- only the counts change
pub fills_same : (d e : DoorView) (a b : Audited) → Fills d a e b
    → e ≡ record d { packets = e.packets; bytes = e.bytes; read = e.read; dropped = e.dropped }
fills_same _ _ _ _ (nothing d a) = refl
fills_same _ _ _ _ (packet d e a b c more n one) =
    ap (λ (x : DoorView). counted n x) (fills_same d e a b more)
fills_same _ _ _ _ (of_port d e a b c more n one) =
    ap (λ (x : DoorView). counted n (read_one x)) (fills_same d e a b more)
fills_same _ _ _ _ (no_payload d e a b more) =
    ap (λ (x : DoorView). dropped_one (read_one x)) (fills_same d e a b more)

-- packets of the tenant were taken
pub fills_takes : (d e : DoorView) (a b : Audited) → Fills d a e b → TakesOnly d.tenant a b
fills_takes _ _ _ _ (nothing d a) = takes_nothing d.tenant a
fills_takes _ _ _ _ (packet d e a b c more n one) =
    takes_packet d.tenant a b c (fills_takes d e a b more)
    (subst (λ (name : NameBytes). TakesOne name b c) (fills_tenant d e a b more) one.one)
fills_takes _ _ _ _ (of_port d e a b c more n one) =
    takes_packet d.tenant a b c (fills_takes d e a b more)
    (subst (λ (name : NameBytes). TakesOne name b c) (fills_tenant d e a b more) one.one)
fills_takes _ _ _ _ (no_payload d e a b more) = fills_takes d e a b more

-- a tenant whose packets the book does not take
pub no_room : (room : Bool) (a : Audited) (name tenant : NameBytes) → room ≡ can_take a name → room ≡ false
    → name ≡ tenant → can_take a tenant ≡ false
no_room room a name tenant is none same =
    subst (λ (x : NameBytes). can_take a x ≡ false) same (sym is ∙ none)

-- a tenant whose packets the book takes
pub has_room : (room : Bool) (a : Audited) (name tenant : NameBytes) → room ≡ can_take a name → room ≡ true
    → name ≡ tenant → can_take a tenant ≡ true
has_room room a name tenant is some same =
    subst (λ (x : NameBytes). can_take a x ≡ true) same (sym is ∙ some)

-- there is no room if there is room
pub is_room : (room : Bool) (a b : Audited) (name tenant : NameBytes) → room ≡ can_take a name → room ≡ true
    → name ≡ tenant → a ≡ b → can_take b tenant ≡ false → ⊥
is_room room a b name tenant is some same book none =
    let here : can_take b tenant ≡ true
    = subst (λ (x : Audited). can_take x tenant ≡ true) book (has_room room a name tenant is some same) in
    let both : true ≡ false = sym here ∙ none in absurd (cc)

-- nothing was dropped
pub drops_none : (d e : DoorView) → e ≡ d → Drops d e
drops_none d e same = subst (λ (x : DoorView). Drops d x) (sym same) (no_drop d)

-- a record of a connection was dropped
pub drops_record : (d v e : DoorView) → v ≡ d → e ≡ dropped_one v → Drops d e
drops_record d v e same door =
    subst (λ (x : DoorView). Drops x e) same
    (subst (λ (x : DoorView). Drops v x) (sym door) (record_dropped v v (no_drop v)))

-- a packet of a port was read, and dropped
pub drops_packet : (d v e : DoorView) (k : ℕ) → v ≡ d → k ≡ one_more v.read
    → e ≡ dropped_one (record v { read = k }) → Drops d e
drops_packet d v e k same count door =
    let read : e ≡ dropped_one (read_one v)
    = door ∙ ap (λ (x : ℕ). dropped_one (record v { read = x })) count in
    subst (λ (x : DoorView). Drops x e) same
    (subst (λ (x : DoorView). Drops v x) (sym read) (packet_dropped v v (no_drop v)))

-- no packet of a port was read
pub drops_unread : (d v : DoorView) (k : ℕ) → v ≡ d → k ≡ v.read → Drops d (record v { read = k })
drops_unread d v k same count =
    drops_none d (record v { read = k }) (ap (λ (x : ℕ). record v { read = x }) count ∙ same)

-- a packet was given to deliver
pub given_one : (d v : DoorView) (k n : ℕ) → v ≡ d → k ≡ one_more v.given
    → record v { given = k; lost = n } ≡ record d { given = one_more d.given; lost = n }
given_one d v k n same count =
    ap (λ (x : ℕ). record v { given = x; lost = n }) count
    ∙ ap (λ (x : DoorView). record x { given = one_more x.given; lost = n }) same

-- one drop after others
pub drops_then : (d e f : DoorView) → Drops d e → Drops e f → Drops d f
drops_then d _ _ first (no_drop e) = first
drops_then d _ _ first (record_dropped e f more) = record_dropped d f (drops_then d e f first more)
drops_then d _ _ first (packet_dropped e f more) = packet_dropped d f (drops_then d e f first more)
