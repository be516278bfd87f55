-- The wire takes the frames whose text is written, over the whole life of a transit.
use Rattle.std.proofs.Common.{◌≡◌, ◌≤◌, ◌<◌, ℕ, ◌+◌, ◌-◌, min, max, Bool, true, false, not, nat_le}
use Rattle.std.proofs.Common.{List, [], ◌∷◌, ◌++◌, length, map, take, drop, arith, refl, sym, ap, ◌∙◌}
use Rattle.std.proofs.Common.{subst}
use Rattle.std.specs.Prelude.{codes, Option, None, Some, MatchOption, is_some}
use Rattle.std.proofs.lemmas.Bool.{leb-true, leb-false}
use Rattle.std.proofs.lemmas.List.{append_assoc, append-nil, length-append, map-append, length-take, length-drop}
use Rattle.std.proofs.lemmas.List.{drop-append-le, drop_all}
use Rattle.std.specs.List.{concat}
use Rattle.share_base.specs.declared.command.Event.TheVariants.{Written}
use Rattle.share_model.specs.link.Calls.{is_spent}
use Rattle.share_model.specs.link.Turns.{Sending, frame_of, sending}
use Rattle.share_model.specs.text.Audit.{event_line}
use Rattle.share_model.specs.text.Lines.{spelling_of}
use Rattle.share_model.proofs.lemmas.link.FrameLemmas.{length-frame, header_length-some}
use Rattle.share_gateway.specs.Outbox.{OutboxView, passed, with_frame, ready_of, send_more, begun_again}
use Rattle.share_gateway.specs.OutboxHistory.{History, began, put, allow, send, again as again_sent, AreParts}
use Rattle.share_book.specs.Audited.{Audited, after_event, lacks_text}
use Rattle.share_book.specs.Book.{Turns, SendsNext, first_of}
use Rattle.share_book.specs.Sends.{lacks_room}
use Rattle.share_book.specs.Texts.{line_in}
use Rattle.share_book.specs.declared.book.Turned.{Turned}
use Rattle.share_book.specs.declared.book.Turned.TheVariants.{NoText, NoRoom, Spent, Idle, Wrote}
use Rattle.share_book.specs.declared.book_text.TextKind.{TextKind}
use Rattle.share_book.specs.declared.book_text.TextKind.TheVariants.{Whole, Lengths}
use Rattle.share_transit.specs.declared.transit.Due.{Due}
use Rattle.share_transit.specs.Transit.{TransitView, TurnsInto, Hands, AreSolid, due_bytes, still_due, handed_count}
use Rattle.share_transit.specs.Transit.{text_written}
use Rattle.share_transit.specs.Paced.{TextTurn, frames_of, Paced, turned, happened, handed_over, wrote, sent, again}
use Rattle.share_transit.specs.Paced.{opened}
use Rattle.share_transit.specs.Paced.{began as paced_began, turn_by, turn_made, AreWithin, AreBeyond, FollowsText}
use Rattle.share_transit.proofs.TransitLemmas.{length-concat-append, keeps_others, ready_same, ready_alone}

-- ---- The effect of a turn

-- the frame of a packet has some bytes
pub frame_some : (s : Sending) → 0 < length (frame_of s)
frame_some s =
    let size = length-frame s.version s.tariff s.head in
    let some = header_length-some s.version in
    omega (arith, size, some)

-- a turn that wrote put its frame into an outbox that had room for it
pub record PutFrame (a : Audited) (before : OutboxView) (count : ℕ) (new : Audited) (after : OutboxView) : Type 0 where
  pub frame : Sending
  pub next : sending a.link.live ≡ Some frame
  pub count_is : count ≡ length (frame_of frame)
  pub event : new ≡ after_event a (Written (length (frame_of frame)))
  pub outbox : after ≡ with_frame before (frame_of frame)
  pub room : lacks_room before ≡ false

put_by : (a : Audited) (before : OutboxView) (flow seq count : ℕ) (new : Audited) (after : OutboxView)
    (lacks full spent : Bool) (o : Option Sending) → sending a.link.live ≡ o → lacks_room before ≡ full
    → MatchOption
    (first_of ((lacks, NoText) ∷ (full, NoRoom) ∷ (spent, Spent) ∷ (not (is_some o), Idle) ∷ []))
    (SendsNext a before o (Wrote flow seq count) new after)
    (λ why. (Wrote flow seq count ≡ why) × (new ≡ a) × (after ≡ before))
    → PutFrame a before count new after
put_by a before flow seq count new after true full spent o is room did = let not = did.0 in cc
put_by a before flow seq count new after false true spent o is room did = let not = did.0 in cc
put_by a before flow seq count new after false false true o is room did = let not = did.0 in cc
put_by a before flow seq count new after false false false None is room did = let not = did.0 in cc
put_by a before flow seq count new after false false false (Some s) is room did =
    let same = did.answer in
    record {
      frame = s;
      next = is;
      count_is = ap (λ (t : Turned). count_in t) same;
      event = did.event;
      outbox = did.outbox;
      room = room;
    }
  where
    count_in : Turned → ℕ
    count_in (Wrote flow seq count) = count
    count_in _ = 0

pub put_is : (a : Audited) (before : OutboxView) (flow seq count : ℕ) (new : Audited) (after : OutboxView)
    → Turns a before (Wrote flow seq count) new after → PutFrame a before count new after
put_is a before flow seq count new after did =
    put_by a before flow seq count new after (lacks_text a) (lacks_room before) (is_spent a.link) (sending a.link.live)
    refl refl did

abbrev pub is_wrote : Turned → Bool
is_wrote (Wrote flow seq count) = true
is_wrote _ = false

stays_by : (a : Audited) (before : OutboxView) (answer : Turned) (new : Audited) (after : OutboxView)
    (lacks full spent : Bool) (o : Option Sending) → is_wrote answer ≡ false
    → MatchOption
    (first_of ((lacks, NoText) ∷ (full, NoRoom) ∷ (spent, Spent) ∷ (not (is_some o), Idle) ∷ []))
    (SendsNext a before o answer new after)
    (λ why. (answer ≡ why) × (new ≡ a) × (after ≡ before))
    → (new ≡ a) × (after ≡ before)
stays_by a before answer new after true full spent o none did = (did.1, did.2)
stays_by a before answer new after false true spent o none did = (did.1, did.2)
stays_by a before answer new after false false true o none did = (did.1, did.2)
stays_by a before answer new after false false false None none did = (did.1, did.2)
stays_by a before answer new after false false false (Some s) none did =
    let is : is_wrote answer ≡ true = ap is_wrote did.answer in cc

-- any other turn changed nothing
pub stays_is : (a : Audited) (before : OutboxView) (answer : Turned) (new : Audited) (after : OutboxView)
    → is_wrote answer ≡ false → Turns a before answer new after → (new ≡ a) × (after ≡ before)
stays_is a before answer new after none did =
    stays_by a before answer new after (lacks_text a) (lacks_room before) (is_spent a.link) (sending a.link.live) none
    did

line_some : (kind : TextKind) (n : ℕ) → 0 < length (line_in kind (Written n))
line_some Whole n =
    let size = length-append (spelling_of (event_line (Written n))) (codes "\n") in omega (arith, size)
line_some Lengths n =
    let size = length-append (spelling_of (event_line (Written n))) (codes "\n") in omega (arith, size)

-- ---- Turns whose text is not written

-- their texts end one after the other, above the one number and up to the other
abbrev pub Follow : ℕ → ℕ → List TextTurn → Type 0
Follow low top [] = low ≤ top
Follow low top (t ∷ ts) = (low < t.ends) × (0 < length t.frame) × Follow t.ends top ts

follow-longer : (low top more : ℕ) (ts : List TextTurn) → Follow low top ts → top ≤ more → Follow low more ts
follow-longer low top more [] f longer = omega (arith, f, longer)
follow-longer low top more (t ∷ ts) f longer = (f.0, f.1, follow-longer t.ends top more ts f.2 longer)

follow-push : (low top : ℕ) (ts : List TextTurn) (t : TextTurn) → Follow low top ts → top < t.ends
    → 0 < length t.frame → Follow low t.ends (ts ++ t ∷ [])
follow-push low top [] t f above some = (omega (arith, f, above), some, omega arith)
follow-push low top (first ∷ ts) t f above some = (f.0, f.1, follow-push first.ends top ts t f.2 above some)

follow-solid : (low top : ℕ) (ts : List TextTurn) → Follow low top ts → AreSolid (frames_of ts)
follow-solid low top [] f = tt
follow-solid low top (t ∷ ts) f = (f.1, follow-solid t.ends top ts f.2)

beyond-less : (low high : ℕ) (ts : List TextTurn) → low ≤ high → AreBeyond high ts → AreBeyond low ts
beyond-less low high [] less b = tt
beyond-less low high (t ∷ ts) less b = (omega (arith, less, b.0), beyond-less low high ts less b.1)

follow-beyond : (low top : ℕ) (ts : List TextTurn) → Follow low top ts → AreBeyond low ts
follow-beyond low top [] f = tt
follow-beyond low top (t ∷ ts) f =
    (f.0, beyond-less low t.ends ts (omega (arith, f.0)) (follow-beyond t.ends top ts f.2))

within-more : (n m : ℕ) (ts : List TextTurn) → n ≤ m → AreWithin n ts → AreWithin m ts
within-more n m [] less w = tt
within-more n m (t ∷ ts) less w = (omega (arith, less, w.0), within-more n m ts less w.1)

within-append : (n : ℕ) (ts us : List TextTurn) → AreWithin n ts → AreWithin n us → AreWithin n (ts ++ us)
within-append n [] us w v = v
within-append n (t ∷ ts) us w v = (w.0, within-append n ts us w.1 v)

abbrev pub dues_of : List TextTurn → List Due
dues_of ts = map (λ (t : TextTurn). record { ends = t.ends; count = length t.frame }) ts

-- the first ones are written
record Split (n top : ℕ) (late : List TextTurn) : Type 0 where
  pub now : List TextTurn
  pub rest : List TextTurn
  pub late_are : late ≡ now ++ rest
  pub now_written : AreWithin n now
  pub rest_follow : Follow n top rest
  pub bytes : due_bytes n (dues_of late) ≡ length (concat (frames_of now))
  pub left : still_due n (dues_of late) ≡ dues_of rest

split_by : (n top low : ℕ) (t : TextTurn) (late : List TextTurn) (b : Bool) → nat_le t.ends n ≡ b
    → Follow low top (t ∷ late) → (t.ends ≤ n → Split n top late) → Split n top (t ∷ late)
split_by n top low t late true test f more =
    let within : t.ends ≤ n = leb-true t.ends n test in
    let s = more within in
    let size = length-append t.frame (concat (frames_of s.now)) in
    let count : length t.frame + due_bytes n (dues_of late) ≡ length (concat (frames_of (t ∷ s.now))) =
    omega (arith, s.bytes, size) in
    record {
      now = t ∷ s.now;
      rest = s.rest;
      late_are = ap (λ ts. t ∷ ts) s.late_are;
      now_written = (within, s.now_written);
      rest_follow = s.rest_follow;
      bytes = rw test count;
      left = rw test s.left;
    }
split_by n top low t late false test f more =
    record {
      now = [];
      rest = t ∷ late;
      late_are = refl;
      now_written = tt;
      rest_follow = (leb-false t.ends n test, f.1, f.2);
      bytes = rw test refl;
      left = rw test refl;
    }

split : (n top low : ℕ) (late : List TextTurn) → low ≤ n → n ≤ top → Follow low top late → Split n top late
split n top low [] above below f =
    record {
      now = [];
      rest = [];
      late_are = refl;
      now_written = tt;
      rest_follow = below;
      bytes = refl;
      left = refl;
    }
split n top low (t ∷ late) above below f =
    split_by n top low t late (nat_le t.ends n) refl f (λ within. split n top t.ends late within below f.2)

-- ---- The outbox of the frames whose text is written

along : (frames others : List (List ℕ)) (total more : ℕ) (before : List (List ℕ)) (given all : List ℕ)
    (o p : OutboxView)
    → frames ≡ others → total ≡ more → given ≡ all → o ≡ p → History frames total before given o
    → History others more before all p
along frames others total more before given all o p is count bytes same h =
    let P : List (List ℕ) → Type 0 = λ fs. History fs total before given o in
    let Q : ℕ → Type 0 = λ n. History others n before given o in
    let R : List ℕ → Type 0 = λ bs. History others more before bs o in
    let S : OutboxView → Type 0 = λ o. History others more before all o in
    subst S same (subst R bytes (subst Q count (subst P is h)))

puts : (frames : List (List ℕ)) (total : ℕ) (before : List (List ℕ)) (given : List ℕ) (o : OutboxView)
    (news : List (List ℕ)) → History frames total before given o
    → History (frames ++ news) total before given (record o { frames = o.frames ++ news })
puts frames total before given o [] h =
    along frames (frames ++ []) total total before given given o (record o { frames = o.frames ++ [] })
    (sym (append-nil frames)) refl refl
    (λ k. record { frames = sym (append-nil o.frames) k; out = o.out; allowed = o.allowed }) h
puts frames total before given o (new ∷ news) h =
    along ((frames ++ new ∷ []) ++ news) (frames ++ new ∷ news) total total before given given
    (record o { frames = (o.frames ++ new ∷ []) ++ news }) (record o { frames = o.frames ++ new ∷ news })
    (append_assoc frames (new ∷ []) news) refl refl
    (λ k. record { frames = append_assoc o.frames (new ∷ []) news k; out = o.out; allowed = o.allowed })
    (puts (frames ++ new ∷ []) total before given (with_frame o new) news (put frames total before given o h new))

-- ---- The invariant after each call

-- an outbox knows no byte that is out and not allowed
abbrev pub OutIsAllowed : Type 0
OutIsAllowed =
    (frames : List (List ℕ)) (allowed : ℕ) (before : List (List ℕ)) (given : List ℕ) (o : OutboxView)
    → History frames allowed before given o → o.out ≤ o.allowed

pub record State (handed : List ℕ) (turns : List TextTurn) (before : List (List ℕ)) (given : List ℕ) (t : TransitView)
    (a : Audited) : Type 0 where
  pub total : ℕ
  pub early : List TextTurn
  pub late : List TextTurn
  pub left : List (List ℕ)
  pub turns_are : turns ≡ early ++ late
  pub early_written : AreWithin t.written early
  pub late_follow : Follow t.written (length handed + length a.text.bytes) late
  pub history : History (frames_of early) total before given
      (record { frames = left; out = t.outbox.out; allowed = t.outbox.allowed })
  pub allowed_are : t.outbox.allowed ≡ length (concat left)
  pub kept : t.outbox.frames ≡ left ++ frames_of late
  pub due_are : t.due ≡ dues_of late
  pub counted : t.handed ≡ length handed
  pub fits : t.written ≤ t.handed

-- at least as much text is known
grown : (handed more : List ℕ) (turns : List TextTurn) (before : List (List ℕ)) (given : List ℕ) (t : TransitView)
    (a b : Audited) (count : ℕ) → State handed turns before given t a
    → t.handed + count ≡ length more
    → length handed + length a.text.bytes ≤ length more + length b.text.bytes
    → State more turns before given (record t { handed = t.handed + count }) b
grown handed more turns before given t a b count s counts longer =
    record {
      total = s.total;
      early = s.early;
      late = s.late;
      left = s.left;
      turns_are = s.turns_are;
      early_written = s.early_written;
      late_follow = follow-longer t.written (length handed + length a.text.bytes) (length more + length b.text.bytes)
          s.late s.late_follow longer;
      history = s.history;
      allowed_are = s.allowed_are;
      kept = s.kept;
      due_are = s.due_are;
      counted = counts;
      fits = omega (arith, s.fits);
    }

same_handed : (t : TransitView) → record t { handed = t.handed + 0 } ≡ t
same_handed t =
    let same : t.handed + 0 ≡ t.handed = omega arith in
    (λ k. record { outbox = t.outbox; due = t.due; handed = same k; written = t.written })

longer_book : (handed : List ℕ) (turns : List TextTurn) (before : List (List ℕ)) (given : List ℕ) (t : TransitView)
    (a b : Audited) → State handed turns before given t a → length a.text.bytes ≤ length b.text.bytes
    → State handed turns before given t b
longer_book handed turns before given t a b s longer =
    subst (λ t. State handed turns before given t b) (same_handed t)
    (grown handed handed turns before given t a b 0 s (omega (arith, s.counted)) (omega (arith, longer)))

-- a frame came in
module _ (handed : List ℕ) (turns : List TextTurn) (before : List (List ℕ)) (given : List ℕ) (t : TransitView)
    (a : Audited) (s : State handed turns before given t a) where
  put_frame : (count : ℕ) (after : Audited) (o : OutboxView) (p : PutFrame a t.outbox count after o)
      → State handed
      (turns ++ record { frame = frame_of p.frame; ends = length handed + length after.text.bytes } ∷ []) before given
      (record t {
        outbox = o;
        due = t.due ++ record { ends = t.handed + length after.text.bytes; count = count } ∷ [];
      }) after
  put_frame count after o p =
      let ends : ℕ = length handed + length after.text.bytes in
      let turn : TextTurn = record { frame = frame_of p.frame; ends = ends } in
      let text : length after.text.bytes
      ≡ length a.text.bytes + length (line_in a.kind (Written (length (frame_of p.frame)))) =
      ap (λ (a : Audited). length a.text.bytes) p.event
      ∙ length-append a.text.bytes (line_in a.kind (Written (length (frame_of p.frame)))) in
      let line = line_some a.kind (length (frame_of p.frame)) in
      let frames : o.frames ≡ t.outbox.frames ++ frame_of p.frame ∷ [] =
      ap (λ (o : OutboxView). o.frames) p.outbox in
      let out : o.out ≡ t.outbox.out = ap (λ (o : OutboxView). o.out) p.outbox in
      let allowed : o.allowed ≡ t.outbox.allowed = ap (λ (o : OutboxView). o.allowed) p.outbox in
      record {
        total = s.total;
        early = s.early;
        late = s.late ++ turn ∷ [];
        left = s.left;
        turns_are = ap (λ ts. ts ++ turn ∷ []) s.turns_are ∙ append_assoc s.early s.late (turn ∷ []);
        early_written = s.early_written;
        late_follow = follow-push t.written (length handed + length a.text.bytes) s.late turn s.late_follow
            (omega (arith, text, line)) (frame_some p.frame);
        history = along (frames_of s.early) (frames_of s.early) s.total s.total before given given _ _ refl refl refl
            (λ k. record { frames = s.left; out = sym out k; allowed = sym allowed k }) s.history;
        allowed_are = allowed ∙ s.allowed_are;
        kept = frames ∙ ap (λ fs. fs ++ frame_of p.frame ∷ []) s.kept
            ∙ append_assoc s.left (frames_of s.late) (frame_of p.frame ∷ [])
            ∙ ap (λ fs. s.left ++ fs) (sym (map-append (λ (t : TextTurn). t.frame) s.late (turn ∷ [])));
        due_are = (λ k. s.due_are k ++ record {
          ends = ap (λ n. n + length after.text.bytes) s.counted k;
          count = p.count_is k;
        } ∷ [])
            ∙ sym (map-append (λ (t : TextTurn). record { ends = t.ends; count = length t.frame }) s.late (turn ∷ []));
        counted = s.counted;
        fits = s.fits;
      }

  none_came : (after : Audited) (o : OutboxView) → (after ≡ a) × (o ≡ t.outbox)
      → State handed (turns ++ []) before given (record t { outbox = o }) after
  none_came after o same =
      let P : List TextTurn → Type 0 = λ ts. State handed ts before given (record t { outbox = o }) after in
      let Q : Audited → Type 0 = λ a. State handed turns before given (record t { outbox = o }) a in
      let R : OutboxView → Type 0 = λ o. State handed turns before given (record t { outbox = o }) a in
      subst P (sym (append-nil turns)) (subst Q (sym same.0) (subst R (sym same.1) s))

  turned_by : (answer : Turned) (new : TransitView) (after : Audited) → TurnsInto t a answer new after
      → State handed (turns ++ turn_made answer (sending a.link.live) (length handed + length after.text.bytes)) before
      given new after
  turned_by (Wrote flow seq count) new after did =
      let p = put_is a t.outbox flow seq count after did.outbox did.turns in
      let made : turn_by (sending a.link.live) (length handed + length after.text.bytes)
      ≡ record { frame = frame_of p.frame; ends = length handed + length after.text.bytes } ∷ [] =
      ap (λ o. turn_by o (length handed + length after.text.bytes)) p.next in
      let P : List TextTurn → Type 0 = λ ts. State handed (turns ++ ts) before given new after in
      let Q : TransitView → Type 0 = λ new. State handed
      (turns ++ record { frame = frame_of p.frame; ends = length handed + length after.text.bytes } ∷ []) before given
      new after in
      subst P (sym made) (subst Q (sym did.transit) (put_frame count after did.outbox p))
  turned_by NoText new after did =
      let P : TransitView → Type 0 = λ new. State handed (turns ++ []) before given new after in
      subst P (sym did.transit)
      (none_came after did.outbox (stays_is a t.outbox NoText after did.outbox refl did.turns))
  turned_by NoRoom new after did =
      let P : TransitView → Type 0 = λ new. State handed (turns ++ []) before given new after in
      subst P (sym did.transit)
      (none_came after did.outbox (stays_is a t.outbox NoRoom after did.outbox refl did.turns))
  turned_by Spent new after did =
      let P : TransitView → Type 0 = λ new. State handed (turns ++ []) before given new after in
      subst P (sym did.transit) (none_came after did.outbox (stays_is a t.outbox Spent after did.outbox refl did.turns))
  turned_by Idle new after did =
      let P : TransitView → Type 0 = λ new. State handed (turns ++ []) before given new after in
      subst P (sym did.transit) (none_came after did.outbox (stays_is a t.outbox Idle after did.outbox refl did.turns))

  -- text went to the disk
  handed_by : (page filled : List ℕ) (new : TransitView) (after : Audited) → Hands t a page new after filled
      → State (handed ++ drop (length page) filled) turns before given new after
  handed_by page filled new after did =
      let n : ℕ = handed_count t page a.text.bytes in
      let text : drop (length page) filled ≡ take n a.text.bytes =
      ap (λ bs. drop (length page) bs) did.page_is ∙ dropped page (take n a.text.bytes) in
      let size : length (take n a.text.bytes) ≡ n =
      length-take n a.text.bytes ∙ omega arith in
      let whole : length (handed ++ drop (length page) filled) ≡ length handed + n =
      ap (λ bs. length (handed ++ bs)) text ∙ length-append handed (take n a.text.bytes)
      ∙ ap (λ k. length handed + k) size in
      let rest : length after.text.bytes ≡ length a.text.bytes - n =
      ap (λ (a : Audited). length a.text.bytes) did.book ∙ length-drop n a.text.bytes in
      let few : n ≤ length a.text.bytes = omega arith in
      let P : TransitView → Type 0 = λ new. State (handed ++ drop (length page) filled) turns before given new after in
      subst P (sym did.transit)
      (grown handed (handed ++ drop (length page) filled) turns before given t a after n s
      (omega (arith, whole, s.counted)) (omega (arith, whole, rest, few)))
    where
      dropped : (page bytes : List ℕ) → drop (length page) (page ++ bytes) ≡ bytes
      dropped page bytes =
          drop-append-le (length page) page bytes (omega arith)
          ∙ ap (λ t. t ++ bytes) (drop_all (length page) page (omega arith))

  -- the disk wrote some of it
  wrote_by : (total : ℕ) → State handed turns before given (text_written total t) a
  wrote_by total =
      let n : ℕ = max t.written (min total t.handed) in
      let above : t.written ≤ n = omega arith in
      let below : n ≤ t.handed = omega (arith, s.fits) in
      let p = split n (length handed + length a.text.bytes) t.written s.late above (omega (arith, below, s.counted))
      s.late_follow in
      let count : due_bytes n t.due ≡ length (concat (frames_of p.now)) =
      ap (λ ds. due_bytes n ds) s.due_are ∙ p.bytes in
      let frames : frames_of s.late ≡ frames_of p.now ++ frames_of p.rest =
      ap frames_of p.late_are ∙ map-append (λ (t : TextTurn). t.frame) p.now p.rest in
      let kept : t.outbox.frames ≡ (s.left ++ frames_of p.now) ++ frames_of p.rest =
      s.kept ∙ ap (λ fs. s.left ++ fs) frames ∙ sym (append_assoc s.left (frames_of p.now) (frames_of p.rest)) in
      let long = length-concat-append s.left (frames_of p.now) in
      let all : length (concat t.outbox.frames)
      ≡ length (concat (s.left ++ frames_of p.now)) + length (concat (frames_of p.rest)) =
      ap (λ fs. length (concat fs)) kept ∙ length-concat-append (s.left ++ frames_of p.now) (frames_of p.rest) in
      let own : min (t.outbox.allowed + due_bytes n t.due) (length (concat t.outbox.frames))
      ≡ length (concat (s.left ++ frames_of p.now)) = omega (arith, count, long, all, s.allowed_are) in
      let alone : min (t.outbox.allowed + due_bytes n t.due) (length (concat (s.left ++ frames_of p.now)))
      ≡ length (concat (s.left ++ frames_of p.now)) = omega (arith, count, long, s.allowed_are) in
      record {
        total = s.total + due_bytes n t.due;
        early = s.early ++ p.now;
        late = p.rest;
        left = s.left ++ frames_of p.now;
        turns_are = s.turns_are ∙ ap (λ ts. s.early ++ ts) p.late_are ∙ sym (append_assoc s.early p.now p.rest);
        early_written = within-append n s.early p.now (within-more t.written n s.early above s.early_written)
            p.now_written;
        late_follow = p.rest_follow;
        history = along (frames_of s.early ++ frames_of p.now) (frames_of (s.early ++ p.now))
            (s.total + due_bytes n t.due) (s.total + due_bytes n t.due) before given given _ _
            (sym (map-append (λ (t : TextTurn). t.frame) s.early p.now)) refl refl
            (λ k. record {
              frames = s.left ++ frames_of p.now;
              out = t.outbox.out;
              allowed = (alone ∙ sym own) k;
            })
            (allow (frames_of s.early ++ frames_of p.now) s.total before given
            (record { frames = s.left ++ frames_of p.now; out = t.outbox.out; allowed = t.outbox.allowed })
            (puts (frames_of s.early) s.total before given
            (record { frames = s.left; out = t.outbox.out; allowed = t.outbox.allowed }) (frames_of p.now) s.history)
            (due_bytes n t.due));
        allowed_are = own;
        kept = kept;
        due_are = ap (λ ds. still_due n ds) s.due_are ∙ p.left;
        counted = s.counted;
        fits = below;
      }

  -- the wire took some bytes
  sent_by : OutIsAllowed → (n : ℕ) → n ≤ length (ready_of t.outbox)
      → State handed turns before (given ++ take n (ready_of t.outbox)) (record t { outbox = send_more n t.outbox }) a
  sent_by law n few =
      let alone : OutboxView = record { frames = s.left; out = t.outbox.out; allowed = t.outbox.allowed } in
      let less : t.outbox.out ≤ t.outbox.allowed = law (frames_of s.early) s.total before given alone s.history in
      let ready : ready_of t.outbox ≡ drop t.outbox.out (concat s.left) =
      ap (λ fs. take (t.outbox.allowed - t.outbox.out) (drop t.outbox.out (concat fs))) s.kept
      ∙ ready_same s.left (frames_of s.late) t.outbox.out t.outbox.allowed s.allowed_are less in
      let own : ready_of alone ≡ drop t.outbox.out (concat s.left) =
      ready_alone s.left t.outbox.out t.outbox.allowed s.allowed_are in
      let size = length-drop t.outbox.out (concat s.left) in
      let fewer : n ≤ length (drop t.outbox.out (concat s.left)) = subst (λ bs. n ≤ length bs) ready few in
      let some : n ≤ length (ready_of alone) = subst (λ bs. n ≤ length bs) (sym own) fewer in
      let past : t.outbox.out + n ≤ t.outbox.allowed = omega (arith, fewer, size, s.allowed_are, less) in
      let k = keeps_others s.left (frames_of s.late) (t.outbox.out + n) t.outbox.allowed s.allowed_are past
      (follow-solid t.written (length handed + length a.text.bytes) s.late s.late_follow) in
      let p : OutboxView = passed s.left (t.outbox.out + n) t.outbox.allowed in
      let is : send_more n t.outbox
      ≡ record { frames = p.frames ++ frames_of s.late; out = p.out; allowed = p.allowed } =
      ap (λ fs. passed fs (t.outbox.out + n) t.outbox.allowed) s.kept ∙ k.is in
      let out : p.out ≡ (send_more n t.outbox).out = sym (ap (λ (o : OutboxView). o.out) is) in
      let allowed : p.allowed ≡ (send_more n t.outbox).allowed = sym (ap (λ (o : OutboxView). o.allowed) is) in
      record {
        total = s.total;
        early = s.early;
        late = s.late;
        left = p.frames;
        turns_are = s.turns_are;
        early_written = s.early_written;
        late_follow = s.late_follow;
        history = along (frames_of s.early) (frames_of s.early) s.total s.total before
            (given ++ take n (ready_of alone)) (given ++ take n (ready_of t.outbox)) p _ refl refl
            (ap (λ bs. given ++ take n bs) (own ∙ sym ready))
            (λ k. record { frames = p.frames; out = out k; allowed = allowed k })
            (send (frames_of s.early) s.total before given alone s.history n some);
        allowed_are = sym allowed ∙ k.allowed_are;
        kept = ap (λ (o : OutboxView). o.frames) is;
        due_are = s.due_are;
        counted = s.counted;
        fits = s.fits;
      }

  again_by : State handed turns (before ++ given ∷ []) [] (record t { outbox = begun_again t.outbox }) a
  again_by =
      record {
        total = s.total;
        early = s.early;
        late = s.late;
        left = s.left;
        turns_are = s.turns_are;
        early_written = s.early_written;
        late_follow = s.late_follow;
        history = again_sent (frames_of s.early) s.total before given
            (record { frames = s.left; out = t.outbox.out; allowed = t.outbox.allowed }) s.history;
        allowed_are = s.allowed_are;
        kept = s.kept;
        due_are = s.due_are;
        counted = s.counted;
        fits = s.fits;
      }

pub state : OutIsAllowed → (handed : List ℕ) (turns : List TextTurn) (before : List (List ℕ)) (given : List ℕ)
    (t : TransitView) (a : Audited) → Paced handed turns before given t a → State handed turns before given t a
state law _ _ _ _ _ _ (paced_began a) =
    record {
      total = 0;
      early = [];
      late = [];
      left = [];
      turns_are = refl;
      early_written = tt;
      late_follow = omega arith;
      history = began;
      allowed_are = refl;
      kept = refl;
      due_are = refl;
      counted = refl;
      fits = omega arith;
    }
state law _ _ _ _ _ _ (turned handed turns before given t a paced answer new after did) =
    turned_by handed turns before given t a (state law handed turns before given t a paced) answer new after did
state law _ _ _ _ _ _ (happened handed turns before given t a paced e) =
    let size = length-append a.text.bytes (line_in a.kind e) in
    longer_book handed turns before given t a (after_event a e) (state law handed turns before given t a paced)
    (omega (arith, size))
state law _ _ _ _ _ _ (handed_over handed turns before given t a paced page filled new after did) =
    handed_by handed turns before given t a (state law handed turns before given t a paced) page filled new after did
state law _ _ _ _ _ _ (wrote handed turns before given t a paced total) =
    wrote_by handed turns before given t a (state law handed turns before given t a paced) total
state law _ _ _ _ _ _ (sent handed turns before given t a paced n few) =
    sent_by handed turns before given t a (state law handed turns before given t a paced) law n few
state law _ _ _ _ _ _ (again handed turns before given t a paced) =
    again_by handed turns before given t a (state law handed turns before given t a paced)
state law _ _ _ _ _ _ (opened handed turns before given t a paced none next) =
    longer_book handed turns before given t a next (state law handed turns before given t a paced)
    (omega (arith, ap (λ bs. length bs) none))

-- the parts that an outbox gave out
abbrev pub PartsAre : Type 0
PartsAre =
    (frames : List (List ℕ)) (allowed : ℕ) (before : List (List ℕ)) (given : List ℕ) (o : OutboxView)
    → History frames allowed before given o → AreParts frames (before ++ given ∷ []) o.frames

pub follows : OutIsAllowed → PartsAre → (handed : List ℕ) (turns : List TextTurn) (before : List (List ℕ))
    (given : List ℕ) (t : TransitView) (a : Audited) → Paced handed turns before given t a
    → FollowsText handed turns before given t a
follows law parts handed turns before given t a paced =
    let s = state law handed turns before given t a paced in
    let alone : OutboxView = record { frames = s.left; out = t.outbox.out; allowed = t.outbox.allowed } in
    record {
      counted = s.counted;
      fits = s.fits;
      early = s.early;
      late = s.late;
      turns_are = s.turns_are;
      early_written = s.early_written;
      late_unwritten = follow-beyond t.written (length handed + length a.text.bytes) s.late s.late_follow;
      left = s.left;
      wire = parts (frames_of s.early) s.total before given alone s.history;
      ready =
          ap (λ fs. take (t.outbox.allowed - t.outbox.out) (drop t.outbox.out (concat fs))) s.kept
          ∙ ready_same s.left (frames_of s.late) t.outbox.out t.outbox.allowed s.allowed_are
          (law (frames_of s.early) s.total before given alone s.history);
      kept = s.kept;
    }
