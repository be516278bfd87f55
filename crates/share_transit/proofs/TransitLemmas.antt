-- The frames of an outbox whose text is written are the first ones, and stay so.
use Rattle.std.proofs.Common.{◌≡◌, ◌≤◌, ◌<◌, ℕ, ◌+◌, ◌-◌, min, Bool, true, false, nat_le, if◌then◌else◌}
use Rattle.std.proofs.Common.{List, [], ◌∷◌, ◌++◌, length, map, take, drop, arith, refl, sym, ap, ◌∙◌, subst, get_or}
use Rattle.std.proofs.lemmas.Bool.{le-leb, lt-leb, leb-true}
use Rattle.std.proofs.lemmas.List.{append_assoc, take-append-le, drop-append-le, length-append, map-append}
use Rattle.std.proofs.lemmas.List.{length-drop, take_all}
use Rattle.std.proofs.lemmas.List.Folds.{concat-append}
use Rattle.std.specs.List.{concat}
use Rattle.share_gateway.specs.Outbox.{OutboxView, passed, with_frame, allow_more, ready_of, send_more, begun_again}
use Rattle.share_transit.specs.declared.transit.Due.{Due}
use Rattle.share_transit.specs.Transit.{TransitView, Trails, AreSolid, due_bytes, still_due, settled}

if_true : {A : Type 0} (b : Bool) (x y : A) → b ≡ true → (if b then x else y) ≡ x
if_true true x y is = refl
if_true false x y is = cc

if_false : {A : Type 0} (b : Bool) (x y : A) → b ≡ false → (if b then x else y) ≡ y
if_false true x y is = cc
if_false false x y is = refl

pub length-concat-append : (xs ys : List (List ℕ))
    → length (concat (xs ++ ys)) ≡ length (concat xs) + length (concat ys)
length-concat-append xs ys = ap (λ t. length t) (concat-append xs ys) ∙ length-append (concat xs) (concat ys)

-- ---- The wire takes bytes of the first frames

-- an outbox of all these frames is one of the first of them, with the others after them
pub record HasOthers (others : List (List ℕ)) (all part : OutboxView) : Type 0 where
  pub is : all ≡ record { frames = part.frames ++ others; out = part.out; allowed = part.allowed }
  pub allowed_are : part.allowed ≡ length (concat part.frames)
  pub out_are : part.out ≤ part.allowed

-- the other frames stay as they are
abbrev pub KeepsOthers : List (List ℕ) → List (List ℕ) → ℕ → ℕ → Type 0
KeepsOthers first others out allowed =
    HasOthers others (passed (first ++ others) out allowed) (passed first out allowed)

none_first : (others : List (List ℕ)) (out allowed : ℕ) → allowed ≡ 0 → out ≤ allowed → AreSolid others
    → KeepsOthers [] others out allowed
unfolding passed
none_first [] out allowed none less solid =
    record { is = refl; allowed_are = none; out_are = less }
none_first (frame ∷ frames) out allowed none less solid =
    record {
      is = if_false (nat_le (length frame) out) _ _ (lt-leb (length frame) out (omega (arith, none, less, solid.0)));
      allowed_are = none;
      out_are = less;
    }

module _ (frame : List ℕ) (first others : List (List ℕ)) (out allowed : ℕ)
    (all : allowed ≡ length (concat (frame ∷ first))) (less : out ≤ allowed) where
  first_by : (b : Bool) → nat_le (length frame) out ≡ b
      → (length frame ≤ out → KeepsOthers first others (out - length frame) (allowed - length frame))
      → HasOthers others
      (if b then passed (first ++ others) (out - length frame) (allowed - length frame)
      else record { frames = frame ∷ first ++ others; out = out; allowed = allowed })
      (if b then passed first (out - length frame) (allowed - length frame)
      else record { frames = frame ∷ first; out = out; allowed = allowed })
  first_by true test more = more (leb-true (length frame) out test)
  first_by false test more = record { is = refl; allowed_are = all; out_are = less }

pub keeps_others : (first others : List (List ℕ)) (out allowed : ℕ) → allowed ≡ length (concat first)
    → out ≤ allowed → AreSolid others → KeepsOthers first others out allowed
unfolding passed
keeps_others [] others out allowed all less solid = none_first others out allowed all less solid
keeps_others (frame ∷ first) others out allowed all less solid =
    let long = length-append frame (concat first) in
    first_by frame first others out allowed all less (nat_le (length frame) out) refl
    (λ past. keeps_others first others (out - length frame) (allowed - length frame) (omega (arith, all, long))
    (omega (arith, less)) solid)

-- an outbox of the first frames alone
abbrev pub first_alone : {o : OutboxView} {due : List Due} → Trails o due → OutboxView
first_alone {o} t = record { frames = t.first; out = o.out; allowed = o.allowed }

-- has the same bytes ready
pub ready_same : (first others : List (List ℕ)) (out allowed : ℕ) → allowed ≡ length (concat first) → out ≤ allowed
    → take (allowed - out) (drop out (concat (first ++ others))) ≡ drop out (concat first)
ready_same first others out allowed all less =
    let apart : drop out (concat (first ++ others)) ≡ drop out (concat first) ++ concat others =
    ap (λ t. drop out t) (concat-append first others)
    ∙ drop-append-le out (concat first) (concat others) (omega (arith, all, less)) in
    let size = length-drop out (concat first) in
    ap (λ t. take (allowed - out) t) apart
    ∙ take-append-le (allowed - out) (drop out (concat first)) (concat others) (omega (arith, size, all))
    ∙ take_all (allowed - out) (drop out (concat first)) (omega (arith, size, all))

pub ready_alone : (first : List (List ℕ)) (out allowed : ℕ) → allowed ≡ length (concat first)
    → take (allowed - out) (drop out (concat first)) ≡ drop out (concat first)
ready_alone first out allowed all =
    let size = length-drop out (concat first) in
    take_all (allowed - out) (drop out (concat first)) (omega (arith, size, all))

pub ready_count : (o : OutboxView) (due : List Due) (t : Trails o due) (n : ℕ) → n ≤ length (ready_of o)
    → o.out + n ≤ o.allowed
ready_count o due t n few =
    let is : ready_of o ≡ drop o.out (concat t.first) =
    ap (λ fs. take (o.allowed - o.out) (drop o.out (concat fs))) t.frames_are
    ∙ ready_same t.first t.others o.out o.allowed t.allowed_are t.out_are in
    let size = length-drop o.out (concat t.first) in
    let less : n ≤ length (drop o.out (concat t.first)) = subst (λ bs. n ≤ length bs) is few in
    omega (arith, less, size, t.allowed_are, t.out_are)

pub sent-trails : (o : OutboxView) (due : List Due) (n : ℕ) → Trails o due → n ≤ length (ready_of o)
    → Trails (send_more n o) due
sent-trails o due n t few =
    let less = ready_count o due t n few in
    let k = keeps_others t.first t.others (o.out + n) o.allowed t.allowed_are less t.solid in
    let is : send_more n o
    ≡ record {
      frames = (passed t.first (o.out + n) o.allowed).frames ++ t.others;
      out = (passed t.first (o.out + n) o.allowed).out;
      allowed = (passed t.first (o.out + n) o.allowed).allowed;
    } =
    ap (λ fs. passed fs (o.out + n) o.allowed) t.frames_are ∙ k.is in
    subst (λ (p : OutboxView). Trails p due) (sym is) (record {
      first = (passed t.first (o.out + n) o.allowed).frames;
      others = t.others;
      frames_are = refl;
      allowed_are = k.allowed_are;
      out_are = k.out_are;
      counts_are = t.counts_are;
      solid = t.solid;
    })

pub again-trails : (o : OutboxView) (due : List Due) → Trails o due → Trails (begun_again o) due
again-trails o due t =
    record {
      first = t.first;
      others = t.others;
      frames_are = t.frames_are;
      allowed_are = t.allowed_are;
      out_are = omega arith;
      counts_are = t.counts_are;
      solid = t.solid;
    }

-- ---- A frame comes in

solid-push : (frames : List (List ℕ)) (frame : List ℕ) → AreSolid frames → 0 < length frame
    → AreSolid (frames ++ frame ∷ [])
solid-push [] frame solid some = (some, tt)
solid-push (f ∷ frames) frame solid some = (solid.0, solid-push frames frame solid.1 some)

pub frame-trails : (o : OutboxView) (due : List Due) (frame : List ℕ) (d : Due) → Trails o due → 0 < length frame
    → d.count ≡ length frame → Trails (with_frame o frame) (due ++ d ∷ [])
frame-trails o due frame d t some same =
    record {
      first = t.first;
      others = t.others ++ frame ∷ [];
      frames_are = ap (λ fs. fs ++ frame ∷ []) t.frames_are ∙ append_assoc t.first t.others (frame ∷ []);
      allowed_are = t.allowed_are;
      out_are = t.out_are;
      counts_are =
          map-append (λ (frame : List ℕ). length frame) t.others (frame ∷ [])
          ∙ (λ k. t.counts_are k ++ sym same k ∷ [])
          ∙ sym (map-append (λ (d : Due). d.count) due (d ∷ []));
      solid = solid-push t.others frame t.solid some;
    }

-- ---- The first frame that is due is allowed

length-map-count : (due : List Due) → length (map (λ (d : Due). d.count) due) ≡ length due
length-map-count [] = refl
length-map-count (d ∷ due) = let more = length-map-count due in omega (arith, more)

length-map-length : (frames : List (List ℕ)) → length (map (λ (frame : List ℕ). length frame) frames) ≡ length frames
length-map-length [] = refl
length-map-length (f ∷ frames) = let more = length-map-length frames in omega (arith, more)

pub few-due : (o : OutboxView) (due : List Due) → Trails o due → length due ≤ length o.frames
few-due o due t =
    let size : length t.others ≡ length due =
    sym (length-map-length t.others) ∙ ap (λ ns. length ns) t.counts_are ∙ length-map-count due in
    let all : length o.frames ≡ length t.first + length t.others =
    ap (λ fs. length fs) t.frames_are ∙ length-append t.first t.others in
    omega (arith, size, all)

first_due_by : (o : OutboxView) (d : Due) (due : List Due) (first others : List (List ℕ)) → o.frames ≡ first ++ others
    → o.allowed ≡ length (concat first) → o.out ≤ o.allowed
    → map (λ (frame : List ℕ). length frame) others ≡ d.count ∷ map (λ (d : Due). d.count) due → AreSolid others
    → Trails (allow_more d.count o) due
first_due_by o d due first [] frames allowed out counts solid = cc
first_due_by o d due first (frame ∷ others) frames allowed out counts solid =
    let size : length frame ≡ d.count = ap (λ ns. get_or ns 0 0) counts in
    let all = ap (λ fs. length (concat fs)) frames ∙ length-concat-append first (frame ∷ others) in
    let second = length-append frame (concat others) in
    let long = length-concat-append first (frame ∷ []) in
    let one = length-append frame [] in
    record {
      first = first ++ frame ∷ [];
      others = others;
      frames_are = frames ∙ sym (append_assoc first (frame ∷ []) others);
      allowed_are = omega (arith, allowed, all, second, long, one, size);
      out_are = omega (arith, out, allowed, all);
      counts_are = ap (λ ns. drop 1 ns) counts;
      solid = solid.1;
    }

pub first-due : (o : OutboxView) (d : Due) (due : List Due) → Trails o (d ∷ due) → Trails (allow_more d.count o) due
first-due o d due t =
    first_due_by o d due t.first t.others t.frames_are t.allowed_are t.out_are t.counts_are t.solid

-- so what is settled after it is what is settled with it
pub settled-more : (o : OutboxView) (d : Due) (due : List Due) (handed written : ℕ) → d.ends ≤ written
    → settled (record { outbox = allow_more d.count o; due = due; handed = handed; written = written })
    ≡ settled (record { outbox = o; due = d ∷ due; handed = handed; written = written })
settled-more o d due handed written within =
    let test : nat_le d.ends written ≡ true = le-leb d.ends written within in
    let allowed : min (min (o.allowed + d.count) (length (concat o.frames)) + due_bytes written due)
    (length (concat o.frames))
    ≡ min (o.allowed + (d.count + due_bytes written due)) (length (concat o.frames)) = omega arith in
    let bytes : d.count + due_bytes written due ≡ due_bytes written (d ∷ due) =
    sym (if_true (nat_le d.ends written) (d.count + due_bytes written due) 0 test) in
    let left : still_due written due ≡ still_due written (d ∷ due) =
    sym (if_true (nat_le d.ends written) (still_due written due) (d ∷ due) test) in
    (λ k. record {
      outbox = record {
        frames = o.frames;
        out = o.out;
        allowed = (allowed ∙ ap (λ n. min (o.allowed + n) (length (concat o.frames))) bytes) k;
      };
      due = left k;
      handed = handed;
      written = written;
    })

allow_none : (o : OutboxView) → o.allowed ≤ length (concat o.frames) → allow_more 0 o ≡ o
allow_none o fits =
    let same : min (o.allowed + 0) (length (concat o.frames)) ≡ o.allowed = omega (arith, fits) in
    (λ k. record { frames = o.frames; out = o.out; allowed = same k })

pub trails-fit : (o : OutboxView) (due : List Due) → Trails o due → o.allowed ≤ length (concat o.frames)
trails-fit o due t =
    let all = ap (λ fs. length (concat fs)) t.frames_are ∙ length-concat-append t.first t.others in
    omega (arith, all, t.allowed_are)

pub settled-none : (o : OutboxView) (due : List Due) (handed written : ℕ) → Trails o due → due ≡ []
    → settled (record { outbox = o; due = due; handed = handed; written = written })
    ≡ record { outbox = o; due = due; handed = handed; written = written }
settled-none o due handed written t none =
    let bytes : due_bytes written due ≡ 0 = ap (λ ds. due_bytes written ds) none in
    let left : still_due written due ≡ due = ap (λ ds. still_due written ds) none ∙ sym none in
    (λ k. record {
      outbox = (ap (λ n. allow_more n o) bytes ∙ allow_none o (trails-fit o due t)) k;
      due = left k;
      handed = handed;
      written = written;
    })

pub settled-later : (o : OutboxView) (d : Due) (due rest : List Due) (handed written : ℕ) → Trails o due
    → due ≡ d ∷ rest → written < d.ends
    → settled (record { outbox = o; due = due; handed = handed; written = written })
    ≡ record { outbox = o; due = due; handed = handed; written = written }
settled-later o d due rest handed written t is beyond =
    let test : nat_le d.ends written ≡ false = lt-leb d.ends written beyond in
    let bytes : due_bytes written due ≡ 0 =
    ap (λ ds. due_bytes written ds) is ∙ if_false (nat_le d.ends written) (d.count + due_bytes written rest) 0 test in
    let left : still_due written due ≡ due =
    ap (λ ds. still_due written ds) is ∙ if_false (nat_le d.ends written) (still_due written rest) (d ∷ rest) test
    ∙ sym is in
    (λ k. record {
      outbox = (ap (λ n. allow_more n o) bytes ∙ allow_none o (trails-fit o due t)) k;
      due = left k;
      handed = handed;
      written = written;
    })

-- the first of those that are due
pub first-due-is : (ds : List Due) (d : Due) → 0 < length ds → d ≡ get_or ds 0 d → ds ≡ d ∷ drop 1 ds
first-due-is [] d some is = absurd (omega (arith, some))
first-due-is (e ∷ ds) d some is = ap (λ t. t ∷ ds) (sym is)

abbrev pub as_view : OutboxView → List Due → ℕ → ℕ → TransitView
as_view o due handed written = record { outbox = o; due = due; handed = handed; written = written }

-- one more is due
pub one-more-due : (after : OutboxView) (due pushed : List Due) (handed written ends count : ℕ) (text : List ℕ)
    → pushed ≡ due ++ record { ends = ends; count = count } ∷ [] → ends ≡ handed + length text
    → as_view after pushed handed written
    ≡ as_view after (due ++ record { ends = handed + length text; count = count } ∷ []) handed written
one-more-due after due pushed handed written ends count text is same =
    let all : pushed ≡ due ++ record { ends = handed + length text; count = count } ∷ [] =
    is ∙ (λ k. due ++ record { ends = same k; count = count } ∷ []) in
    (λ k. as_view after (all k) handed written)
