-- The bytes that an outbox gave out are the frames that went in, in order.
use Rattle.std.proofs.Common.{◌≡◌, ◌⊎◌, inl, inr, ℕ, ◌+◌, ◌-◌, ◌<◌, ◌≤◌, Bool, true, false, nat_le}
use Rattle.std.proofs.Common.{if◌then◌else◌, List, [], ◌∷◌, ◌++◌, length, take, drop, arith, refl, sym, ap, ◌∙◌, subst}
use Rattle.std.proofs.lemmas.Bool.{leb-true, leb-false}
use Rattle.std.proofs.lemmas.List.{append_assoc, take-append-drop, take-append-le, take-take, drop-take, length-append}
use Rattle.std.proofs.lemmas.List.{length-take}
use Rattle.std.proofs.lemmas.List.Folds.{concat-append}
use Rattle.std.proofs.Math.Seq.{take-append-add}
use Rattle.std.specs.List.{concat}
use Rattle.share_gateway.specs.Outbox.{OutboxView, passed, with_frame, allow_more, ready_of, send_more, begun_again}
use Rattle.share_gateway.specs.OutboxHistory.{History, began, put, allow, send, again}
use Rattle.share_gateway.specs.OutboxHistory.{IsWithinFirst, IsPart, AreParts}

-- Lists

take_sum : (m n : ℕ) (xs : List ℕ) → take (m + n) xs ≡ take m xs ++ take n (drop m xs)
take_sum m n xs =
    sym (take-append-drop m (take (m + n) xs))
    ∙ (λ k. take-take m (m + n) xs (omega arith) k ++ drop-take m n xs k)

-- The bytes that are gone and those that are left after some bytes are out

record Passed (frames : List (List ℕ)) (out allowed : ℕ) (o : OutboxView) : Type 0 where
  pub gone : List (List ℕ)
  pub frames_are : frames ≡ gone ++ o.frames
  pub out_is : out ≡ length (concat gone) + o.out
  pub allowed_is : allowed ≡ length (concat gone) + o.allowed
  pub within : IsWithinFirst o.out o.frames

module _ (frame : List ℕ) (frames : List (List ℕ)) (out allowed : ℕ) (less : out ≤ allowed) where
  passed_by : (b : Bool) → nat_le (length frame) out ≡ b
      → (length frame ≤ out
      → Passed frames (out - length frame) (allowed - length frame)
      (passed frames (out - length frame) (allowed - length frame)))
      → Passed (frame ∷ frames) out allowed (if b then passed frames (out - length frame) (allowed - length frame)
      else record { frames = frame ∷ frames; out = out; allowed = allowed })
  passed_by true test more =
      let past : length frame ≤ out = leb-true (length frame) out test in
      let p = more past in
      let size = length-append frame (concat p.gone) in
      record {
        gone = frame ∷ p.gone;
        frames_are = ap (λ t. frame ∷ t) p.frames_are;
        out_is = omega (arith, p.out_is, size, past);
        allowed_is = omega (arith, p.allowed_is, size, past, less);
        within = p.within;
      }
  passed_by false test more =
      record {
        gone = [];
        frames_are = refl;
        out_is = omega arith;
        allowed_is = omega arith;
        within = inr (leb-false (length frame) out test);
      }

passed_is : (frames : List (List ℕ)) (out allowed : ℕ) → out ≤ length (concat frames) → out ≤ allowed
    → Passed frames out allowed (passed frames out allowed)
unfolding passed
passed_is [] out allowed few less =
    record {
      gone = [];
      frames_are = refl;
      out_is = omega arith;
      allowed_is = omega arith;
      within = omega (arith, few);
    }
passed_is (frame ∷ frames) out allowed few less =
    let long = length-append frame (concat frames) in
    passed_by frame frames out allowed less (nat_le (length frame) out) refl
    (λ past. passed_is frames (out - length frame) (allowed - length frame) (omega (arith, long, few, past))
    (omega (arith, less)))

-- Parts

within-push : (n : ℕ) (frames : List (List ℕ)) (frame : List ℕ) → IsWithinFirst n frames
    → IsWithinFirst n (frames ++ frame ∷ [])
within-push n [] frame is = inl is
within-push n (first ∷ frames) frame is = is

within_few : (n : ℕ) (first : List ℕ) → (n ≡ 0) ⊎ (n < length first) → n ≤ length first
within_few n first (inl is) = omega (arith, is)
within_few n first (inr less) = omega (arith, less)

none_within : (frames : List (List ℕ)) → IsWithinFirst 0 frames
none_within [] = refl
none_within (frame ∷ frames) = inl refl

-- so the beginning stays the same
cut-push : (n : ℕ) (frames : List (List ℕ)) (frame : List ℕ) → IsWithinFirst n frames
    → take n (concat frames) ≡ take n (concat (frames ++ frame ∷ []))
cut-push n [] frame is = rw is refl
cut-push n (first ∷ frames) frame is =
    let few : n ≤ length first = within_few n first is in
    take-append-le n first (concat frames) few ∙ sym (take-append-le n first (concat (frames ++ frame ∷ [])) few)

part-push : (frames : List (List ℕ)) (given : List ℕ) (left : List (List ℕ)) (frame : List ℕ)
    → IsPart frames given left → IsPart (frames ++ frame ∷ []) given (left ++ frame ∷ [])
part-push frames given left frame p =
    record {
      gone = p.gone;
      cut = p.cut;
      frames_are = ap (λ t. t ++ frame ∷ []) p.frames_are ∙ append_assoc p.gone left (frame ∷ []);
      given_is = p.given_is ∙ ap (λ t. concat p.gone ++ t) (cut-push p.cut left frame p.cut_within);
      cut_within = within-push p.cut left frame p.cut_within;
    }

parts-push : (frames : List (List ℕ)) (parts : List (List ℕ)) (left : List (List ℕ)) (frame : List ℕ)
    → AreParts frames parts left → AreParts (frames ++ frame ∷ []) parts (left ++ frame ∷ [])
parts-push frames [] left frame is = ap (λ t. t ++ frame ∷ []) is
parts-push frames (given ∷ parts) left frame is = (
  is.0 ++ frame ∷ [],
  part-push frames given is.0 frame is.1,
  parts-push is.0 parts left frame is.2,
)

-- one part more
parts-more : (frames : List (List ℕ)) (parts : List (List ℕ)) (left : List (List ℕ)) (given : List ℕ)
    (last : List (List ℕ)) → AreParts frames parts left → IsPart left given last
    → AreParts frames (parts ++ given ∷ []) last
parts-more frames [] left given last is part = (last, subst (λ t. IsPart t given last) (sym is) part, refl)
parts-more frames (first ∷ parts) left given last is part =
    (is.0, is.1, parts-more is.0 parts left given last is.2 part)

-- A history

pub record InOrder (frames : List (List ℕ)) (before : List (List ℕ)) (given : List ℕ) (o : OutboxView) : Type 0 where
  pub start : List (List ℕ)
  pub parts : AreParts frames before start
  pub gone : List (List ℕ)
  pub start_is : start ≡ gone ++ o.frames
  pub given_is : given ≡ concat gone ++ take o.out (concat o.frames)
  pub within : IsWithinFirst o.out o.frames

pub record IsAllowed (frames : List (List ℕ)) (allowed : ℕ) (o : OutboxView) : Type 0 where
  pub few : length (concat frames) + o.allowed ≤ allowed + length (concat o.frames)
  pub out : o.out ≤ o.allowed
  pub there : o.allowed ≤ length (concat o.frames)

pub record IsInOrder (frames : List (List ℕ)) (allowed : ℕ) (before : List (List ℕ)) (given : List ℕ) (o : OutboxView)
    : Type 0 where
  pub order : InOrder frames before given o
  pub fits : IsAllowed frames allowed o

put-order : (frames : List (List ℕ)) (before : List (List ℕ)) (given : List ℕ) (o : OutboxView) (frame : List ℕ)
    → InOrder frames before given o → InOrder (frames ++ frame ∷ []) before given (with_frame o frame)
put-order frames before given o frame i =
    record {
      start = i.start ++ frame ∷ [];
      parts = parts-push frames before i.start frame i.parts;
      gone = i.gone;
      start_is = ap (λ t. t ++ frame ∷ []) i.start_is ∙ append_assoc i.gone o.frames (frame ∷ []);
      given_is = i.given_is ∙ ap (λ t. concat i.gone ++ t) (cut-push o.out o.frames frame i.within);
      within = within-push o.out o.frames frame i.within;
    }

put-fits : (frames : List (List ℕ)) (allowed : ℕ) (o : OutboxView) (frame : List ℕ)
    → IsAllowed frames allowed o → IsAllowed (frames ++ frame ∷ []) allowed (with_frame o frame)
put-fits frames allowed o frame f =
    let all = ap (λ t. length t) (concat-append frames (frame ∷ []))
    ∙ length-append (concat frames) (concat (frame ∷ [])) in
    let held = ap (λ t. length t) (concat-append o.frames (frame ∷ []))
    ∙ length-append (concat o.frames) (concat (frame ∷ [])) in
    record {
      few = omega (arith, f.few, all, held);
      out = f.out;
      there = omega (arith, f.there, held);
    }

allow-order : (frames : List (List ℕ)) (before : List (List ℕ)) (given : List ℕ) (o : OutboxView) (n : ℕ)
    → InOrder frames before given o → InOrder frames before given (allow_more n o)
allow-order frames before given o n i =
    record {
      start = i.start;
      parts = i.parts;
      gone = i.gone;
      start_is = i.start_is;
      given_is = i.given_is;
      within = i.within;
    }

allow-fits : (frames : List (List ℕ)) (allowed : ℕ) (o : OutboxView) (n : ℕ)
    → IsAllowed frames allowed o → IsAllowed frames (allowed + n) (allow_more n o)
allow-fits frames allowed o n f =
    record {
      few = omega (arith, f.few);
      out = omega (arith, f.out, f.there);
      there = omega arith;
    }

-- the bytes that are out after n more of those that are ready
pub sends_few : (o : OutboxView) (n : ℕ) → o.out ≤ o.allowed → n ≤ length (ready_of o) → o.out + n ≤ o.allowed
sends_few o n less ready =
    let size = length-take (o.allowed - o.out) (drop o.out (concat o.frames)) in
    omega (arith, less, ready, size)

ready_is : (o : OutboxView) (n : ℕ) → o.out + n ≤ o.allowed
    → take o.out (concat o.frames) ++ take n (ready_of o) ≡ take (o.out + n) (concat o.frames)
ready_is o n few =
    ap (λ t. take o.out (concat o.frames) ++ t)
    (take-take n (o.allowed - o.out) (drop o.out (concat o.frames)) (omega (arith, few)))
    ∙ sym (take_sum o.out n (concat o.frames))

send-order : (frames : List (List ℕ)) (before : List (List ℕ)) (given : List ℕ) (o p : OutboxView) (n : ℕ)
    → o.out + n ≤ o.allowed → Passed o.frames (o.out + n) o.allowed p → InOrder frames before given o
    → InOrder frames before (given ++ take n (ready_of o)) p
send-order frames before given o p n few s i =
    let all : concat o.frames ≡ concat s.gone ++ concat p.frames =
    ap concat s.frames_are ∙ concat-append s.gone p.frames in
    let out : take (o.out + n) (concat o.frames) ≡ concat s.gone ++ take p.out (concat p.frames) =
    (λ k. take (s.out_is k) (all k)) ∙ take-append-add (concat s.gone) (concat p.frames) p.out in
    record {
      start = i.start;
      parts = i.parts;
      gone = i.gone ++ s.gone;
      start_is = i.start_is ∙ ap (λ t. i.gone ++ t) s.frames_are ∙ sym (append_assoc i.gone s.gone p.frames);
      given_is = ap (λ t. t ++ take n (ready_of o)) i.given_is
          ∙ append_assoc (concat i.gone) (take o.out (concat o.frames)) (take n (ready_of o))
          ∙ ap (λ t. concat i.gone ++ t) (ready_is o n few ∙ out)
          ∙ sym (append_assoc (concat i.gone) (concat s.gone) (take p.out (concat p.frames)))
          ∙ ap (λ t. t ++ take p.out (concat p.frames)) (sym (concat-append i.gone s.gone));
      within = s.within;
    }

send-fits : (frames : List (List ℕ)) (allowed : ℕ) (o p : OutboxView) (n : ℕ)
    → o.out + n ≤ o.allowed → Passed o.frames (o.out + n) o.allowed p → IsAllowed frames allowed o
    → IsAllowed frames allowed p
send-fits frames allowed o p n few s f =
    let all : length (concat o.frames) ≡ length (concat s.gone) + length (concat p.frames) =
    ap (λ t. length (concat t)) s.frames_are ∙ ap (λ t. length t) (concat-append s.gone p.frames)
    ∙ length-append (concat s.gone) (concat p.frames) in
    record {
      few = omega (arith, f.few, all, s.allowed_is);
      out = omega (arith, few, s.out_is, s.allowed_is);
      there = omega (arith, f.there, all, s.allowed_is);
    }

again-order : (frames : List (List ℕ)) (before : List (List ℕ)) (given : List ℕ) (o : OutboxView)
    → InOrder frames before given o → InOrder frames (before ++ given ∷ []) [] (begun_again o)
again-order frames before given o i =
    record {
      start = o.frames;
      parts = parts-more frames before i.start given o.frames i.parts (record {
        gone = i.gone;
        cut = o.out;
        frames_are = i.start_is;
        given_is = i.given_is;
        cut_within = i.within;
      });
      gone = [];
      start_is = refl;
      given_is = refl;
      within = none_within o.frames;
    }

again-fits : (frames : List (List ℕ)) (allowed : ℕ) (o : OutboxView) → IsAllowed frames allowed o
    → IsAllowed frames allowed (begun_again o)
again-fits frames allowed o f = record { few = f.few; out = omega arith; there = f.there }

pub in_order : (frames : List (List ℕ)) (allowed : ℕ) (before : List (List ℕ)) (given : List ℕ) (o : OutboxView)
    → History frames allowed before given o → IsInOrder frames allowed before given o
in_order _ _ _ _ _ began =
    record {
      order = record {
        start = [];
        parts = refl;
        gone = [];
        start_is = refl;
        given_is = refl;
        within = refl;
      };
      fits = record { few = omega arith; out = omega arith; there = omega arith };
    }
in_order _ _ _ _ _ (put frames allowed before given o history frame) =
    let i = in_order frames allowed before given o history in
    record { order = put-order frames before given o frame i.order; fits = put-fits frames allowed o frame i.fits }
in_order _ _ _ _ _ (allow frames allowed before given o history n) =
    let i = in_order frames allowed before given o history in
    record { order = allow-order frames before given o n i.order; fits = allow-fits frames allowed o n i.fits }
in_order _ _ _ _ _ (send frames allowed before given o history n ready) =
    let i = in_order frames allowed before given o history in
    let few = sends_few o n i.fits.out ready in
    let s = passed_is o.frames (o.out + n) o.allowed (omega (arith, few, i.fits.there)) few in
    record {
      order = send-order frames before given o (send_more n o) n few s i.order;
      fits = send-fits frames allowed o (send_more n o) n few s i.fits;
    }
in_order _ _ _ _ _ (again frames allowed before given o history) =
    let i = in_order frames allowed before given o history in
    record { order = again-order frames before given o i.order; fits = again-fits frames allowed o i.fits }

-- the parts before, and the one in hand
pub parts_are : (frames : List (List ℕ)) (allowed : ℕ) (before : List (List ℕ)) (given : List ℕ) (o : OutboxView)
    → History frames allowed before given o → AreParts frames (before ++ given ∷ []) o.frames
parts_are frames allowed before given o history =
    let i = in_order frames allowed before given o history in
    parts-more frames before i.order.start given o.frames i.order.parts (record {
      gone = i.order.gone;
      cut = o.out;
      frames_are = i.order.start_is;
      given_is = i.order.given_is;
      cut_within = i.order.within;
    })

pub allowed_are : (frames : List (List ℕ)) (allowed : ℕ) (before : List (List ℕ)) (given : List ℕ) (o : OutboxView)
    → History frames allowed before given o
    → (length (concat frames) + o.allowed ≤ allowed + length (concat o.frames)) × (o.out ≤ o.allowed)
allowed_are frames allowed before given o history =
    let i = in_order frames allowed before given o history in (i.fits.few, i.fits.out)
