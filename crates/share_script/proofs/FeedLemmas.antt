-- Scripts in progress go on line by line and chunk by chunk, and print their answers.
use Rattle.std.proofs.Common.{◌≡◌, ◌≤◌, ℕ, Bool, false, List, [], ◌∷◌, ◌++◌, ◌+◌, ◌-◌, length, take, drop, Option}
use Rattle.std.proofs.Common.{None, Some, arith, sym, ◌∙◌, ap, subst, refl}
use mathlib.Core.List.{append_assoc}
use Rattle.memchr.specs.Find.{IsFirstByte}
use Rattle.std.proofs.lemmas.List.{append-nil, take-append-drop}
use Rattle.std.proofs.lemmas.List.Elements.{All-append}
use Rattle.share_model.specs.io.Told.{Told}
use Rattle.share_model.specs.text.Talk.{Progress, answer, talk, after, is_feed, lines_of}
use Rattle.share_model.specs.link.View.{LinkView}
use Rattle.share_model.specs.text.Answering.{Holds, AnswersBytes}
use Rattle.share_script.specs.Session.{SessionView, HoldsScript}
use Rattle.share_script.specs.Printing.{Spooled, SpooledPart}
use Rattle.share_script.specs.Script.{NoFeed, Went, IsTextBeginning, Feeds, FeedsPart, PrintedAnswer, PrintedAnswerPart}
use Rattle.share_script.proofs.ChunkLemmas.{piece_clean, piece_whole, last_clean, last_whole}
use Rattle.share_model.proofs.lemmas.text.EventLemmas.{answer-later}
use Rattle.share_script.proofs.LineLemmas.{ReadAlike, answer_same, reading_cut, clean_cut, alike_cut}
use Rattle.share_script.proofs.WentLemmas.{went_as, begins_as, went_more, begins_more, went_line, went_cut, begins_cut}
use Rattle.share_script.proofs.WentLemmas.{lines_as, lines_piece}
use Rattle.share_script.proofs.SpoolLemmas.{spooled_none, spooled_more, spooled_then_part, spooled_part}
use Rattle.share_script.proofs.SpoolLemmas.{spooled_as}

module _ {W : Type 0} (told : W → Option Told) where
  -- Chunks

  pub fed_none : (a : Option (List ℕ)) (waits : List ℕ) (old : SessionView W) (line : List ℕ)
      → Feeds told a waits a waits old line [] old line
  fed_none a waits old line = record {
    text = [];
    spooled = spooled_none a waits;
    went = λ p h clean. record {
      progress = p;
      stands = h;
      goes = λ rest lacks. record { more = lacks; texts = refl; states = refl };
      clean = clean;
      life = refl;
      rates = refl;
    };
  }

  pub fed_more : (a b c : Option (List ℕ)) (x y z : List ℕ) (old mid new : SessionView W)
      (line left last c1 c2 : List ℕ)
      → Feeds told a x b y old line c1 mid left → Feeds told b y c z mid left c2 new last
      → Feeds told a x c z old line (c1 ++ c2) new last
  fed_more a b c x y z old mid new line left last c1 c2 f g = record {
    text = f.text ++ g.text;
    spooled = spooled_more a b c x y z f.text g.text f.spooled g.spooled;
    went = λ p h clean.
        let u = f.went p h clean in
        let v = g.went u.progress u.stands u.clean in record {
          progress = v.progress;
          stands = v.stands;
          goes = λ rest lacks.
              let w = went_as old.link.life mid.link.life old.link.rates mid.link.rates u.progress _ g.text v.progress _
              lacks u.life
              u.rates (v.goes rest lacks) in
              let P : List (List ℕ)
              → Type 0 =
              λ ls. Went old.link.life old.link.rates p ls (f.text ++ g.text) v.progress (lines_of (last ++ rest))
              lacks in
              subst P (lines_as line c1 c2 rest)
              (went_more old.link.life old.link.rates p u.progress v.progress _ _ _ f.text g.text lacks w
              (u.goes (c2 ++ rest) w.more));
          clean = v.clean;
          life = v.life ∙ u.life;
          rates = v.rates ∙ u.rates;
        };
  }

  pub fed_then_part : (a b c : Option (List ℕ)) (x y : List ℕ) (old mid : SessionView W) (line left c1 c2 : List ℕ)
      → Feeds told a x b y old line c1 mid left → FeedsPart told b y c mid left c2
      → FeedsPart told a x c old line (c1 ++ c2)
  fed_then_part a b c x y old mid line left c1 c2 f g = record {
    text = f.text ++ g.text;
    spooled = spooled_then_part a b c x y f.text g.text f.spooled g.spooled;
    broke = λ p h clean rest.
        let u = f.went p h clean in
        let w = begins_as old.link.life mid.link.life old.link.rates mid.link.rates u.progress _ g.text u.life u.rates
        (g.broke u.progress u.stands u.clean rest) in
        let P : List (List ℕ) → Type 0 = λ ls. IsTextBeginning old.link.life old.link.rates p ls (f.text ++ g.text) in
        subst P (lines_as line c1 c2 rest)
        (begins_more old.link.life old.link.rates p u.progress _ _ f.text g.text w (u.goes (c2 ++ rest) w.lacks));
  }

  pub part_longer : (a b : Option (List ℕ)) (x : List ℕ) (old : SessionView W) (line c1 c2 : List ℕ)
      → FeedsPart told a x b old line c1 → FeedsPart told a x b old line (c1 ++ c2)
  part_longer a b x old line c1 c2 f = record {
    text = f.text;
    spooled = f.spooled;
    broke = λ p h clean rest.
        let P : List (List ℕ) → Type 0 = λ ls. IsTextBeginning old.link.life old.link.rates p ls f.text in
        subst P (lines_as line c1 c2 rest) (f.broke p h clean (c2 ++ rest));
  }

  pub part_as : (a b : Option (List ℕ)) (x : List ℕ) (old : SessionView W) (line c d : List ℕ) → c ≡ d
      → FeedsPart told a x b old line c → FeedsPart told a x b old line d
  part_as a b x old line c d e f = let P : List ℕ → Type 0 = λ r. FeedsPart told a x b old line r in subst P e f

  begins_by : (a b : Option (List ℕ)) (x y : List ℕ) (old mid : SessionView W) (line left c1 : List ℕ)
      (f : Feeds told a x b y old line c1 mid left) (p : Progress) → HoldsScript told old p → NoFeed line
      → (rest : List ℕ)
      → IsTextBeginning old.link.life old.link.rates p (lines_of (line ++ (c1 ++ rest))) f.text
  begins_by a b x y old mid line left c1 f p h clean rest =
      let u = f.went p h clean in
      let w = u.goes rest [] in
      record {
        lacks = w.more;
        tail = talk old.link.life old.link.rates u.progress [] (lines_of (left ++ rest));
        texts = w.texts;
      }

  -- the bytes that were printed while nothing of the rest was read
  pub part_of : (a b : Option (List ℕ)) (x y : List ℕ) (old mid : SessionView W) (line left c1 : List ℕ)
      → Feeds told a x b y old line c1 mid left → FeedsPart told a x b old line c1
  part_of a b x y old mid line left c1 f = record {
    text = f.text;
    spooled = spooled_part a b x y f.text f.spooled;
    broke = λ p h clean rest. begins_by a b x y old mid line left c1 f p h clean rest;
  }

  -- the bytes that were printed if the rest of those that wait was not
  pub part_then : (a b c : Option (List ℕ)) (x y : List ℕ) (old mid : SessionView W) (line left c1 : List ℕ)
      → Feeds told a x b y old line c1 mid left → SpooledPart b y c [] → FeedsPart told a x c old line c1
  part_then a b c x y old mid line left c1 f s =
      let P : List ℕ → Type 0 = λ t. SpooledPart a x c t in
      record {
        text = f.text;
        spooled = subst P (append-nil f.text) (spooled_then_part a b c x y f.text [] f.spooled s);
        broke = λ p h clean rest. begins_by a b x y old mid line left c1 f p h clean rest;
      }

  -- the bytes that were printed if all that waited then were
  pub fed_then : (a b c : Option (List ℕ)) (x y z : List ℕ) (old new : SessionView W) (line left c1 : List ℕ)
      → Feeds told a x b y old line c1 new left → Spooled b y c z [] → Feeds told a x c z old line c1 new left
  fed_then a b c x y z old new line left c1 f s = record {
    text = f.text;
    spooled =
        spooled_as a c x z (f.text ++ []) f.text (append-nil f.text) (spooled_more a b c x y z f.text [] f.spooled s);
    went = f.went;
  }

  -- the bytes that waited before, by another name
  pub fed_from : (a b : Option (List ℕ)) (x w y : List ℕ) (old new : SessionView W) (line left c1 : List ℕ) → x ≡ w
      → Feeds told a x b y old line c1 new left → Feeds told a w b y old line c1 new left
  fed_from a b x w y old new line left c1 e f = subst (λ z. Feeds told a z b y old line c1 new left) e f

  pub part_from : (a b : Option (List ℕ)) (x w : List ℕ) (old : SessionView W) (line c1 : List ℕ) → x ≡ w
      → FeedsPart told a x b old line c1 → FeedsPart told a w b old line c1
  part_from a b x w old line c1 e f = subst (λ z. FeedsPart told a z b old line c1) e f

  pub printed_part_from : (a b : Option (List ℕ)) (x w : List ℕ) (old : SessionView W) (line : List ℕ) → x ≡ w
      → PrintedAnswerPart told a x b old line → PrintedAnswerPart told a w b old line
  printed_part_from a b x w old line e f = subst (λ z. PrintedAnswerPart told a z b old line) e f

  pub printed_from : (a b : Option (List ℕ)) (x w y : List ℕ) (old : SessionView W) (line : List ℕ)
      (new : SessionView W) → x ≡ w
      → PrintedAnswer told a x b y old line new → PrintedAnswer told a w b y old line new
  printed_from a b x w y old line new e f = subst (λ z. PrintedAnswer told a z b y old line new) e f

  -- the same line
  pub printed_as : (a b : Option (List ℕ)) (x y : List ℕ) (old : SessionView W) (xs ys : List ℕ) (new : SessionView W)
      → xs ≡ ys
      → PrintedAnswer told a x b y old xs new → PrintedAnswer told a x b y old ys new
  printed_as a b x y old xs ys new e f = subst (λ z. PrintedAnswer told a x b y old z new) e f

  pub printed_part_as : (a b : Option (List ℕ)) (x : List ℕ) (old : SessionView W) (xs ys : List ℕ) → xs ≡ ys
      → PrintedAnswerPart told a x b old xs → PrintedAnswerPart told a x b old ys
  printed_part_as a b x old xs ys e f = subst (λ z. PrintedAnswerPart told a x b old z) e f

  -- A line and its line feed

  says_same : (old : LinkView W) (first : Bool) (xs ys text : List ℕ) (new : LinkView W) → ReadAlike xs ys
      → AnswersBytes told old first xs text new → AnswersBytes told old first ys text new
  says_same old first xs ys text new e says p h place =
      let answer_is = says p h place in
      let same = answer_same old.life old.rates p answer_is.lack xs ys e in
      let P : Progress → Type 0 = λ t. Holds told new t in record {
        lack = answer_is.lack;
        text_is = answer_is.text_is ∙ ap (λ (a : Progress × List ℕ). a.1) same;
        holds = subst P (ap (λ (a : Progress × List ℕ). a.0) same) answer_is.holds;
        life = answer_is.life;
        rates = answer_is.rates;
      }

  pub printed_same : (a b : Option (List ℕ)) (x y : List ℕ) (old : SessionView W) (xs ys : List ℕ) (new : SessionView W)
      → ReadAlike xs ys → PrintedAnswer told a x b y old xs new → PrintedAnswer told a x b y old ys new
  printed_same a b x y old xs ys new e printed =
      record {
        text = printed.text;
        spooled = printed.spooled;
        says = says_same old.link old.first xs ys printed.text new.link e printed.says;
        later = printed.later;
      }

  pub part_same : (a b : Option (List ℕ)) (x : List ℕ) (old : SessionView W) (xs ys : List ℕ) → ReadAlike xs ys
      → PrintedAnswerPart told a x b old xs → PrintedAnswerPart told a x b old ys
  part_same a b x old xs ys e printed = record {
    text = printed.text;
    spooled = printed.spooled;
    begins = λ p h ls. begins_cut old.link.life old.link.rates p xs ys printed.text ls e (printed.begins p h ls);
  }

  begins_said : (old : SessionView W) (line text : List ℕ) (new : SessionView W)
      → AnswersBytes told old.link old.first line text new.link → (p : Progress) → HoldsScript told old p
      → (ls : List (List ℕ))
      → IsTextBeginning old.link.life old.link.rates p (line ∷ ls) text
  begins_said old line text new says p h ls =
      let answer_is = says p h.holds h.place in
      let w = went_line old.link.life old.link.rates p answer_is.lack line text ls [] answer_is.text_is in
      record {
        lacks = w.more;
        tail = talk old.link.life old.link.rates (answer old.link.life old.link.rates p answer_is.lack line).0 [] ls;
        texts = w.texts;
      }

  -- the answer waits, and a part of it was not printed
  pub printed_part : (a b c : Option (List ℕ)) (x y : List ℕ) (old : SessionView W) (line : List ℕ)
      (new : SessionView W)
      → PrintedAnswer told a x b y old line new → SpooledPart b y c [] → PrintedAnswerPart told a x c old line
  printed_part a b c x y old line new printed s =
      let P : List ℕ → Type 0 = λ t. SpooledPart a x c t in record {
        text = printed.text;
        spooled = subst P (append-nil printed.text) (spooled_then_part a b c x y printed.text [] printed.spooled s);
        begins = λ p h ls. begins_said old line printed.text new printed.says p h ls;
      }

  -- the answer was printed after what waits
  pub printed_text : (a b c : Option (List ℕ)) (x y z : List ℕ) (old : SessionView W) (line text shown : List ℕ)
      (new : SessionView W)
      → Spooled a x b y [] → shown ≡ text → Spooled b y c z shown
      → AnswersBytes told old.link old.first line text new.link → new.first ≡ false
      → PrintedAnswer told a x c z old line new
  printed_text a b c x y z old line text shown new s same t says later = record {
    text = text;
    spooled = spooled_more a b c x y z [] text s (spooled_as b c y z shown text same t);
    says = says;
    later = later;
  }

  -- no more of it was printed than a beginning
  pub printed_text_part : (a b c : Option (List ℕ)) (x y : List ℕ) (old : SessionView W) (line text shown : List ℕ)
      (new : SessionView W)
      → Spooled a x b y [] → shown ≡ text → SpooledPart b y c shown
      → AnswersBytes told old.link old.first line text new.link → PrintedAnswerPart told a x c old line
  printed_text_part a b c x y old line text shown new s same t says = record {
    text = text;
    spooled = spooled_then_part a b c x y [] text s (subst (λ r. SpooledPart b y c r) same t);
    begins = λ p h ls. begins_said old line text new says p h ls;
  }

  -- the bytes that wait were written after the answer
  pub printed_then : (a b c : Option (List ℕ)) (x y z : List ℕ) (old : SessionView W) (line : List ℕ)
      (new : SessionView W)
      → PrintedAnswer told a x b y old line new → Spooled b y c z [] → PrintedAnswer told a x c z old line new
  printed_then a b c x y z old line new printed s = record {
    text = printed.text;
    spooled =
        spooled_as a c x z (printed.text ++ []) printed.text (append-nil printed.text)
        (spooled_more a b c x y z printed.text [] printed.spooled s);
    says = printed.says;
    later = printed.later;
  }

  fed_line : (a b : Option (List ℕ)) (x y : List ℕ) (old new : SessionView W) (line piece : List ℕ)
      → PrintedAnswer told a x b y old (take 20481 (line ++ piece)) new → NoFeed piece
      → Feeds told a x b y old line (piece ++ 10 ∷ []) new []
  fed_line a b x y old new line piece printed also = record {
    text = printed.text;
    spooled = printed.spooled;
    went = λ p h clean.
        let answer_is = printed.says p h.holds h.place in
        let next = (answer old.link.life old.link.rates p answer_is.lack (take 20481 (line ++ piece))).0 in record {
          progress = next;
          stands = record { holds = answer_is.holds; place = answer-later _ _ p _ _ ∙ sym printed.later };
          goes = λ rest lacks.
              let P : List (List ℕ)
              → Type 0 = λ ls. Went old.link.life old.link.rates p ls printed.text next (lines_of rest) lacks in
              subst P (sym (lines_piece line piece rest clean also))
              (went_cut old.link.life old.link.rates p (take 20481 (line ++ piece)) (line ++ piece) printed.text next
              (lines_of rest) (lines_of rest) lacks (reading_cut (line ++ piece))
              (went_line old.link.life old.link.rates p answer_is.lack (take 20481 (line ++ piece)) printed.text
              (lines_of rest) lacks answer_is.text_is));
          clean = λ k d z. absurd (omega arith);
          life = answer_is.life;
          rates = answer_is.rates;
        };
  }

  part_line : (a b : Option (List ℕ)) (x : List ℕ) (old : SessionView W) (line piece : List ℕ)
      → PrintedAnswerPart told a x b old (take 20481 (line ++ piece)) → NoFeed piece
      → FeedsPart told a x b old line (piece ++ 10 ∷ [])
  part_line a b x old line piece printed also = record {
    text = printed.text;
    spooled = printed.spooled;
    broke = λ p h clean rest.
        let P : List (List ℕ) → Type 0 = λ ls. IsTextBeginning old.link.life old.link.rates p ls printed.text in
        subst P (sym (lines_piece line piece rest clean also))
        (begins_cut old.link.life old.link.rates p _ (line ++ piece) printed.text (lines_of rest)
        (reading_cut (line ++ piece)) (printed.begins p h (lines_of rest)));
  }

  fed_by_line : (a b : Option (List ℕ)) (x y : List ℕ) (old new : SessionView W) (line piece : List ℕ)
      → PrintedAnswer told a x b y old (line ++ piece) new → NoFeed piece
      → Feeds told a x b y old line (piece ++ 10 ∷ []) new []
  fed_by_line a b x y old new line piece printed also =
      fed_line a b x y old new line piece
      (printed_same a b x y old (line ++ piece) (take 20481 (line ++ piece)) new
      (λ version. sym (reading_cut (line ++ piece) version))
      printed) also

  part_by_line : (a b : Option (List ℕ)) (x : List ℕ) (old : SessionView W) (line piece : List ℕ)
      → PrintedAnswerPart told a x b old (line ++ piece) → NoFeed piece
      → FeedsPart told a x b old line (piece ++ 10 ∷ [])
  part_by_line a b x old line piece printed also =
      part_line a b x old line piece
      (part_same a b x old (line ++ piece) (take 20481 (line ++ piece))
      (λ version. sym (reading_cut (line ++ piece) version))
      printed)
      also

  -- A piece without its line feed

  fed_piece : (a : Option (List ℕ)) (x : List ℕ) (old : SessionView W) (line piece : List ℕ) → NoFeed piece
      → Feeds told a x a x old line piece old (take 20481 (line ++ piece))
  fed_piece a x old line piece also = record {
    text = [];
    spooled = spooled_none a x;
    went = λ p h clean.
        let whole = All-append (λ b. is_feed b ≡ false) line piece clean also in record {
          progress = p;
          stands = h;
          goes = λ rest lacks.
              let alike = alike_cut (line ++ piece) rest whole in
              let e : line ++ (piece ++ rest) ≡ (line ++ piece) ++ rest = sym (append_assoc line piece rest) in record {
                more = lacks;
                texts = ap (λ r. talk old.link.life old.link.rates p lacks (lines_of r)) e
                    ∙ alike.texts old.link.life old.link.rates p lacks;
                states = ap (λ r. after old.link.life old.link.rates p lacks (lines_of r)) e
                    ∙ alike.states old.link.life old.link.rates p lacks;
              };
          clean = clean_cut (line ++ piece) whole;
          life = refl;
          rates = refl;
        };
  }

  -- A chunk, up to a place

  pub record FedUpTo (a : Option (List ℕ)) (x : List ℕ) (b : Option (List ℕ)) (y : List ℕ) (old : SessionView W)
      (line chunk : List ℕ) (at : ℕ) (new : SessionView W) (left : List ℕ) : Type 0 where
    pub few : at ≤ length chunk
    pub fed : Feeds told a x b y old line (take at chunk) new left

  pub up_to_none : (a : Option (List ℕ)) (x : List ℕ) (old : SessionView W) (line chunk : List ℕ)
      → FedUpTo a x a x old line chunk 0 old line
  up_to_none a x old line chunk = record { few = omega arith; fed = fed_none a x old line }

  pub up_to_more : (a b c : Option (List ℕ)) (x y z : List ℕ) (old mid new : SessionView W)
      (line left next chunk : List ℕ)
      (at count : ℕ) → FedUpTo a x b y old line chunk at mid left
      → IsFirstByte is_feed (take (length chunk - at) (drop at chunk)) (Some count)
      → PrintedAnswer told b y c z mid (left ++ take (at + count - at) (drop at chunk)) new → next ≡ []
      → FedUpTo a x c z old line chunk (at + (count + 1)) new next
  up_to_more a b c x y z old mid new line left next chunk at count so first printed none =
      let w = piece_whole chunk at count so.few first in
      let piece = take (at + count - at) (drop at chunk) in
      let more = fed_more a b c x y z old mid new line left [] (take at chunk) (piece ++ 10 ∷ []) so.fed
      (fed_by_line b c y z mid new left piece printed (piece_clean chunk at count first)) in
      let P : List ℕ → Type 0 = λ r. Feeds told a x c z old line r new next in
      let Q : List ℕ → Type 0 = λ r. Feeds told a x c z old line (take at chunk ++ (piece ++ 10 ∷ [])) new r in
      record { few = w.0; fed = subst P w.1 (subst Q (sym none) more) }

  pub up_to_broke : (a b c : Option (List ℕ)) (x y : List ℕ) (old mid : SessionView W) (line left chunk : List ℕ)
      (at count : ℕ)
      → FedUpTo a x b y old line chunk at mid left
      → IsFirstByte is_feed (take (length chunk - at) (drop at chunk)) (Some count)
      → PrintedAnswerPart told b y c mid (left ++ take (at + count - at) (drop at chunk))
      → FeedsPart told a x c old line chunk
  up_to_broke a b c x y old mid line left chunk at count so first printed =
      let w = piece_whole chunk at count so.few first in
      let piece = take (at + count - at) (drop at chunk) in
      let part = fed_then_part a b c x y old mid line left (take at chunk) (piece ++ 10 ∷ []) so.fed
      (part_by_line b c y mid left piece printed (piece_clean chunk at count first)) in
      let front : FeedsPart told a x c old line (take (at + (count + 1)) chunk) = part_as a c x old line _ _ w.1 part in
      part_as a c x old line _ chunk (take-append-drop (at + (count + 1)) chunk)
      (part_longer a c x old line (take (at + (count + 1)) chunk) (drop (at + (count + 1)) chunk) front)

  pub up_to_end : (a b : Option (List ℕ)) (x y : List ℕ) (old mid : SessionView W) (line left next chunk : List ℕ)
      (at : ℕ)
      → FedUpTo a x b y old line chunk at mid left
      → IsFirstByte is_feed (take (length chunk - at) (drop at chunk)) None
      → next ≡ take 20481 (left ++ take (length chunk - at) (drop at chunk))
      → Feeds told a x b y old line chunk mid next
  up_to_end a b x y old mid line left next chunk at so none e =
      let piece = take (length chunk - at) (drop at chunk) in
      let more = fed_more a b b x y y old mid mid line left _ (take at chunk) piece so.fed
      (fed_piece b y mid left piece (last_clean chunk at none)) in
      let P : List ℕ → Type 0 = λ r. Feeds told a x b y old line r mid next in
      let Q : List ℕ → Type 0 = λ r. Feeds told a x b y old line (take at chunk ++ piece) mid r in
      subst P (last_whole chunk at so.few) (subst Q (sym e) more)
