-- The lines of a script, and that of a line that is too long only the beginning counts.
use Rattle.std.proofs.Common.{◌≡◌, ◌<◌, ◌≤◌, ◌⊎◌, inl, inr, ℕ, Bool, true, false, List, [], ◌∷◌, ◌++◌, length, take}
use Rattle.std.proofs.Common.{drop, arith, sym, ◌∙◌, ap, refl, length-append, length-take}
use mathlib.Core.List.{append_assoc}
use Rattle.std.proofs.lemmas.List.{take_all, get_or-take}
use Rattle.std.proofs.lemmas.List.Elements.{All-append, All-cons, All-from_get_or}
use Rattle.std.proofs.lemmas.List.Splits.{slice_split_none}
use Rattle.std.proofs.lemmas.Bool.Decides.{nat_tests, leb_tells}
use Rattle.share_base.specs.declared.version.Version.{Version}
use Rattle.share_model.specs.declared.rates.Rate.{Rate}
use Rattle.share_model.specs.text.Lines.{reading}
use Rattle.share_model.specs.text.Talk.{Progress, read_event, progress_and_text, answer, first_flag, talk}
use Rattle.share_model.specs.text.Talk.{after}
use Rattle.share_model.specs.text.Talk.{is_feed, last_line, without_empty_end, lines_of}
use Rattle.share_model.proofs.lemmas.text.LineFeedLemmas.{lines-feed}
use Rattle.share_script.specs.Script.{NoFeed}
use Rattle.share_text.proofs.ReadingLemmas.{too_long}

-- Lines

pub lines-end : (bs : List ℕ) → NoFeed bs → lines_of bs ≡ last_line bs
lines-end bs clean = ap without_empty_end (slice_split_none is_feed bs clean)

pub last-some : (bs : List ℕ) → 0 < length bs → last_line bs ≡ bs ∷ []
last-some [] h = absurd (omega arith)
last-some (b ∷ bs) h = refl

-- Long lines are cut

-- they are read alike in either version
abbrev pub ReadAlike : List ℕ → List ℕ → Type 0
ReadAlike xs ys = (version : Version) → reading version xs ≡ reading version ys

long_same : (xs ys : List ℕ) → 20480 < length xs → 20480 < length ys → ReadAlike xs ys
long_same xs ys h k version = sym (too_long version xs h) ∙ too_long version ys k

pub answer_same : (life : ℕ) (rates : List Rate) (s : Progress) (lack : Bool) (xs ys : List ℕ)
    → ReadAlike xs ys → answer life rates s lack xs ≡ answer life rates s lack ys
unfolding answer
answer_same life rates s lack xs ys e =
    ap (λ r. progress_and_text rates s (read_event life rates s lack r)) (e s.state.live.version)

pub talk_same : (life : ℕ) (rates : List Rate) (s : Progress) (lacks : List Bool) (xs ys : List ℕ)
    (ls : List (List ℕ)) → ReadAlike xs ys → talk life rates s lacks (xs ∷ ls)
    ≡ talk life rates s lacks (ys ∷ ls)
unfolding talk
talk_same life rates s lacks xs ys ls e =
    ap (λ (a : Progress × List ℕ). a.1 ++ talk life rates a.0 (drop 1 lacks) ls)
    (answer_same life rates s (first_flag lacks) xs ys e)

pub after_same : (life : ℕ) (rates : List Rate) (s : Progress) (lacks : List Bool) (xs ys : List ℕ)
    (ls : List (List ℕ)) → ReadAlike xs ys → after life rates s lacks (xs ∷ ls)
    ≡ after life rates s lacks (ys ∷ ls)
unfolding after
after_same life rates s lacks xs ys ls e =
    ap (λ (a : Progress × List ℕ). after life rates a.0 (drop 1 lacks) ls)
    (answer_same life rates s (first_flag lacks) xs ys e)

short_or_long : (n : ℕ) → (n ≤ 20481) ⊎ (20481 < n)
short_or_long n = elim (leb_tells n 20481) [ inl p ↦ inl p.1 | inr p ↦ inr p.1 ]

pub reading_cut : (bs : List ℕ) → ReadAlike (take 20481 bs) bs
reading_cut bs = cut_by (short_or_long (length bs))
  where
    cut_by : (length bs ≤ 20481) ⊎ (20481 < length bs) → ReadAlike (take 20481 bs) bs
    cut_by (inl h) = λ version. ap (reading version) (take_all 20481 bs h)
    cut_by (inr h) = long_same (take 20481 bs) bs (omega (arith, length-take 20481 bs)) (omega arith)

pub clean_cut : (bs : List ℕ) → NoFeed bs → NoFeed (take 20481 bs)
clean_cut bs clean = All-from_get_or (λ b. is_feed b ≡ false) (take 20481 bs) 0 (λ i h.
    let below : i < 20481 = omega (arith, length-take 20481 bs) in
    let inside : i < length bs = omega (arith, length-take 20481 bs) in
    rw (get_or-take 20481 bs i 0 below) (clean i 0 inside))

-- the first line feed of a list
data Feed (bs : List ℕ) : Type 0 where
  no_feed : NoFeed bs → Feed bs
  at_feed : (front back : List ℕ) → NoFeed front → bs ≡ front ++ 10 ∷ back → Feed bs

feed_step : (b : ℕ) (bs : List ℕ) (t : Bool) → is_feed b ≡ t → Feed bs → Feed (b ∷ bs)
feed_step b bs true e f = at_feed [] bs (λ k d h. absurd (omega arith)) (ap (λ c. c ∷ bs) (feed_is b e))
  where
    feed_is : (c : ℕ) → is_feed c ≡ true → c ≡ 10
    feed_is c h = grind (arith, nat_tests)
feed_step b bs false e (no_feed clean) = no_feed (All-cons (λ c. is_feed c ≡ false) b bs e clean)
feed_step b bs false e (at_feed front back clean is) =
    at_feed (b ∷ front) back (All-cons (λ c. is_feed c ≡ false) b front e clean) (ap (λ r. b ∷ r) is)

feed_of : (bs : List ℕ) → Feed bs
feed_of [] = no_feed (λ k d h. absurd (omega arith))
feed_of (b ∷ bs) = feed_step b bs _ refl (feed_of bs)

-- lines that are the same after the first, which is too long
pub record SameLines (xs ys : List ℕ) : Type 0 where
  pub first : List ℕ
  pub other : List ℕ
  pub rest : List (List ℕ)
  pub xs_are : lines_of xs ≡ first ∷ rest
  pub ys_are : lines_of ys ≡ other ∷ rest
  pub first_long : 20480 < length first
  pub other_long : 20480 < length other

longer : (bs rest : List ℕ) → 20480 < length bs → 20480 < length (bs ++ rest)
longer bs rest h = omega (arith, length-append bs rest)

long_lines : (bs rest : List ℕ) → NoFeed bs → 20481 < length bs → Feed rest
    → SameLines (bs ++ rest) (take 20481 bs ++ rest)
long_lines bs rest clean long (no_feed none) =
    let n : 20480 < length (take 20481 bs) = omega (arith, length-take 20481 bs) in
    let p = longer bs rest (omega arith) in
    let q = longer (take 20481 bs) rest n in record {
      first = bs ++ rest;
      other = take 20481 bs ++ rest;
      rest = [];
      xs_are = lines-end (bs ++ rest) (All-append (λ b. is_feed b ≡ false) bs rest clean none)
          ∙ last-some _ (omega arith);
      ys_are = lines-end (take 20481 bs ++ rest)
          (All-append (λ b. is_feed b ≡ false) (take 20481 bs) rest (clean_cut bs clean) none)
          ∙ last-some _ (omega arith);
      first_long = p;
      other_long = q;
    }
long_lines bs rest clean long (at_feed front back none is) =
    let n : 20480 < length (take 20481 bs) = omega (arith, length-take 20481 bs) in
    let p = longer bs front (omega arith) in
    let q = longer (take 20481 bs) front n in record {
      first = bs ++ front;
      other = take 20481 bs ++ front;
      rest = lines_of back;
      xs_are = ap (λ r. lines_of (bs ++ r)) is ∙ ap lines_of (sym (append_assoc bs front (10 ∷ back)))
          ∙ lines-feed (bs ++ front) back (All-append (λ b. is_feed b ≡ false) bs front clean none);
      ys_are = ap (λ r. lines_of (take 20481 bs ++ r)) is
          ∙ ap lines_of (sym (append_assoc (take 20481 bs) front (10 ∷ back)))
          ∙ lines-feed (take 20481 bs ++ front) back
          (All-append (λ b. is_feed b ≡ false) (take 20481 bs) front (clean_cut bs clean) none);
      first_long = p;
      other_long = q;
    }

-- lines that are answered alike from every state
pub record Alike (xs ys : List ℕ) : Type 0 where
  pub texts : (life : ℕ) (rates : List Rate) (s : Progress) (lacks : List Bool)
      → talk life rates s lacks (lines_of xs) ≡ talk life rates s lacks (lines_of ys)
  pub states : (life : ℕ) (rates : List Rate) (s : Progress) (lacks : List Bool)
      → after life rates s lacks (lines_of xs) ≡ after life rates s lacks (lines_of ys)

alike_long : (xs ys : List ℕ) → SameLines xs ys → Alike xs ys
alike_long xs ys e =
    let same = long_same e.first e.other e.first_long e.other_long in
    record {
      texts = λ life rates s lacks. ap (talk life rates s lacks) e.xs_are
          ∙ talk_same life rates s lacks e.first e.other e.rest same ∙ ap (talk life rates s lacks) (sym e.ys_are);
      states = λ life rates s lacks. ap (after life rates s lacks) e.xs_are
          ∙ after_same life rates s lacks e.first e.other e.rest same ∙ ap (after life rates s lacks) (sym e.ys_are);
    }

-- the beginning of a line is all of it, or the line is too long with either
pub cut_or_long : (bs rest : List ℕ) → NoFeed bs
    → (bs ≡ take 20481 bs) ⊎ SameLines (bs ++ rest) (take 20481 bs ++ rest)
cut_or_long bs rest clean = by_length (short_or_long (length bs))
  where
    by_length : (length bs ≤ 20481) ⊎ (20481 < length bs)
        → (bs ≡ take 20481 bs) ⊎ SameLines (bs ++ rest) (take 20481 bs ++ rest)
    by_length (inl h) = inl (sym (take_all 20481 bs h))
    by_length (inr h) = inr (long_lines bs rest clean h (feed_of rest))

pub alike_cut : (bs rest : List ℕ) → NoFeed bs → Alike (bs ++ rest) (take 20481 bs ++ rest)
alike_cut bs rest clean = cut_by (cut_or_long bs rest clean)
  where
    cut_by : (bs ≡ take 20481 bs) ⊎ SameLines (bs ++ rest) (take 20481 bs ++ rest)
        → Alike (bs ++ rest) (take 20481 bs ++ rest)
    cut_by (inl e) = record {
      texts = λ life rates s lacks. ap (λ r. talk life rates s lacks (lines_of (r ++ rest))) e;
      states = λ life rates s lacks. ap (λ r. after life rates s lacks (lines_of (r ++ rest))) e;
    }
    cut_by (inr long) = alike_long _ _ long
