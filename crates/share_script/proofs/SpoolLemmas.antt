-- Texts that wait are printed one after the other.
use Rattle.std.proofs.Common.{◌≡◌, ℕ, List, [], ◌++◌, take, drop, Option, sym, ◌∙◌, ap, subst}
use mathlib.Core.List.{append_assoc}
use Rattle.std.specs.Io.KnownBytes.{Appends}
use Rattle.std.proofs.KnownBytes.{Appends-trans}
use Rattle.std.proofs.lemmas.List.{append-nil, take-append-drop}
use Rattle.share_model.specs.io.Printing.{AppendsPart}
use Rattle.share_script.specs.Printing.{Spooled, SpooledPart}
use Rattle.std.proofs.KnownBytes.{Appends-nil}

-- the bytes of a text that waits
pub spooled_text : (a : Option (List ℕ)) (p q text : List ℕ) → q ≡ p ++ text → Spooled a p a q text
spooled_text a p q text e = record { out = []; appends = Appends-nil a; same = sym e }

pub spooled_none : (a : Option (List ℕ)) (p : List ℕ) → Spooled a p a p []
spooled_none a p = spooled_text a p p [] (sym (append-nil p))

pub spooled_more : (a b c : Option (List ℕ)) (p q r x y : List ℕ) → Spooled a p b q x → Spooled b q c r y
    → Spooled a p c r (x ++ y)
spooled_more a b c p q r x y s t = record {
  out = s.out ++ t.out;
  appends = Appends-trans a b c s.out t.out s.appends t.appends;
  same =
      sym (append_assoc p x y) ∙ ap (λ z. z ++ y) s.same ∙ append_assoc s.out q y ∙ ap (λ z. s.out ++ z) t.same
      ∙ sym (append_assoc s.out t.out r);
}

pub spooled_then_part : (a b c : Option (List ℕ)) (p q x y : List ℕ) → Spooled a p b q x → SpooledPart b q c y
    → SpooledPart a p c (x ++ y)
spooled_then_part a b c p q x y s t = record {
  out = s.out ++ t.out;
  rest = t.rest;
  appends = Appends-trans a b c s.out t.out s.appends t.appends;
  same =
      sym (append_assoc p x y) ∙ ap (λ z. z ++ y) s.same ∙ append_assoc s.out q y ∙ ap (λ z. s.out ++ z) t.same
      ∙ sym (append_assoc s.out t.out t.rest);
}

-- the bytes that wait are a rest
pub spooled_part : (a b : Option (List ℕ)) (p q x : List ℕ) → Spooled a p b q x → SpooledPart a p b x
spooled_part a b p q x s = record { out = s.out; rest = q; appends = s.appends; same = s.same }

-- all that waited was written
pub spooled_out : (a b : Option (List ℕ)) (p bs : List ℕ) → bs ≡ p → Appends a b bs → Spooled a p b [] []
spooled_out a b p bs e h = record { out = bs; appends = h; same = ap (λ r. r ++ []) (sym e) }

-- a beginning of what waited was written
pub spooled_out_part : (a b : Option (List ℕ)) (p bs : List ℕ) → bs ≡ p → AppendsPart a b bs → SpooledPart a p b []
spooled_out_part a b p bs e h = record {
  out = take h.0 bs;
  rest = drop h.0 bs;
  appends = h.1;
  same = append-nil p ∙ sym e ∙ sym (take-append-drop h.0 bs);
}

-- nothing waited, and nothing waits: the text is out
pub spooled_whole : (a b : Option (List ℕ)) (x : List ℕ) → Spooled a [] b [] x → Appends a b x
spooled_whole a b x s = subst (λ y. Appends a b y) (sym (s.same ∙ append-nil s.out)) s.appends

-- the bytes of a text that is followed by nothing
pub spooled_as : (a b : Option (List ℕ)) (p q x y : List ℕ) → x ≡ y → Spooled a p b q x → Spooled a p b q y
spooled_as a b p q x y e s = subst (λ z. Spooled a p b q z) e s

-- no more of a text was printed than a beginning of what waited before it
pub spooled_before : (a b : Option (List ℕ)) (p x : List ℕ) → SpooledPart a p b [] → SpooledPart a p b x
spooled_before a b p x s = record {
  out = s.out;
  rest = s.rest ++ x;
  appends = s.appends;
  same = ap (λ r. r ++ x) (sym (append-nil p) ∙ s.same) ∙ append_assoc s.out s.rest x;
}

-- all that waited was written, and then a text, or a beginning of it
pub spooled_at_once : (a b c : Option (List ℕ)) (p q x : List ℕ) → Spooled a p b [] [] → q ≡ [] → Appends b c x
    → Spooled a p c q x
spooled_at_once a b c p q x s none h =
    spooled_more a b c p [] q [] x s
    (record { out = x; appends = h; same = sym (ap (λ r. x ++ r) none ∙ append-nil x) })

pub spooled_at_once_part : (a b c : Option (List ℕ)) (p x : List ℕ) → Spooled a p b [] [] → AppendsPart b c x
    → SpooledPart a p c x
spooled_at_once_part a b c p x s h =
    spooled_then_part a b c p [] [] x s (record {
      out = take h.0 x;
      rest = drop h.0 x;
      appends = h.1;
      same = sym (take-append-drop h.0 x);
    })
