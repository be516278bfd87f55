-- Scripts in progress go on by lines: texts and states, one after the other.
use Rattle.std.proofs.Common.{◌≡◌, ℕ, Bool, false, List, [], ◌∷◌, ◌++◌, sym, ◌∙◌, ap, subst, refl}
use mathlib.Core.List.{append_assoc}
use Rattle.std.proofs.lemmas.List.Elements.{All-append}
use Rattle.share_model.specs.declared.rates.Rate.{Rate}
use Rattle.share_model.specs.text.Talk.{Progress, answer, talk, after, is_feed, lines_of}
use Rattle.share_script.specs.Script.{NoFeed, Went, IsTextBeginning}
use Rattle.share_model.proofs.lemmas.text.LineFeedLemmas.{lines-feed}
use Rattle.share_script.proofs.LineLemmas.{ReadAlike, talk_same, after_same}

pub went_as : (life life' : ℕ) (rates rates' : List Rate) (p : Progress) (ls : List (List ℕ)) (text : List ℕ)
    (q : Progress) (ms : List (List ℕ)) (lacks : List Bool) → life' ≡ life → rates' ≡ rates
    → Went life' rates' p ls text q ms lacks → Went life rates p ls text q ms lacks
went_as life life' rates rates' p ls text q ms lacks e f w =
    let P : ℕ → Type 0 = λ n. Went n rates' p ls text q ms lacks in
    let Q : List Rate → Type 0 = λ r. Went life r p ls text q ms lacks in
    subst Q f (subst P e w)

pub begins_as : (life life' : ℕ) (rates rates' : List Rate) (p : Progress) (ls : List (List ℕ)) (text : List ℕ)
    → life' ≡ life → rates' ≡ rates → IsTextBeginning life' rates' p ls text → IsTextBeginning life rates p ls text
begins_as life life' rates rates' p ls text e f w =
    let P : ℕ → Type 0 = λ n. IsTextBeginning n rates' p ls text in
    let Q : List Rate → Type 0 = λ r. IsTextBeginning life r p ls text in
    subst Q f (subst P e w)

pub went_more : (life : ℕ) (rates : List Rate) (p q r : Progress) (ls ms ns : List (List ℕ)) (xs ys : List ℕ)
    (lacks : List Bool) (w : Went life rates q ms ys r ns lacks) → Went life rates p ls xs q ms w.more
    → Went life rates p ls (xs ++ ys) r ns lacks
went_more life rates p q r ls ms ns xs ys lacks w v = record {
  more = v.more;
  texts = v.texts ∙ ap (λ t. xs ++ t) w.texts ∙ sym (append_assoc xs ys (talk life rates r lacks ns));
  states = v.states ∙ w.states;
}

pub begins_more : (life : ℕ) (rates : List Rate) (p q : Progress) (ls ms : List (List ℕ)) (xs ys : List ℕ)
    (w : IsTextBeginning life rates q ms ys) → Went life rates p ls xs q ms w.lacks
    → IsTextBeginning life rates p ls (xs ++ ys)
begins_more life rates p q ls ms xs ys w v = record {
  lacks = v.more;
  tail = w.tail;
  texts = v.texts ∙ ap (λ t. xs ++ t) w.texts ∙ sym (append_assoc xs ys w.tail);
}

pub went_line : (life : ℕ) (rates : List Rate) (p : Progress) (lack : Bool) (bs text : List ℕ) (ls : List (List ℕ))
    (lacks : List Bool) → text ≡ (answer life rates p lack bs).1
    → Went life rates p (bs ∷ ls) text (answer life rates p lack bs).0 ls lacks
unfolding talk after
went_line life rates p lack bs text ls lacks e = record {
  more = lack ∷ lacks;
  texts = ap (λ t. t ++ talk life rates (answer life rates p lack bs).0 lacks ls) (sym e);
  states = refl;
}

pub went_cut : (life : ℕ) (rates : List Rate) (p : Progress) (bs cs text : List ℕ) (q : Progress)
    (ls ms : List (List ℕ)) (lacks : List Bool) → ReadAlike bs cs
    → Went life rates p (bs ∷ ls) text q ms lacks → Went life rates p (cs ∷ ls) text q ms lacks
went_cut life rates p bs cs text q ls ms lacks e w = record {
  more = w.more;
  texts = sym (talk_same life rates p w.more bs cs ls e) ∙ w.texts;
  states = sym (after_same life rates p w.more bs cs ls e) ∙ w.states;
}

pub begins_cut : (life : ℕ) (rates : List Rate) (p : Progress) (bs cs text : List ℕ) (ls : List (List ℕ))
    → ReadAlike bs cs → IsTextBeginning life rates p (bs ∷ ls) text
    → IsTextBeginning life rates p (cs ∷ ls) text
begins_cut life rates p bs cs text ls e w =
    record { lacks = w.lacks; tail = w.tail; texts = sym (talk_same life rates p w.lacks bs cs ls e) ∙ w.texts }

pub lines_as : (line c d rest : List ℕ) → lines_of (line ++ (c ++ (d ++ rest))) ≡ lines_of (line ++ ((c ++ d) ++ rest))
lines_as line c d rest = ap (λ r. lines_of (line ++ r)) (sym (append_assoc c d rest))

pub lines_piece : (line piece rest : List ℕ) → NoFeed line → NoFeed piece
    → lines_of (line ++ ((piece ++ 10 ∷ []) ++ rest)) ≡ (line ++ piece) ∷ lines_of rest
lines_piece line piece rest clean also =
    let e : line ++ ((piece ++ 10 ∷ []) ++ rest) ≡ (line ++ piece) ++ 10 ∷ rest =
    ap (λ r. line ++ r) (append_assoc piece (10 ∷ []) rest) ∙ sym (append_assoc line piece (10 ∷ rest)) in
    ap lines_of e ∙ lines-feed (line ++ piece) rest (All-append (λ b. is_feed b ≡ false) line piece clean also)
