-- Each step on the queue keeps its rule.
use Rattle.std.proofs.Common.{◌≡◌, ◌≢◌, ℕ, zero, suc, Bool, true, false, nat_eq}
use Rattle.std.proofs.Common.{List, [], ◌∷◌, ◌++◌, length, set, arith, refl, sym, ap, ◌∙◌, subst, ⊎_elim, true≢false}
use Rattle.std.proofs.lemmas.List.{append_assoc}
use mathlib.Core.Option.{some, some-ne-none}
use lib.ListN.{get_elem?}
use Rattle.crossbeam_queue.specs.Fifo.{Pushes, Pops, Forks, Learns}
use Rattle.share_model.specs.lists.Each.{Each}
use Rattle.share_model.specs.declared.ingress.Offer.{Offer}
use Rattle.share_model.specs.declared.ingress.QueueView.{QueueView}
use Rattle.share_model.specs.ingress.Queue.{of_worker, Numbered, an_end, an_intake, IsEnd}
use Rattle.share_model.specs.ingress.Queue.{IsIntake, IsWorker, KeepsOrder, Put, OwnLast, Taken, StillAhead}
use Rattle.share_ingress.proofs.OfferLemmas.{same_or_not, same_test, other_test, of_append, of_snoc_same, of_snoc_other}
use Rattle.share_ingress.proofs.OfferLemmas.{of_same, of_moved, of_rest_none, of_first_some, of_stranger, numbered_snoc}
use Rattle.share_ingress.proofs.OfferLemmas.{numbered_at}
use Rattle.share_ingress.proofs.OfferLemmas.{each_snoc, each_at, each_more, begins_snoc, begins_all, Views, views_set}
use Rattle.share_ingress.proofs.OfferLemmas.{views_snoc, length_set}

pub not_true : false ≡ true → ⊥
not_true e = true≢false (sym e)

-- A new queue

pub begins_empty : KeepsOrder [] (an_intake 0 [] [] [] ∷ [])
begins_empty =
    record {
      reader = 0;
      pass_of = λ w. 0;
      got = [];
      made = 0;
      shut = λ w. false;
      known = tt;
      numbered = λ w. tt;
      emptied = λ w e. absurd (not_true e);
      ends = only _ (λ e. absurd (not_true e));
      intake = only _
          (λ e. record { alone = refl; popped = refl; made_is = refl; closed = λ w. refl; ahead = begins_all [] });
    }
  where
    at_first : (j : ℕ) (u : QueueView) → get_elem? (an_intake 0 [] [] [] ∷ []) j ≡ some u → j ≡ 0
    at_first zero u e = refl
    at_first (suc j) u e = absurd (some-ne-none u (sym e))

    only : (F : ℕ → QueueView → Type 0) → F 0 (an_intake 0 [] [] []) → Views F (an_intake 0 [] [] [] ∷ [])
    only F mine = views_set F (an_intake 0 [] [] [] ∷ []) 0 (an_intake 0 [] [] []) mine
        (λ j u apart e. absurd (apart (at_first j u e)))

-- A push

module _ (pass w : ℕ) (pushed : List Offer) (x : Offer) (mine : x.worker ≡ w) (number : x.n ≡ suc (length pushed)) where
  pushes_end : (n : ℕ) → Pushes KeepsOrder n pass (an_end w pushed) x (Put (an_end w pushed) x)
  pushes_end n items views _ h at =
      let was = h.ends pass (an_end w pushed) at refl in
      let same_end = of_snoc_same w items x mine in
      let all : pushed ++ x ∷ [] ≡ of_worker w h.got ++ of_worker w (items ++ x ∷ []) =
      ap (λ t. t ++ x ∷ []) was.pushed ∙ append_assoc (of_worker w h.got) (of_worker w items) (x ∷ [])
      ∙ ap (λ t. of_worker w h.got ++ t) (sym same_end) in (
        an_end w (pushed ++ x ∷ []),
        record {
          reader = h.reader;
          pass_of = h.pass_of;
          got = h.got;
          made = h.made;
          shut = h.shut;
          known = subst (λ os. Each (λ o. IsWorker h.made o.worker) os) (append_assoc h.got items (x ∷ []))
              (each_snoc _ (h.got ++ items) x h.known (rw mine was.known));
          numbered = λ u. ⊎_elim
              (λ (e : u ≡ w). let known : Numbered 0 (pushed ++ x ∷ []) =
              numbered_snoc 0 pushed x (rw was.pushed (h.numbered w)) (omega (arith, number)) in
              rw e (rw all at known))
              (λ (e : u ≢ w). rw (of_snoc_other u items x (λ f. e (sym f ∙ mine))) (h.numbered u)) (same_or_not u w);
          emptied = λ u s. let old = h.emptied u s in
              let apart : x.worker ≢ u = λ f. true≢false (sym s ∙ ap h.shut (sym f ∙ mine) ∙ was.still) in
              (old.0, of_snoc_other u items x apart ∙ old.1);
          ends = views_set (λ j v. v.sends ≡ true → IsEnd h.pass_of h.got (items ++ x ∷ []) h.made h.shut j v) views
              pass _
              (λ s. record { alone = was.alone; known = was.known; still = was.still; pushed = all })
              (λ j v apart e s. let old = h.ends j v e s in
              let other : x.worker ≢ v.worker =
              λ f. apart (old.alone ∙ ap h.pass_of (sym f ∙ mine) ∙ sym was.alone) in
              record {
                alone = old.alone;
                known = old.known;
                still = old.still;
                pushed = old.pushed ∙ ap (λ t. of_worker v.worker h.got ++ t) (sym (of_snoc_other v.worker items x
                    other));
              });
          intake = views_set (λ j v. v.gets ≡ true → IsIntake h.reader h.got (items ++ x ∷ []) h.made h.shut j v) views
              pass _ (λ s. absurd (not_true s)) (λ j v apart e s. let old = h.intake j v e s in
              record {
                alone = old.alone;
                popped = old.popped;
                made_is = old.made_is;
                closed = old.closed;
                ahead = begins_snoc items v.ahead x old.ahead;
              });
        },
        refl,
      )

pub pushes : (n pass : ℕ) (v : QueueView) (w : ℕ) (pushed : List Offer) (x : Offer) → v ≡ an_end w pushed → x.worker ≡ w
    → x.n ≡ suc (length pushed) → Pushes KeepsOrder n pass v x (Put v x)
pushes n pass v w pushed x is mine number =
    subst (λ u. Pushes KeepsOrder n pass u x (Put u x)) (sym is) (pushes_end pass w pushed x mine number n)

pub own_last : (pass : ℕ) (v : QueueView) (w : ℕ) (pushed : List Offer) → v ≡ an_end w pushed
    → Learns KeepsOrder pass v (OwnLast v)
own_last pass v w pushed is = subst (λ u. Learns KeepsOrder pass u (OwnLast u)) (sym is)
    (λ items views h at. (of_worker w h.got, (h.ends pass (an_end w pushed) at refl).pushed))

-- A pop

module _ (pass made : ℕ) (popped ahead : List Offer) (closed : List ℕ) where
  pops_intake : Pops KeepsOrder pass (an_intake made popped ahead closed) (Taken (an_intake made popped ahead closed))
  pops_intake x items views h at =
      let was = h.intake pass (an_intake made popped ahead closed) at refl in
      let open_still : h.shut x.worker ≡ false = by_shut (h.shut x.worker) refl in (
        an_intake made (popped ++ x ∷ []) items closed,
        record {
          reader = h.reader;
          pass_of = h.pass_of;
          got = h.got ++ x ∷ [];
          made = h.made;
          shut = h.shut;
          known = rw (append_assoc h.got (x ∷ []) items) h.known;
          numbered = λ u. rw (of_moved u h.got items x) (h.numbered u);
          emptied = λ u s. ((h.emptied u s).0, of_rest_none u x items (h.emptied u s).1);
          ends = views_set (λ j v. v.sends ≡ true → IsEnd h.pass_of (h.got ++ x ∷ []) items h.made h.shut j v) views
              pass _
              (λ s. absurd (not_true s)) (λ j v apart e s. let old = h.ends j v e s in
              record {
                alone = old.alone;
                known = old.known;
                still = old.still;
                pushed = old.pushed ∙ sym (of_moved v.worker h.got items x);
              });
          intake = views_set (λ j v. v.gets ≡ true → IsIntake h.reader (h.got ++ x ∷ []) items h.made h.shut j v) views
              pass _
              (λ s. record {
                alone = was.alone;
                popped = ap (λ t. t ++ x ∷ []) was.popped;
                made_is = was.made_is;
                closed = was.closed;
                ahead = begins_all items;
              }) (λ j v apart e s. absurd (apart ((h.intake j v e s).alone ∙ sym was.alone)));
        },
        record {
          view_is = refl;
          front = was.ahead;
          known = rw was.made_is (each_at _ h.got items x h.known);
          number = let all : Numbered 0 (of_worker x.worker h.got ++ x ∷ of_worker x.worker items) =
              rw (of_same x.worker x items refl) at (h.numbered x.worker) in
              let n = numbered_at 0 (of_worker x.worker h.got) (of_worker x.worker items) x all in
              rw was.popped (omega (arith, n));
          still = sym (was.closed x.worker) ∙ open_still;
        },
      )
    where
      by_shut : (b : Bool) → h.shut x.worker ≡ b → b ≡ false
      by_shut true e = absurd (of_first_some x items (h.emptied x.worker e).1)
      by_shut false e = refl

pub pops : (pass : ℕ) (v : QueueView) (made : ℕ) (popped ahead : List Offer) (closed : List ℕ)
    → v ≡ an_intake made popped ahead closed → Pops KeepsOrder pass v (Taken v)
pops pass v made popped ahead closed is =
    subst (λ u. Pops KeepsOrder pass u (Taken u)) (sym is) (pops_intake pass made popped ahead closed)

pub seen : (pass : ℕ) (v : QueueView) (made : ℕ) (popped ahead : List Offer) (closed : List ℕ)
    → v ≡ an_intake made popped ahead closed → Learns KeepsOrder pass v (StillAhead v)
seen pass v made popped ahead closed is =
    subst (λ u. Learns KeepsOrder pass u (StillAhead u)) (sym is)
    (λ items views h at. (h.intake pass (an_intake made popped ahead closed) at refl).ahead)

-- A new end

abbrev pub pick : Bool → ℕ → ℕ → ℕ
pick true m n = m
pick false m n = n

-- the pass of a worker's end has changed
abbrev pub passes_with : (ℕ → ℕ) → ℕ → ℕ → ℕ → ℕ
passes_with pass_of w pass u = pick (nat_eq u w) pass (pass_of u)

pub moved_here : (pass_of : ℕ → ℕ) (w pass u : ℕ) → u ≡ w → pass ≡ passes_with pass_of w pass u
moved_here pass_of w pass u e = rw (same_test u w e) refl

pub moved_else : (pass_of : ℕ → ℕ) (w pass u : ℕ) → u ≢ w → pass_of u ≡ passes_with pass_of w pass u
moved_else pass_of w pass u h = rw (other_test u w h) refl

module _ (pass made : ℕ) (popped ahead : List Offer) (closed : List ℕ) where
  forks_intake : Forks KeepsOrder pass (an_intake made popped ahead closed) (an_intake (suc made) popped ahead closed)
      (an_end (suc made) [])
  forks_intake items views h at =
      let was = h.intake pass (an_intake made popped ahead closed) at refl in
      let now = an_intake (suc made) popped ahead closed in
      let none : [] ≡ of_worker (suc made) h.got ++ of_worker (suc made) items =
      rw was.made_is (sym (sym (of_append (suc h.made) h.got items)
      ∙ of_stranger h.made (suc h.made) (h.got ++ items) h.known (λ w. omega (arith, w.1)))) in
      record {
        reader = h.reader;
        pass_of = passes_with h.pass_of (suc h.made) (length views);
        got = h.got;
        made = suc h.made;
        shut = h.shut;
        known = each_more _ _ (h.got ++ items) (λ o p. (p.0, omega (arith, p.1))) h.known;
        numbered = h.numbered;
        emptied = λ u s. let old = h.emptied u s in ((old.0.0, omega (arith, old.0.1)), old.1);
        ends = views_snoc
            (λ j v. v.sends ≡ true
            → IsEnd (passes_with h.pass_of (suc h.made) (length views)) h.got items (suc h.made) h.shut j v)
            (set views pass now) (an_end (suc made) [])
            (views_set _ views pass now (λ s. absurd (not_true s)) (λ j v apart e s. let old = h.ends j v e s in
            record {
              alone = old.alone
                  ∙ moved_else h.pass_of (suc h.made) (length views) v.worker (λ f. omega (arith, f, old.known.1));
              known = (old.known.0, omega (arith, old.known.1));
              still = old.still;
              pushed = old.pushed;
            }))
            (λ s. record {
              alone = length_set views pass now
                  ∙ moved_here h.pass_of (suc h.made) (length views) (suc made) (ap (λ n. suc n) was.made_is);
              known = (omega arith, omega (arith, was.made_is));
              still = rw was.made_is (by_shut (h.shut (suc h.made)) refl);
              pushed = none;
            });
        intake = views_snoc
            (λ j v. v.gets ≡ true → IsIntake h.reader h.got items (suc h.made) h.shut j v)
            (set views pass now) (an_end (suc made) [])
            (views_set _ views pass now
            (λ s. record {
              alone = was.alone;
              popped = was.popped;
              made_is = ap (λ n. suc n) was.made_is;
              closed = was.closed;
              ahead = was.ahead;
            })
            (λ j v apart e s. absurd (apart ((h.intake j v e s).alone ∙ sym was.alone)))) (λ s. absurd (not_true s));
      }
    where
      by_shut : (b : Bool) → h.shut (suc h.made) ≡ b → b ≡ false
      by_shut true e = let known = (h.emptied (suc h.made) e).0 in absurd (omega (arith, known.1))
      by_shut false e = refl

pub forks : (pass : ℕ) (v : QueueView) (made : ℕ) (popped ahead : List Offer) (closed : List ℕ)
    → v ≡ an_intake made popped ahead closed
    → Forks KeepsOrder pass v (an_intake (suc v.made) v.popped v.ahead v.closed) (an_end (suc v.made) [])
forks pass v made popped ahead closed is =
    subst (λ u. Forks KeepsOrder pass u (an_intake (suc u.made) u.popped u.ahead u.closed) (an_end (suc u.made) []))
    (sym is)
    (forks_intake pass made popped ahead closed)
