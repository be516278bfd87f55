-- Joining passes, and splitting them again, keeps the rule of the queue.
use Rattle.std.proofs.Common.{◌≡◌, ◌≢◌, ℕ, Bool, true, ◌||◌, nat_eq}
use Rattle.std.proofs.Common.{List, [], ◌∷◌, ◌++◌, length, set, refl, sym, ap, ◌∙◌, subst, ⊎_elim}
use Rattle.std.proofs.lemmas.List.{append_cancel_left, append-nil}
use mathlib.Core.Option.{some}
use lib.ListN.{get_elem?}
use Rattle.crossbeam_queue.specs.Fifo.{Forks, Merges, Learns}
use Rattle.share_model.specs.declared.ingress.Offer.{Offer}
use Rattle.share_model.specs.declared.ingress.QueueView.{QueueView}
use Rattle.share_model.specs.ingress.Queue.{of_worker, Begins, an_end, an_intake, a_host, a_spent_side, IsEnd}
use Rattle.share_model.specs.ingress.Queue.{IsIntake, IsWorker, KeepsOrder, Behind}
use Rattle.share_ingress.proofs.OfferLemmas.{same_or_not, other_test, views_set}
use Rattle.share_ingress.proofs.OfferLemmas.{views_snoc, length_set}
use Rattle.crossbeam_queue.proofs.Lists.{at_set}
use Rattle.share_ingress.proofs.QueueOrderLemmas.{not_true, passes_with, moved_here, moved_else}

-- An end joined to the intake

module _ (pass made : ℕ) (popped ahead : List Offer) (closed : List ℕ) (other w : ℕ) (pushed : List Offer) where
  end_was : (views : List QueueView) (now : QueueView) → ¬ (other ≡ pass)
      → get_elem? (set views pass now) other ≡ some (an_end w pushed) → get_elem? views other ≡ some (an_end w pushed)
  end_was views now two at' = ⊎_elim (λ x. absurd (two x.0)) (λ x. x.1) (at_set views pass other now (an_end w
      pushed) at')

  -- An end laid beside the intake

  lays_end : Merges KeepsOrder pass (an_intake made popped ahead closed) other (an_end w pushed)
      (a_host (an_intake made popped ahead closed) (an_end w pushed)) a_spent_side
  lays_end items views h at two at' =
      let was = h.intake pass (an_intake made popped ahead closed) at refl in
      let now = a_host (an_intake made popped ahead closed) (an_end w pushed) in
      let theirs = h.ends other (an_end w pushed) (end_was views now two at') refl in
      record {
        reader = h.reader;
        pass_of = passes_with h.pass_of w pass;
        got = h.got;
        made = h.made;
        shut = h.shut;
        known = h.known;
        numbered = h.numbered;
        emptied = h.emptied;
        ends = views_set (λ j v. v.sends ≡ true → IsEnd (passes_with h.pass_of w pass) h.got items h.made h.shut j v)
            (set views pass now) other a_spent_side (λ s. absurd (not_true s))
            (λ j v apart e. views_set
            (λ j v. j ≢ other → v.sends ≡ true → IsEnd (passes_with h.pass_of w pass) h.got items h.made h.shut j v)
            views pass now (λ _ s. record {
              alone = moved_here h.pass_of w pass w refl;
              known = theirs.known;
              still = theirs.still;
              pushed = theirs.pushed;
            }) (λ j v _ e apart s. let old = h.ends j v e s in
            record {
              alone = old.alone ∙ moved_else h.pass_of w pass v.worker
                  (λ f. apart (old.alone ∙ ap h.pass_of f ∙ sym theirs.alone));
              known = old.known;
              still = old.still;
              pushed = old.pushed;
            }) j v e apart);
        intake = views_set (λ j v. v.gets ≡ true → IsIntake h.reader h.got items h.made h.shut j v)
            (set views pass now) other a_spent_side (λ s. absurd (not_true s))
            (λ j v apart e. views_set (λ j v. v.gets ≡ true → IsIntake h.reader h.got items h.made h.shut j v) views
            pass now (λ s. record {
              alone = was.alone;
              popped = was.popped;
              made_is = was.made_is;
              closed = was.closed;
              ahead = was.ahead;
            })
            (λ j v apart e s. absurd (apart ((h.intake j v e s).alone ∙ sym was.alone))) j v e);
      }

  -- An end of which all was popped is joined to the intake

  closes_end : pushed ≡ of_worker w popped → Merges KeepsOrder pass (an_intake made popped ahead closed) other
      (an_end w pushed) (an_intake made popped ahead (w ∷ closed)) a_spent_side
  closes_end whole items views h at two at' =
      let was = h.intake pass (an_intake made popped ahead closed) at refl in
      let now = an_intake made popped ahead (w ∷ closed) in
      let theirs = h.ends other (an_end w pushed) (end_was views now two at') refl in
      let none : of_worker w items ≡ [] = append_cancel_left (of_worker w h.got) (of_worker w items) []
      (sym theirs.pushed ∙ whole ∙ ap (λ t. of_worker w t) was.popped ∙ sym (append-nil (of_worker w h.got))) in
      let shut : ℕ → Bool = λ u. nat_eq w u || h.shut u in
      record {
        reader = h.reader;
        pass_of = h.pass_of;
        got = h.got;
        made = h.made;
        shut = shut;
        known = h.known;
        numbered = h.numbered;
        emptied = λ u s. ⊎_elim
            (λ (e : w ≡ u). subst (λ x. IsWorker h.made x × (of_worker x items ≡ [])) e (theirs.known, none))
            (λ (e : w ≢ u). h.emptied u (ap (λ b. b || h.shut u) (sym (other_test w u e)) ∙ s)) (same_or_not w u);
        ends = views_set (λ j v. v.sends ≡ true → IsEnd h.pass_of h.got items h.made shut j v)
            (set views pass now) other a_spent_side (λ s. absurd (not_true s))
            (λ j v apart e. views_set
            (λ j v. j ≢ other → v.sends ≡ true → IsEnd h.pass_of h.got items h.made shut j v)
            views pass now (λ _ s. absurd (not_true s)) (λ j v _ e apart s. let old = h.ends j v e s in
            record {
              alone = old.alone;
              known = old.known;
              still = ap (λ b. b || h.shut v.worker) (other_test w v.worker
                  (λ f. apart (old.alone ∙ ap h.pass_of (sym f) ∙ sym theirs.alone))) ∙ old.still;
              pushed = old.pushed;
            }) j v e apart);
        intake = views_set (λ j v. v.gets ≡ true → IsIntake h.reader h.got items h.made shut j v)
            (set views pass now) other a_spent_side (λ s. absurd (not_true s))
            (λ j v apart e. views_set (λ j v. v.gets ≡ true → IsIntake h.reader h.got items h.made shut j v) views
            pass now (λ s. record {
              alone = was.alone;
              popped = was.popped;
              made_is = was.made_is;
              closed = λ u. ap (λ b. nat_eq w u || b) (was.closed u);
              ahead = was.ahead;
            })
            (λ j v apart e s. absurd (apart ((h.intake j v e s).alone ∙ sym was.alone))) j v e);
      }

module _ (pass made : ℕ) (popped ahead : List Offer) (closed : List ℕ) (w : ℕ) (pushed : List Offer) where
  abbrev host : QueueView
  host = a_host (an_intake made popped ahead closed) (an_end w pushed)

  compares_host : Learns KeepsOrder pass host (Behind host)
  compares_host items views h at =
      rw (h.intake pass host at refl).popped (h.ends pass host at refl).pushed

  parts_host : Forks KeepsOrder pass host (an_intake made popped ahead closed) (an_end w pushed)
  parts_host items views h at =
      let was = h.intake pass host at refl in
      let theirs = h.ends pass host at refl in
      let now = an_intake made popped ahead closed in
      record {
        reader = h.reader;
        pass_of = passes_with h.pass_of w (length views);
        got = h.got;
        made = h.made;
        shut = h.shut;
        known = h.known;
        numbered = h.numbered;
        emptied = h.emptied;
        ends = views_snoc
            (λ j v. v.sends ≡ true → IsEnd (passes_with h.pass_of w (length views)) h.got items h.made h.shut j v)
            (set views pass now) (an_end w pushed)
            (views_set _ views pass now (λ s. absurd (not_true s)) (λ j v apart e s. let old = h.ends j v e s in
            record {
              alone = old.alone ∙ moved_else h.pass_of w (length views) v.worker
                  (λ f. apart (old.alone ∙ ap h.pass_of f ∙ sym theirs.alone));
              known = old.known;
              still = old.still;
              pushed = old.pushed;
            }))
            (λ s. record {
              alone = length_set views pass now ∙ moved_here h.pass_of w (length views) w refl;
              known = theirs.known;
              still = theirs.still;
              pushed = theirs.pushed;
            });
        intake = views_snoc (λ j v. v.gets ≡ true → IsIntake h.reader h.got items h.made h.shut j v)
            (set views pass now) (an_end w pushed)
            (views_set _ views pass now
            (λ s. record {
              alone = was.alone;
              popped = was.popped;
              made_is = was.made_is;
              closed = was.closed;
              ahead = was.ahead;
            })
            (λ j v apart e s. absurd (apart ((h.intake j v e s).alone ∙ sym was.alone)))) (λ s. absurd (not_true s));
      }

module _ (pass : ℕ) (v i e : QueueView) (made : ℕ) (popped ahead : List Offer) (closed : List ℕ) (w : ℕ)
    (pushed : List Offer) (intake : i ≡ an_intake made popped ahead closed) (end : e ≡ an_end w pushed) where
  pub lays : (other : ℕ) → Merges KeepsOrder pass i other e (a_host i e) a_spent_side
  lays other =
      subst (λ (y : QueueView × QueueView). Merges KeepsOrder pass y.0 other y.1 (a_host y.0 y.1) a_spent_side)
      (λ k. (sym intake k, sym end k)) (lays_end pass made popped ahead closed other w pushed)

  pub closes : (other : ℕ) → e.pushed ≡ of_worker w i.popped
      → Merges KeepsOrder pass i other e (an_intake i.made i.popped i.ahead (e.worker ∷ i.closed)) a_spent_side
  closes other whole =
      let all : pushed ≡ of_worker w popped = subst (λ (y : QueueView × QueueView). y.1.pushed ≡ of_worker w y.0.popped)
      (λ k. (intake k, end k)) whole in
      subst (λ (y : QueueView × QueueView). Merges KeepsOrder pass y.0 other y.1
      (an_intake y.0.made y.0.popped y.0.ahead (y.1.worker ∷ y.0.closed)) a_spent_side)
      (λ k. (sym intake k, sym end k)) (closes_end pass made popped ahead closed other w pushed all)

  hosted : v ≡ a_host i e → v ≡ host pass made popped ahead closed w pushed
  hosted is = is ∙ λ k. a_host (intake k) (end k)

  pub compares : v ≡ a_host i e → Learns KeepsOrder pass v (Behind v)
  compares is =
      subst (λ u. Learns KeepsOrder pass u (Behind u)) (sym (hosted is))
      (compares_host pass made popped ahead closed w pushed)

  pub parts : v ≡ a_host i e
      → Forks KeepsOrder pass v (an_intake v.made v.popped v.ahead v.closed) (an_end v.worker v.pushed)
  parts is =
      subst (λ u. Forks KeepsOrder pass u (an_intake u.made u.popped u.ahead u.closed) (an_end u.worker u.pushed))
      (sym (hosted is)) (parts_host pass made popped ahead closed w pushed)

-- the items that were popped of an end beside the intake are the front of those that it pushed
pub front_of : (v i e : QueueView) (w : ℕ) (items : List Offer) → v ≡ a_host i e → e ≡ an_end w e.pushed
    → Behind v items
    → Begins e.pushed (of_worker w i.popped)
front_of v i e w items is end behind =
    let worker : e.worker ≡ w = ap (λ (u : QueueView). u.worker) end in
    let all : e.pushed ≡ of_worker e.worker i.popped ++ of_worker e.worker items = rw is at behind in
    (of_worker e.worker items, all ∙ ap (λ n. of_worker n i.popped ++ of_worker e.worker items) worker)
