-- The answers of `tickets` for a sound link.
use Rattle.std.specs.Prelude.{◌≡◌, ℕ, true, List, [], ◌∷◌, map, find, Option, None, Some, option_map}
use Rattle.std.specs.Prelude.{is_some}
use Rattle.std.proofs.Common.{refl, ap, ◌∙◌}
use Rattle.std.proofs.lemmas.List.Sums.{sum-map}
use Rattle.share_model.specs.declared.funding.OpenFlow.{OpenFlow}
use Rattle.share_model.specs.declared.link.Book.{Book}
use Rattle.share_model.specs.funding.Graph.{NameBytes, flow_numbers, tickets}
use Rattle.share_model.specs.link.Books.{is_book_of}
use Rattle.share_model.specs.link.Readings.{tickets_at, TicketsAreWithin, TicketsAreUncapped}
use Rattle.share_model.specs.link.View.{LinkView}
use Rattle.share_model.specs.lists.Each.{Each}
use Rattle.share_model.specs.lists.Rises.{has_number}
use Rattle.share_model.specs.run.Sound.{Sound}
use Rattle.share_model.proofs.lemmas.funding.IssueLemmas.{tickets-uncapped}
use Rattle.share_model.proofs.lemmas.funding.ShareLemmas.{shares-within}
use Rattle.share_model.proofs.lemmas.lists.FirstItemLemmas.{each_map, is_some-find_number, has_number-head}
use Rattle.share_model.proofs.lemmas.lists.FirstItemLemmas.{has_number-later}

-- each number is one of the list
own_numbers : (ns : List ℕ) → Each (λ n. has_number n ns ≡ true) ns
own_numbers [] = tt
own_numbers (n ∷ ns) = (
  has_number-head n ns,
  each_map (λ m. has_number m ns ≡ true) (λ m. has_number m (n ∷ ns) ≡ true) (λ m later. has_number-later m n ns later)
      ns (own_numbers ns),
)

answer_by : (o : Option Book) (n : ℕ) → is_some o ≡ true → option_map (λ _. n) o ≡ Some n
answer_by None n there = cc
answer_by (Some b) n there = refl

module _ {W : Type 0} (link : LinkView W) (sound : Sound link.life link.rates link.live) where
  -- each open flow has an answer
  answer_open : (f : ℕ) → has_number f (flow_numbers link.live.graph.flows) ≡ true
      → tickets_at link f ≡ Some (tickets link.live.graph f)
  answer_open f open_is =
      answer_by (find (is_book_of f) link.live.books) (tickets link.live.graph f)
      (is_some-find_number (λ (b : Book). b.flow) f link.live.books ∙ (ap (has_number f) sound.flows.booked ∙ open_is))

  answers_of : (es : List (NameBytes × OpenFlow))
      → Each (λ n. has_number n (flow_numbers link.live.graph.flows) ≡ true) (flow_numbers es)
      → map (λ (e : NameBytes × OpenFlow). tickets_at link e.1.number) es
      ≡ map (λ n. Some n) (map (λ (e : NameBytes × OpenFlow). tickets link.live.graph e.1.number) es)
  answers_of [] each = refl
  answers_of (e ∷ es) each =
      let here = answer_open e.1.number each.0 in
      let later = answers_of es each.1 in
      cc

  pub tickets-within : TicketsAreWithin link
  tickets-within = record {
    answers = map (λ (e : NameBytes × OpenFlow). tickets link.live.graph e.1.number) link.live.graph.flows;
    answers_are = answers_of link.live.graph.flows (own_numbers (flow_numbers link.live.graph.flows));
    within =
        rw (sum-map (λ (e : NameBytes × OpenFlow). tickets link.live.graph e.1.number) link.live.graph.flows)
        (shares-within link.live.graph sound.funding.kept.sound).shares;
  }

  answer_is : (o : Option Book) (n answer : ℕ) → option_map (λ _. n) o ≡ Some answer → answer ≡ n
  answer_is None n answer is = cc
  answer_is (Some b) n answer is = cc

  pub tickets-plain : TicketsAreUncapped link
  tickets-plain few flow answer is =
      answer_is (find (is_book_of flow) link.live.books) (tickets link.live.graph flow) answer is
      ∙ tickets-uncapped link.live.graph sound.funding.kept.sound few flow
