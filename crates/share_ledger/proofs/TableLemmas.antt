-- The graph of the tables, and what the tables of refusals say if they answer nothing.
use Rattle.std.proofs.Common.{◌≡◌, ℕ, false, List, [], ◌∷◌, ◌++◌, map, length, take, drop}
use Rattle.std.proofs.Common.{None, bytes_eq, is_some, refl, sym, ap, ◌∙◌}
use Rattle.std.proofs.lemmas.List.{length-map}
use Rattle.std.proofs.lemmas.Bool.{or_parts}
use Rattle.std.specs.List.{list_any}
use Rattle.std.specs.Map.{lookup}
use Rattle.share_base.specs.declared.refusal.Refusal.TheVariants.{Taken}
use Rattle.share_model.specs.declared.funding.Ticket.{Ticket}
use Rattle.share_model.specs.declared.funding.OpenFlow.{OpenFlow}
use Rattle.share_model.specs.funding.Graph.{NameBytes, base, Graph}
use Rattle.share_model.specs.funding.Changes.{is_currency, make_currency_refusal, add_flow_refusal, flow_named}
use Rattle.share_model.proofs.lemmas.funding.RefusalLemmas.{not-refused}
use Rattle.share_model.proofs.lemmas.lists.RemovalLemmas.{none_from}

-- the graph of the tables by their parts
abbrev pub lay : List NameBytes → List Ticket → ℕ → List (NameBytes × OpenFlow) → ℕ → Graph
lay cs ts n es m = record { currencies = cs; tickets = ts; next_ticket = n; flows = es; next_flow = m }

pub fresh-currency : (g : Graph) (c : NameBytes) → make_currency_refusal g c ≡ None
    → list_any (bytes_eq c) g.currencies ≡ false
fresh-currency g c none =
    (or_parts (bytes_eq c base) (list_any (bytes_eq c) g.currencies) (not-refused (is_currency g c) Taken _ none).0).1

pub fresh-flow : (g : Graph) (f : NameBytes) → add_flow_refusal g f ≡ None → lookup (bytes_eq f) g.flows ≡ None
fresh-flow g f none = none_from (flow_named g f) (not-refused (is_some (flow_named g f)) Taken _ none).0

-- a list that is written whole through a slice of it
pub written-whole : {X : Type 0} (f : X → X) (xs ys zs : List X) (n : ℕ) → ys ≡ map f zs → zs ≡ xs → n ≡ length xs
    → take n (ys ++ drop (length ys) xs) ≡ map f xs
written-whole {X = X} f xs ys zs n e same len =
    let long : length ys ≡ n = ap length (e ∙ ap (map f) same) ∙ length-map xs f ∙ sym len in
    ap (λ k. take k (ys ++ drop (length ys) xs)) (sym long) ∙ front ys (drop (length ys) xs) ∙ e ∙ ap (map f) same
  where
    front : (us bs : List X) → take (length us) (us ++ bs) ≡ us
    front [] bs = refl
    front (a ∷ us) bs = ap (λ l. a ∷ l) (front us bs)
