-- When funding is refused, checked against worked examples: each equation holds by computation alone.
use Rattle.std.specs.Prelude.{◌≡◌, ℕ, ◌+◌, ◌/◌, ◌%◌, zero, suc, false, List, [], ◌∷◌, ◌++◌, Option, None, Some, refl}
use Rattle.share_base.specs.declared.refusal.Refusal.{Refusal}
use Rattle.share_base.specs.declared.refusal.Refusal.TheVariants.{Taken, Base, Funding, Crowded, Cycle, Deep, TableFull}
use Rattle.share_model.specs.lists.Change.{change_first}
use Rattle.share_model.specs.declared.funding.Holder.{Holder}
use Rattle.share_model.specs.declared.funding.Holder.TheVariants.{Nobody, Currency, Flow}
use Rattle.share_model.specs.declared.funding.Ticket.{Ticket}
use Rattle.share_model.specs.declared.funding.OpenFlow.{OpenFlow}
use Rattle.share_model.specs.funding.Graph.{NameBytes, base, Graph, denominated_in, backing, funding, chain}
use Rattle.share_model.specs.funding.Graph.{chain_within}
use Rattle.share_model.specs.funding.Graph.{runs, is_deep}
use Rattle.share_model.specs.funding.Changes.{fund_currency_refusal, fund_flow_refusal, make_currency_refusal}
use Rattle.share_model.specs.funding.Changes.{add_flow_refusal}

-- the names c00, c01, .. c99
abbrev nth_name : ℕ → NameBytes
nth_name n = 99 ∷ (48 + n / 10) ∷ (48 + n % 10) ∷ []

abbrev ticket_with : ℕ → NameBytes → Holder → Ticket
ticket_with n c h = record { number = n; amount = 1; denomination = c; holder = h }

abbrev graph_of : List NameBytes → List Ticket → List (NameBytes × OpenFlow) → Graph
graph_of cs ts es = record { currencies = cs; tickets = ts; next_ticket = 100; flows = es; next_flow = 100 }

nine : List NameBytes
nine = nth_name 1 ∷ nth_name 2 ∷ nth_name 3 ∷ nth_name 4 ∷ nth_name 5 ∷ nth_name 6 ∷ nth_name 7 ∷ nth_name 8
    ∷ nth_name 9 ∷ []

-- the ticket of the currency c, which backs the next one
abbrev backs : ℕ → Ticket
backs c = ticket_with c (nth_name c) (Currency (nth_name (c + 1)))

abbrev waits : ℕ → Ticket
waits c = ticket_with c (nth_name c) Nobody

-- the answer if the ticket of currency t is to fund c, and these fund others
abbrev refusal_with : List Ticket → ℕ → NameBytes → Option Refusal
refusal_with ts t c = fund_currency_refusal
    (graph_of nine (ticket_with 10 base (Currency (nth_name 1)) ∷ waits t ∷ ts) []) t c

-- Funded forwards: eight are allowed, and the ninth is too deep, or closes the ring.
six : List Ticket
six = backs 1 ∷ backs 2 ∷ backs 3 ∷ backs 4 ∷ backs 5 ∷ backs 6 ∷ []

eighth_forwards : refusal_with six 7 (nth_name 8) ≡ None
unfolding nine six denominated_in backing chain chain_within runs is_deep change_first
eighth_forwards = refl

ninth_forwards : refusal_with (backs 7 ∷ six) 8 (nth_name 9) ≡ Some Deep
unfolding nine six denominated_in backing chain chain_within runs is_deep change_first
ninth_forwards = refl

ring_closed : refusal_with (backs 7 ∷ six) 8 (nth_name 1) ≡ Some Cycle
unfolding nine six denominated_in backing chain chain_within runs is_deep change_first
ring_closed = refl

-- Funded backwards, the last currency first
six_behind : List Ticket
six_behind = backs 8 ∷ backs 7 ∷ backs 6 ∷ backs 5 ∷ backs 4 ∷ backs 3 ∷ []

eighth_backwards : refusal_with six_behind 2 (nth_name 3) ≡ None
unfolding nine six_behind denominated_in backing chain chain_within runs is_deep change_first
eighth_backwards = refl

ninth_backwards : refusal_with (backs 2 ∷ six_behind) 1 (nth_name 2) ≡ Some Deep
unfolding nine six_behind denominated_in backing chain chain_within runs is_deep change_first
ninth_backwards = refl

-- Joined in the middle: four and four, and four and five
front : List Ticket
front = backs 1 ∷ backs 2 ∷ backs 3 ∷ []

four_and_four : refusal_with (front ++ backs 5 ∷ backs 6 ∷ backs 7 ∷ []) 4 (nth_name 5) ≡ None
unfolding nine front denominated_in backing chain chain_within runs is_deep change_first
four_and_four = refl

four_and_five : refusal_with (front ++ backs 5 ∷ backs 6 ∷ backs 7 ∷ backs 8 ∷ []) 4 (nth_name 5) ≡ Some Deep
unfolding nine front denominated_in backing chain chain_within runs is_deep change_first
four_and_five = refl

funding_base : refusal_with six 7 base ≡ Some Base
unfolding nine six denominated_in backing chain chain_within runs is_deep change_first
funding_base = refl

own_currency : refusal_with [] 1 (nth_name 1) ≡ Some Cycle
unfolding nine denominated_in backing chain chain_within runs is_deep change_first
own_currency = refl

-- n tickets of `base` that have this holder, numbered from 11
abbrev many : ℕ → Holder → List Ticket
many zero h = []
many (suc n) h = many n h ++ ticket_with (n + 11) base h ∷ []

-- n tickets back c01, which backs c02; a ticket of c02 has this holder, and one of `base` has none
crowd : ℕ → Holder → Graph
crowd n h =
    graph_of (nth_name 1 ∷ nth_name 2 ∷ [])
    (many n (Currency (nth_name 1)) ++ backs 1 ∷ ticket_with 2 (nth_name 2) h ∷ ticket_with 3 base Nobody ∷ []) []

sixteenth_ticket : fund_currency_refusal (crowd 15 Nobody) 3 (nth_name 1) ≡ None
unfolding crowd denominated_in backing chain chain_within runs is_deep change_first
sixteenth_ticket = refl

seventeenth_ticket : fund_currency_refusal (crowd 16 Nobody) 3 (nth_name 1) ≡ Some Crowded
unfolding crowd denominated_in backing chain chain_within runs is_deep change_first
seventeenth_ticket = refl

-- a ticket that has a holder, for a currency that is crowded and backs its denomination
holder_first : fund_currency_refusal (crowd 16 (Flow 7)) 2 (nth_name 1) ≡ Some Funding
unfolding crowd denominated_in backing chain chain_within runs is_deep change_first
holder_first = refl

crowd_second : fund_currency_refusal (crowd 16 Nobody) 2 (nth_name 1) ≡ Some Crowded
unfolding crowd denominated_in backing chain chain_within runs is_deep change_first
crowd_second = refl

cycle_third : fund_currency_refusal (crowd 15 Nobody) 2 (nth_name 1) ≡ Some Cycle
unfolding crowd denominated_in backing chain chain_within runs is_deep change_first
cycle_third = refl

-- n flows are open, named like the currencies
abbrev open_flows : ℕ → List (NameBytes × OpenFlow)
open_flows zero = []
open_flows (suc n) = open_flows n ++ (nth_name n, record { number = n + 1; active = false }) ∷ []

-- n tickets fund c00, and one of `base` has this holder
busy : ℕ → Holder → Graph
busy n h = graph_of [] (many n (Flow 1) ++ ticket_with 3 base h ∷ []) (open_flows 1)

sixteenth_for_flow : fund_flow_refusal (busy 15 Nobody) 3 (nth_name 0) ≡ None
unfolding busy funding
sixteenth_for_flow = refl

seventeenth_for_flow : fund_flow_refusal (busy 16 Nobody) 3 (nth_name 0) ≡ Some Crowded
unfolding busy funding
seventeenth_for_flow = refl

flow_holder_first : fund_flow_refusal (busy 15 (Flow 1)) 3 (nth_name 0) ≡ Some Funding
unfolding busy funding
flow_holder_first = refl

-- Tables that are full
abbrev names : ℕ → List NameBytes
names zero = []
names (suc n) = names n ++ nth_name n ∷ []

sixty_fourth_currency : make_currency_refusal (graph_of (names 63) [] []) (nth_name 63) ≡ None
sixty_fourth_currency = refl

sixty_fifth_currency : make_currency_refusal (graph_of (names 64) [] []) (nth_name 64) ≡ Some TableFull
sixty_fifth_currency = refl

taken_before_full : make_currency_refusal (graph_of (names 64) [] []) (nth_name 5) ≡ Some Taken
taken_before_full = refl

sixty_fourth_flow : add_flow_refusal (graph_of [] [] (open_flows 63)) (nth_name 63) ≡ None
sixty_fourth_flow = refl

sixty_fifth_flow : add_flow_refusal (graph_of [] [] (open_flows 64)) (nth_name 64) ≡ Some TableFull
sixty_fifth_flow = refl

flow_taken_before_full : add_flow_refusal (graph_of [] [] (open_flows 64)) (nth_name 5) ≡ Some Taken
flow_taken_before_full = refl
