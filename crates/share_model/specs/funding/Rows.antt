-- The definitions of funding, checked against worked examples: each equation holds by computation alone.
use Rattle.std.specs.Prelude.{◌≡◌, ℕ, ◌^◌, Bool, true, false, List, [], ◌∷◌, map, codes, refl}
use Rattle.share_model.specs.declared.funding.Holder.TheVariants.{Currency, Flow}
use Rattle.share_model.specs.declared.funding.Ticket.{Ticket}
use Rattle.share_model.specs.declared.funding.OpenFlow.{OpenFlow}
use Rattle.share_model.specs.funding.Graph.{NameBytes, base, Graph, denominated_in, backing, funding, act, is_active}
use Rattle.share_model.specs.funding.Graph.{active}
use Rattle.share_model.specs.funding.Graph.{worth_by, val, worth, tickets}

x : NameBytes
x = codes "x"

y : NameBytes
y = codes "y"

abbrev backing_of : ℕ → ℕ → NameBytes → NameBytes → Ticket
backing_of n amount c d = record { number = n; amount = amount; denomination = c; holder = Currency d }

abbrev ticket_for : ℕ → ℕ → NameBytes → ℕ → Ticket
ticket_for n amount c f = record { number = n; amount = amount; denomination = c; holder = Flow f }

abbrev flow_entry : ℕ → List ℕ → Bool → NameBytes × OpenFlow
flow_entry f name active = (name, record { number = f; active = active })

-- three currencies deep. 100 of base back x, 3 of x back y, 4 of x fund a, and 1 of y each fund b and c
three_deep : Bool → Bool → Graph
three_deep b c = record {
  currencies = x ∷ y ∷ [];
  tickets =
      backing_of 1 100 base x ∷ backing_of 2 3 x y ∷ ticket_for 3 4 x 1 ∷ ticket_for 4 1 y 2 ∷ ticket_for 5 1 y 3 ∷ [];
  next_ticket = 6;
  flows = flow_entry 1 (codes "a") true ∷ flow_entry 2 (codes "b") b ∷ flow_entry 3 (codes "c") c ∷ [];
  next_flow = 4;
}

-- the tickets of a, b and c
abbrev shares : Graph → List ℕ
shares g = map (tickets g) (1 ∷ 2 ∷ 3 ∷ [])

all_active : shares (three_deep true true) ≡ 57 ∷ 21 ∷ 21 ∷ []
unfolding three_deep x y denominated_in backing funding act is_active active worth_by val worth tickets
all_active = refl

c_idle : shares (three_deep true false) ≡ 57 ∷ 42 ∷ 0 ∷ []
unfolding three_deep x y denominated_in backing funding act is_active active worth_by val worth tickets
c_idle = refl

only_a : shares (three_deep false false) ≡ 100 ∷ 0 ∷ 0 ∷ []
unfolding three_deep x y denominated_in backing funding act is_active active worth_by val worth tickets
only_a = refl

-- 1000 of base back x, of which 1 funds a and 2 fund b
two_shares : Bool → Graph
two_shares b = record {
  currencies = x ∷ [];
  tickets = backing_of 1 1000 base x ∷ ticket_for 2 1 x 1 ∷ ticket_for 3 2 x 2 ∷ [];
  next_ticket = 4;
  flows = flow_entry 1 (codes "a") true ∷ flow_entry 2 (codes "b") b ∷ [];
  next_flow = 3;
}

b_waits : map (tickets (two_shares false)) (1 ∷ 2 ∷ []) ≡ 1000 ∷ 0 ∷ []
unfolding two_shares x denominated_in backing funding act is_active active worth_by val worth tickets
b_waits = refl

both_share : map (tickets (two_shares true)) (1 ∷ 2 ∷ []) ≡ 333 ∷ 666 ∷ []
unfolding two_shares x denominated_in backing funding act is_active active worth_by val worth tickets
both_share = refl

-- 5 of x fund a, and x has this backing
one_flow : List Ticket → Graph
one_flow behind = record {
  currencies = x ∷ [];
  tickets = ticket_for 1 5 x 1 ∷ behind;
  next_ticket = 3;
  flows = flow_entry 1 (codes "a") true ∷ [];
  next_flow = 2;
}

without_backing : tickets (one_flow []) 1 ≡ 0
unfolding one_flow x denominated_in backing funding act is_active active worth_by val worth tickets
without_backing = refl

with_backing : tickets (one_flow (backing_of 2 10 base x ∷ [])) 1 ≡ 10
unfolding one_flow x denominated_in backing funding act is_active active worth_by val worth tickets
with_backing = refl

-- two tickets of the greatest amount are worth no more than one
capped : tickets (one_flow (ticket_for 2 (2 ^ 20) base 1 ∷ ticket_for 3 (2 ^ 20) base 1 ∷ [])) 1 ≡ 1048576
unfolding one_flow x denominated_in backing funding act is_active active worth_by val worth tickets
capped = refl
