-- The tickets of the open flows, kept by place.
use Rattle.std.proofs.Common.{◌≡◌, ℕ, ◌+◌, zero, suc, Bool, true, false, not, ◌&&◌, ◌||◌, List, [], ◌∷◌, ◌++◌}
use Rattle.std.proofs.Common.{map, take, get_or, length, nat_eq, Some, None, Result, Ok, Err, IfOk, IfErr}
use Rattle.std.proofs.Common.{option_map, slice_get, position, refl, sym, ap, ◌∙◌, arith, length-append}
use Rattle.std.specs.List.{list_any}
use Rattle.std.proofs.lemmas.List.{map-append}
use Rattle.std.proofs.lemmas.Bool.Decides.{nat_tests}
use Rattle.std.proofs.lemmas.Option.{same_Some}
use Rattle.std.proofs.Math.Bool.{beq}
use Rattle.indexmap.specs.IndexMap.{set_value_at}
use Rattle.share_model.specs.lists.Each.{Each}
use Rattle.share_model.specs.lists.Rises.{has_number}
use Rattle.share_model.proofs.lemmas.lists.FirstItemLemmas.{rises-fresh}
use Rattle.share_model.specs.lists.Rises.{Rises}
use Rattle.share_model.specs.declared.funding.OpenFlow.{OpenFlow}
use Rattle.share_model.specs.funding.Graph.{NameBytes, Graph, flow_numbers, tickets}
use Rattle.share_model.specs.funding.Changes.{is_open_as, added_flow, add_flow}
use Rattle.share_model.specs.funding.WellFormed.{IsWellFormed}
use Rattle.share_model.proofs.lemmas.funding.HolderLemmas.{idle-none, leaves-tickets}
use Rattle.share_ledger.proofs.FirstItemLemmas.{IsFirstAt, position-first, position-none, flow-first, flow-none}
use Rattle.share_ledger.specs.Cache.{ticket_list}

-- either a call is done or it is refused
pub answered : {T E : Type 0} (r : Result T E) (A : T → Type 0) (B : E → Type 0) (P : Type 0)
    → IfOk r A → IfErr r B → ((x : T) → A x → P) → ((e : E) → B e → P) → P
answered (Ok x) A B P done refused one two = one x done
answered (Err e) A B P done refused one two = two e refused

-- the tickets that are kept fit the graph
abbrev pub AreShares : List ℕ → Graph → Type 0
AreShares tickets_of_all g = take (length g.flows) tickets_of_all ≡ ticket_list g

tickets_of_all-same : (g h : Graph) (es : List (NameBytes × OpenFlow)) → ((f : ℕ) → tickets g f ≡ tickets h f)
    → map (λ (e : NameBytes × OpenFlow). tickets g e.1.number) es
    ≡ map (λ (e : NameBytes × OpenFlow). tickets h e.1.number) es
tickets_of_all-same g h [] same = refl
tickets_of_all-same g h (e ∷ es) same =
    ap (λ n. n ∷ map (λ (e : NameBytes × OpenFlow). tickets g e.1.number) es) (same e.1.number)
    ∙ ap (λ ns. tickets h e.1.number ∷ ns) (tickets_of_all-same g h es same)

-- they still fit if the flows and their tickets are the same
pub tickets_of_all-left : (tickets_of_all : List ℕ) (g h : Graph) → g.flows ≡ h.flows
    → ((f : ℕ) → tickets g f ≡ tickets h f)
    → AreShares tickets_of_all g → AreShares tickets_of_all h
tickets_of_all-left tickets_of_all g h flows same kept = grind (arith, nat_tests, tickets_of_all-same)

-- The place of a flow
found-share : (share : ℕ → ℕ) (f : ℕ) (es : List (NameBytes × OpenFlow)) (i : ℕ) → IsFirstAt (is_open_as f) es i
    → option_map (λ (e : NameBytes × OpenFlow). share e.1.number) (slice_get es i) ≡ Some (share f)
found-share share f [] i first = absurd first
found-share share f (e ∷ es) zero first = ap (λ n. Some (share n)) (sym (same e.1.number first))
  where
    same : (n : ℕ) → nat_eq f n ≡ true → f ≡ n
    same n e = grind (arith, nat_tests)
found-share share f (e ∷ es) (suc i) first = found-share share f es i first.1

pub tickets-found : (g : Graph) (f i n : ℕ)
    → position (λ (o : OpenFlow). nat_eq f o.number) (map (λ (e : NameBytes × OpenFlow). e.1) g.flows) ≡ Some i
    → option_map (λ (e : NameBytes × OpenFlow). tickets g e.1.number) (slice_get g.flows i) ≡ Some n
    → n ≡ tickets g f
tickets-found g f i n found share =
    same_Some n (tickets g f)
    (sym share ∙ found-share (tickets g) f g.flows i (flow-first f g.flows i (position-first _ _ i found)))

none-active : (f : ℕ) (es : List (NameBytes × OpenFlow)) → Each (λ (e : NameBytes × OpenFlow). is_open_as f e
    ≡ false) es
    → list_any (λ (e : NameBytes × OpenFlow). nat_eq f e.1.number && e.1.active) es ≡ false
none-active f [] none = refl
none-active f (e ∷ es) none =
    ap (λ b. (b && e.1.active) || list_any (λ (e : NameBytes × OpenFlow). nat_eq f e.1.number && e.1.active) es) none.0
    ∙ none-active f es none.1

pub tickets-missing : (g : Graph) (f : ℕ)
    → position (λ (o : OpenFlow). nat_eq f o.number) (map (λ (e : NameBytes × OpenFlow). e.1) g.flows) ≡ None
    → 0 ≡ tickets g f
tickets-missing g f missing =
    sym (idle-none g f (none-active f g.flows (flow-none f g.flows (position-none _ _ missing))))

-- a flow that is just opened has no tickets
fresh-idle : (f : ℕ) (es : List (NameBytes × OpenFlow)) → has_number f (flow_numbers es) ≡ false
    → list_any (λ (e : NameBytes × OpenFlow). nat_eq f e.1.number && e.1.active) es ≡ false
fresh-idle f [] fresh = refl
fresh-idle f (e ∷ es) fresh = by (nat_eq f e.1.number) fresh (fresh-idle f es)
  where
    by : (b : Bool) → (b || has_number f (flow_numbers es)) ≡ false
        → (has_number f (flow_numbers es) ≡ false
        → list_any (λ (e : NameBytes × OpenFlow). nat_eq f e.1.number && e.1.active) es ≡ false)
        → ((b && e.1.active) || list_any (λ (e : NameBytes × OpenFlow). nat_eq f e.1.number && e.1.active) es) ≡ false
    by true fresh rest = absurd cc
    by false fresh rest = rest fresh

pub tickets_of_all-opened : (before after : List ℕ) (g : Graph) (name : NameBytes) (n : ℕ) → IsWellFormed g → n
    ≡ length g.flows
    → take (n + 1) after ≡ take n before ++ 0 ∷ [] → AreShares before g → AreShares after (add_flow g name)
unfolding Rises
tickets_of_all-opened before after g name n ok at more kept =
    let e : NameBytes × OpenFlow = (name, added_flow g) in
    let idle = fresh-idle g.next_flow g.flows (rises-fresh g.next_flow (flow_numbers g.flows) ok.numbered.flows.2) in
    let none = (leaves-tickets g).add_flow name g.next_flow ∙ idle-none g g.next_flow idle in
    ap (λ k. take k after) (length-append g.flows (e ∷ []) ∙ ap (λ k. k + 1) (sym at))
    ∙ more ∙ ap (λ k. take k before ++ 0 ∷ []) at ∙ ap (λ ns. ns ++ 0 ∷ []) kept
    ∙ ap (λ ns. ns ++ 0 ∷ []) (tickets_of_all-same g (add_flow g name) g.flows
    (λ f. sym ((leaves-tickets g).add_flow name f)))
    ∙ ap (λ k. map (λ (e : NameBytes × OpenFlow). tickets (add_flow g name) e.1.number) g.flows ++ k ∷ []) (sym none)
    ∙ sym (map-append (λ (e : NameBytes × OpenFlow). tickets (add_flow g name) e.1.number) g.flows (e ∷ []))

-- The activity of a flow that stands as it is set
pub stands-so : (b a : Bool) → not (beq b a) ≡ false → b ≡ a
stands-so true true e = refl
stands-so true false e = absurd cc
stands-so false true e = absurd cc
stands-so false false e = refl

value-left : (es : List (NameBytes × OpenFlow)) (i : ℕ) (w : OpenFlow) (p : NameBytes × OpenFlow → Bool)
    → IsFirstAt p es i → w ≡ get_or (map (λ (e : NameBytes × OpenFlow). e.1) es) i w → set_value_at es i w ≡ es
value-left [] i w p first e = refl
value-left (x ∷ es) zero w p first e = ap (λ (o : OpenFlow). (x.0, o) ∷ es) e
value-left (x ∷ es) (suc i) w p first e = ap (λ l. x ∷ l) (value-left es i w p first.1 e)

pub activity-left : (es : List (NameBytes × OpenFlow)) (i : ℕ) (w : OpenFlow) (p : NameBytes × OpenFlow
    → Bool) (a : Bool)
    → IsFirstAt p es i → w ≡ get_or (map (λ (e : NameBytes × OpenFlow). e.1) es) i w
    → w.active ≡ a → set_value_at es i (record w { active = a }) ≡ es
activity-left es i w p a first e same =
    ap (λ b. set_value_at es i (record w { active = b })) (sym same) ∙ value-left es i w p first e
