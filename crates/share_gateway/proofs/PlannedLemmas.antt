-- A link on which a plan's opening was made, none of its commands refused, holds what the plan says.
use Rattle.std.specs.Prelude.{◌≡◌, ◌<◌, ◌≤◌, ℕ, zero, suc, ◌+◌, ◌-◌, Bool, true, false, ◌&&◌, List, [], ◌∷◌, ◌++◌, map}
use Rattle.std.specs.Prelude.{flat_map, nat_eq, nat_le, slice_get, bytes_eq, Option, None, Some, if◌then◌else◌}
use Rattle.std.specs.List.{enumerate_from, list_all}
use Rattle.std.specs.Map.{lookup}
use Rattle.std.specs.Set.{remove_key}
use Rattle.std.proofs.Common.{refl, ap, sym, ◌∙◌, subst, arith, append_assoc}
use Rattle.std.proofs.lemmas.List.{append-nil, map-append}
use Rattle.std.proofs.lemmas.Bool.{cond_both}
use Rattle.std.proofs.lemmas.Bool.Decides.{nat_tests}
use Rattle.std.proofs.lemmas.List.Concat.{flat_map-append}
use Rattle.share_base.specs.Refusal.{first_refusal}
use Rattle.share_base.specs.declared.command.Command.TheVariants.{MakeTicket, OpenFlow, CloseFlow, Hold}
use Rattle.share_base.specs.declared.command.Command.TheVariants.{FundCurrency, FundFlow}
use Rattle.share_base.specs.declared.command.Outcome.TheVariants.{Replied}
use Rattle.share_base.specs.declared.command.Reply.{Reply}
use Rattle.share_base.specs.declared.refusal.Refusal.{Refusal}
use Rattle.share_base.specs.declared.refusal.Refusal.TheVariants.{Range, NoTariff, Taken, TableFull}
use Rattle.share_model.specs.link.Tariff.{rate_at}
use Rattle.std.specs.Prelude.{not, length, is_some}
use Rattle.share_model.specs.link.Buffers.{open_in}
use Rattle.share_base.specs.declared.version.Version.TheVariants.{Two}
use Rattle.share_model.specs.declared.funding.Holder.TheVariants.{Nobody, Currency, Flow}
use Rattle.share_model.specs.declared.funding.OpenFlow.{OpenFlow as FlowEntry}
use Rattle.share_model.specs.declared.funding.Ticket.{Ticket}
use Rattle.share_model.specs.declared.link.Book.{Book}
use Rattle.share_model.specs.declared.rates.Rate.{Rate}
use Rattle.share_model.specs.funding.Changes.{make_currency, is_numbered, with_its_holder, with_holder, flow_named}
use Rattle.share_model.specs.funding.Changes.{flow_number}
use Rattle.share_model.specs.funding.Changes.{is_open_as, active_as, make_ticket, fund_currency, fund_flow}
use Rattle.share_model.specs.funding.Changes.{add_flow, remove_flow, set_active}
use Rattle.share_model.specs.funding.Graph.{NameBytes, Graph}
use Rattle.share_model.specs.link.Books.{new_book, is_book_of, with_hold, books_with_hold}
use Rattle.share_model.specs.link.Buffers.{Buffer, new_buffer, is_buffer_of, is_busy, close_in}
use Rattle.share_model.specs.link.Commands.{command_refusal, change_by_command, command_step}
use Rattle.share_model.specs.link.Live.{Live, by_refusal, empty_link}
use Rattle.share_model.specs.lists.Change.{change_first}
use Rattle.share_model.specs.lists.Each.{Each}
use Rattle.share_model.specs.run.Fold.{State, state_after, outcomes}
use Rattle.share_model.proofs.lemmas.lists.FirstItemLemmas.{each-append}
use Rattle.share_model.proofs.lemmas.lists.RemovalLemmas.{none_from}
use Rattle.share_model.proofs.lemmas.lists.SumLemmas.{name_refl}
use Rattle.share_gateway.specs.declared.plan.Entry.{Entry}
use Rattle.share_gateway.specs.declared.plan.Entry.TheVariants.{Tenant as TenantEntry}
use Rattle.share_gateway.specs.declared.openings.PlanCommand.{PlanCommand}
use Rattle.share_gateway.specs.Plan.{CurrencyView, TenantView, PlanView, IsInLimits, ascends, flows_of, gap}
use Rattle.share_gateway.specs.Opening.{planned, make_command, open_command, gap_commands, Grantee, ToCurrency}
use Rattle.share_gateway.specs.Opening.{ToTenant}
use Rattle.share_gateway.specs.declared.plan.Grant.{Grant}
use Rattle.share_gateway.specs.Opening.{flow_commands, fund_command, grant_to, all_grants_to, to_currency, to_tenant}
use Rattle.share_gateway.specs.Opening.{GrantTo, grant_commands, grant_entry, hold_commands, opening, all_grants}
use Rattle.share_gateway.specs.Opening.{numbered}
use Rattle.share_gateway.specs.OpeningLeft.{gap_list, flows_from}
use Rattle.share_gateway.specs.Opened.{event_of, refusals_in, refused_among, first_refused, opened_link}
use Rattle.share_gateway.specs.Opened.{opening_outcomes}
use Rattle.share_gateway.specs.Making.{answer_to}
use Rattle.share_gateway.specs.Planned.{planned_ticket, planned_flow, planned_buffer, planned_book, name_of_currency}
use Rattle.share_gateway.specs.Planned.{holder_of, HoldsPlan}
use Rattle.share_gateway.proofs.OpenedLemmas.{state_of}
use Rattle.share_gateway.proofs.OpeningLemmas.{ascends-past, both, flows-one-by-one}

-- Commands that are not refused

-- the link after these commands
abbrev pub after_all : List Rate → Live → List PlanCommand → Live
after_all rates l [] = l
after_all rates l (c ∷ cs) = after_all rates (command_step rates l c.command).0 cs

abbrev pub AreAllowed : List Rate → Live → List PlanCommand → Type 0
AreAllowed rates l [] = Unit {0}
AreAllowed rates l (c ∷ cs) =
    (command_refusal rates l c.command ≡ None) × AreAllowed rates (command_step rates l c.command).0 cs

nothing : {A : Type 0} (xs ys : List A) → xs ++ ys ≡ [] → (xs ≡ []) × (ys ≡ [])
nothing [] ys none = (refl, none)
nothing (x ∷ xs) ys none = cc

map_nothing : {A B : Type 0} (f : A → B) (xs : List A) → map f xs ≡ [] → xs ≡ []
map_nothing f [] none = refl
map_nothing f (x ∷ xs) none = cc

allowed_by : (l : Live) (o : Option Refusal) (d : Live × Reply) → refusals_in (Replied (by_refusal l o d).1) ≡ []
    → o ≡ None
allowed_by l None d none = refl
allowed_by l (Some e) d none = cc

pub allowed-all : (rates : List Rate) (l : Live) (cs : List PlanCommand)
    → refused_among cs (outcomes rates (state_of l) (map event_of cs)) ≡ [] → AreAllowed rates l cs
unfolding outcomes
allowed-all rates l [] none = tt
allowed-all rates l (c ∷ cs) none =
    let next = (command_step rates l c.command).0 in
    let here = map (λ (refusal : Refusal). (c.entry, refusal)) (refusals_in (answer_to rates l c.command)) in
    let parts = nothing here (refused_among cs (outcomes rates (state_of next) (map event_of cs))) none in
    let free = map_nothing (λ (refusal : Refusal). (c.entry, refusal)) (refusals_in (answer_to rates l c.command))
    parts.0 in (
      allowed_by l (command_refusal rates l c.command) (change_by_command l c.command) free,
      allowed-all rates next cs
          parts.1,
    )

pub state_after-all : (rates : List Rate) (l : Live) (cs : List PlanCommand)
    → state_after rates (state_of l) (map event_of cs) ≡ state_of (after_all rates l cs)
unfolding state_after
state_after-all rates l [] = refl
state_after-all rates l (c ∷ cs) = state_after-all rates (command_step rates l c.command).0 cs

after_append : (rates : List Rate) (l : Live) (cs ds : List PlanCommand)
    → after_all rates l (cs ++ ds) ≡ after_all rates (after_all rates l cs) ds
after_append rates l [] ds = refl
after_append rates l (c ∷ cs) ds = after_append rates (command_step rates l c.command).0 cs ds

allowed_append : (rates : List Rate) (l : Live) (cs ds : List PlanCommand) → AreAllowed rates l (cs ++ ds)
    → AreAllowed rates l cs × AreAllowed rates (after_all rates l cs) ds
allowed_append rates l [] ds all = (tt, all)
allowed_append rates l (c ∷ cs) ds all =
    let rest = allowed_append rates (command_step rates l c.command).0 cs ds all.1 in ((all.0, rest.0), rest.1)

-- from each link of which P holds, these commands, if none is refused, lead to one of which Q holds
abbrev pub Leads : List Rate → (Live → Type 0) → List PlanCommand → (Live → Type 0) → Type 0
Leads rates P cs Q = (l : Live) → P l → AreAllowed rates l cs → Q (after_all rates l cs)

module _ (rates : List Rate) (P Q : Live → Type 0) where
  leads_on : (R : Live → Type 0) (cs ds : List PlanCommand) → Leads rates P cs Q → Leads rates Q ds R
      → Leads rates P (cs ++ ds) R
  leads_on R cs ds first second l was allowed =
      let parts = allowed_append rates l cs ds allowed in
      subst R (sym (after_append rates l cs ds)) (second (after_all rates l cs) (first l was parts.0) parts.1)

  leads_one : (c : PlanCommand)
      → ((l : Live) → P l → command_refusal rates l c.command ≡ None → Q (change_by_command l c.command).0)
      → Leads rates P (c ∷ []) Q
  leads_one c step l was allowed =
      subst Q (sym (ap (λ (o : Option Refusal). (by_refusal l o (change_by_command l c.command)).0) allowed.0))
      (step l was allowed.0)

-- The parts of a link besides its queue and its counts

pub record Holds (g : Graph) (bs : List Buffer) (ks : List Book) (l : Live) : Type 0 where
  pub graph : l.graph ≡ g
  pub buffers : l.buffers ≡ bs
  pub books : l.books ≡ ks

abbrev drawn : List NameBytes → List Ticket → ℕ → List (NameBytes × FlowEntry) → ℕ → Graph
drawn names tickets next_ticket flows next_flow = record {
  currencies = names;
  tickets = tickets;
  next_ticket = next_ticket;
  flows = flows;
  next_flow = next_flow;
}

-- Currencies

module _ (rates : List Rate) where
  currencies_made : (n : ℕ) (names : List NameBytes) (cs : List CurrencyView)
      → Leads rates (Holds (drawn names [] 1 [] 1) [] []) (map make_command (enumerate_from n cs))
      (Holds (drawn (names ++ map name_of_currency cs) [] 1 [] 1) [] [])
  currencies_made n names [] l was allowed =
      subst (λ (all : List NameBytes). Holds (drawn all [] 1 [] 1) [] [] l) (sym (append-nil names)) was
  currencies_made n names (c ∷ cs) l was allowed =
      let more = names ++ c.name ∷ [] in
      let first = leads_one rates (Holds (drawn names [] 1 [] 1) [] []) (Holds (drawn more [] 1 [] 1) [] [])
      (make_command (n, c)) (λ l was allowed. record {
        graph = ap (λ (g : Graph). make_currency g c.name) was.graph;
        buffers = was.buffers;
        books = was.books;
      }) in
      let all = leads_on rates (Holds (drawn names [] 1 [] 1) [] []) (Holds (drawn more [] 1 [] 1) [] [])
      (Holds (drawn (more ++ map name_of_currency cs) [] 1 [] 1) [] []) (make_command (n, c) ∷ [])
      (map make_command (enumerate_from (n + 1) cs)) first (currencies_made (n + 1) more cs) in
      subst (λ (all : List NameBytes). Holds (drawn all [] 1 [] 1) [] []
      (after_all rates l (map make_command (enumerate_from n (c ∷ cs)))))
      (append_assoc names (c.name ∷ []) (map name_of_currency cs)) (all l was allowed)

-- Lists

last_removed : {A : Type 0} (p : A → Bool) (xs : List A) (x : A) → Each (λ y. p y ≡ false) xs → p x ≡ true
    → remove_key p (xs ++ x ∷ []) ≡ xs
last_removed p [] x others is = rw is refl
last_removed p (y ∷ ys) x others is = rw others.0 (ap (λ zs. y ∷ zs) (last_removed p ys x others.1 is))

last_changed : {A : Type 0} (p : A → Bool) (change : A → A) (xs ys : List A) (x : A) → Each (λ y. p y ≡ false) xs
    → p x ≡ true → change_first p change (xs ++ x ∷ ys) ≡ xs ++ change x ∷ ys
unfolding change_first
last_changed p change [] ys x others is = rw is refl
last_changed p change (y ∷ xs) ys x others is =
    rw others.0 (ap (λ zs. y ∷ zs) (last_changed p change xs ys x others.1 is))

same_changed : {A : Type 0} (p : A → Bool) (change : A → A) (xs : List A) → Each (λ x. change x ≡ x) xs
    → change_first p change xs ≡ xs
unfolding change_first
same_changed p change [] same = refl
same_changed p change (x ∷ xs) same =
    cond_both (p x) (change x ∷ xs) (x ∷ change_first p change xs) (λ ys. ys ≡ x ∷ xs)
    (λ _. ap (λ y. y ∷ xs) same.0) (λ _. ap (λ ys. x ∷ ys) (same_changed p change xs same.1))

each_mapped : {A B : Type 0} (P : A → Type 0) (Q : B → Type 0) (f : A → B) → ((x : A) → P x → Q (f x)) → (xs : List A)
    → Each P xs → Each Q (map f xs)
each_mapped P Q f carry [] all = tt
each_mapped P Q f carry (x ∷ xs) all = (carry x all.0, each_mapped P Q f carry xs all.1)

each_of : {A : Type 0} (P : A → Type 0) → ((x : A) → P x) → (xs : List A) → Each P xs
each_of P all [] = tt
each_of P all (x ∷ xs) = (all x, each_of P all xs)

-- Flows and their names

-- the flow of this name is the tenant's
abbrev pub IsNamed : List TenantView → TenantView → Type 0
IsNamed ts t = lookup (bytes_eq t.name) (map planned_flow ts) ≡ Some (planned_flow t).1

named_on : (name : NameBytes) (e : FlowEntry) (ts us : List TenantView)
    → lookup (bytes_eq name) (map planned_flow ts) ≡ Some e
    → lookup (bytes_eq name) (map planned_flow (ts ++ us)) ≡ Some e
named_on name e [] us found = cc
named_on name e (t ∷ ts) us found = by_head (bytes_eq name t.name) (named_on name e ts us) found
  where
    by_head : (b : Bool)
        → (lookup (bytes_eq name) (map planned_flow ts) ≡ Some e
        → lookup (bytes_eq name) (map planned_flow (ts ++ us)) ≡ Some e)
        → (if b then Some (planned_flow t).1 else lookup (bytes_eq name) (map planned_flow ts)) ≡ Some e
        → (if b then Some (planned_flow t).1 else lookup (bytes_eq name) (map planned_flow (ts ++ us))) ≡ Some e
    by_head true later found = found
    by_head false later found = later found

-- a flow whose name none before it has
lookup_last : (name : NameBytes) (es : List (NameBytes × FlowEntry)) (e : FlowEntry) → lookup (bytes_eq name) es ≡ None
    → lookup (bytes_eq name) (es ++ (name, e) ∷ []) ≡ Some e
lookup_last name [] e none = rw (name_refl name) refl
lookup_last name (f ∷ es) e none = by_head (bytes_eq name f.0) (lookup_last name es e) none
  where
    by_head : (b : Bool)
        → (lookup (bytes_eq name) es ≡ None → lookup (bytes_eq name) (es ++ (name, e) ∷ []) ≡ Some e)
        → (if b then Some f.1 else lookup (bytes_eq name) es) ≡ None
        → (if b then Some f.1 else lookup (bytes_eq name) (es ++ (name, e) ∷ [])) ≡ Some e
    by_head true later none = cc
    by_head false later none = later none

each_named_on : (ts us vs : List TenantView) → Each (IsNamed ts) us → Each (IsNamed (ts ++ vs)) us
each_named_on ts [] vs all = tt
each_named_on ts (u ∷ us) vs all =
    (named_on u.name (planned_flow u).1 ts vs all.0, each_named_on ts us vs all.1)

-- a flow that is opened has a name that none has
free_third : (a b c d : Bool) → first_refusal ((a, Range) ∷ (b, NoTariff) ∷ (c, Taken) ∷ (d, TableFull) ∷ []) ≡ None
    → c ≡ false
free_third true b c d none = cc
free_third false true c d none = cc
free_third false false true d none = cc
free_third false false false d none = refl

name_free : (rates : List Rate) (l : Live) (name : NameBytes) (limit tariff : ℕ)
    → command_refusal rates l (OpenFlow name limit tariff) ≡ None → flow_named l.graph name ≡ None
name_free rates l name limit tariff allowed =
    none_from (flow_named l.graph name) (free_third (not (nat_le 1 limit && nat_le limit 1024))
    (not (is_some (rate_at rates tariff))) (is_some (flow_named l.graph name)) (nat_le 64 (length l.graph.flows))
    allowed)

-- Flows

abbrev opened_book : TenantView → Book
opened_book t = new_book t.flow t.tariff

-- the flow that is opened for a number that no tenant has
abbrev gap_flow : ℕ → NameBytes × FlowEntry
gap_flow n = (gap, record { number = n; active = false })

apart : (n m : ℕ) → m < n → nat_eq n m ≡ false
apart n m less = grind (arith, nat_tests, less)

-- the flows of these tenants are open, each found by its name, and n is the next number
record FlowsMade (cs : List NameBytes) (n : ℕ) (done : List TenantView) (l : Live) : Type 0 where
  holds : Holds (drawn cs [] 1 (map planned_flow done) n) (map planned_buffer done) (map opened_book done) l
  named : Each (IsNamed done) done

-- a flow is open that is to be closed
record GapOpen (cs : List NameBytes) (n : ℕ) (done : List TenantView) (l : Live) : Type 0 where
  holds : Holds (drawn cs [] 1 (map planned_flow done ++ gap_flow n ∷ []) (n + 1))
      (map planned_buffer done ++ new_buffer n 1 ∷ []) (map opened_book done ++ new_book n 1 ∷ []) l
  named : Each (IsNamed done) done
  free : lookup (bytes_eq gap) (map planned_flow done) ≡ None

other_flows : (n : ℕ) (done : List TenantView) → Each (λ (t : TenantView). t.flow < n) done
    → Each (λ e. is_open_as n e ≡ false) (map planned_flow done)
other_flows n done below =
    each_mapped (λ (t : TenantView). t.flow < n) (λ e. is_open_as n e ≡ false) planned_flow
    (λ t less. apart n t.flow less) done below

other_buffers : (n : ℕ) (done : List TenantView) → Each (λ (t : TenantView). t.flow < n) done
    → Each (λ b. is_buffer_of n b ≡ false) (map planned_buffer done)
other_buffers n done below =
    each_mapped (λ (t : TenantView). t.flow < n) (λ b. is_buffer_of n b ≡ false) planned_buffer
    (λ t less. apart n t.flow less) done below

other_books : (n : ℕ) (done : List TenantView) → Each (λ (t : TenantView). t.flow < n) done
    → Each (λ b. is_book_of n b ≡ false) (map opened_book done)
other_books n done below =
    each_mapped (λ (t : TenantView). t.flow < n) (λ b. is_book_of n b ≡ false) opened_book
    (λ t less. apart n t.flow less) done below

below_more : (n m : ℕ) (ts : List TenantView) → n ≤ m → Each (λ (t : TenantView). t.flow < n) ts
    → Each (λ (t : TenantView). t.flow < m) ts
below_more n m [] le all = tt
below_more n m (t ∷ ts) le all = (omega (arith, le, all.0), below_more n m ts le all.1)

module _ (rates : List Rate) (cs : List NameBytes) where
  gap_opens : (e : Entry) (n : ℕ) (done : List TenantView)
      → Leads rates (FlowsMade cs n done) (planned e (OpenFlow gap 1 1) ∷ []) (GapOpen cs n done)
  gap_opens e n done = leads_one rates (FlowsMade cs n done) (GapOpen cs n done) (planned e (OpenFlow gap 1 1))
      (λ l was allowed. record {
        holds = record {
          graph = ap (λ (g : Graph). add_flow g gap) was.holds.graph;
          buffers =
              ap (λ (g : Graph). open_in l.buffers g.next_flow 1) was.holds.graph
              ∙ ap (λ (bs : List Buffer). open_in bs n 1) was.holds.buffers;
          books =
              ap (λ (g : Graph). l.books ++ new_book g.next_flow 1 ∷ []) was.holds.graph
              ∙ ap (λ (ks : List Book). ks ++ new_book n 1 ∷ []) was.holds.books;
        };
        named = was.named;
        free = ap (λ (g : Graph). lookup (bytes_eq gap) g.flows) (sym was.holds.graph)
            ∙ name_free rates l gap 1 1 allowed;
      })

  gap_closes : (e : Entry) (n : ℕ) (done : List TenantView) → Each (λ (t : TenantView). t.flow < n) done
      → Leads rates (GapOpen cs n done) (planned e (CloseFlow gap) ∷ []) (FlowsMade cs (n + 1) done)
  gap_closes e n done below = leads_one rates (GapOpen cs n done) (FlowsMade cs (n + 1) done)
      (planned e (CloseFlow gap))
      (λ l was allowed.
      let own : nat_eq n n ≡ true = grind (arith, nat_tests) in
      let f : flow_number (flow_named l.graph gap) ≡ n =
      ap flow_number (ap (λ (g : Graph). lookup (bytes_eq gap) g.flows) was.holds.graph
      ∙ lookup_last gap (map planned_flow done) (gap_flow n).1 was.free) in
      record {
        holds = record {
          graph =
              ap (λ (g : Graph). remove_flow g (flow_number (flow_named l.graph gap))) was.holds.graph
              ∙ ap (remove_flow (drawn cs [] 1 (map planned_flow done ++ gap_flow n ∷ []) (n + 1))) f
              ∙ ap (λ flows. drawn cs [] 1 flows (n + 1))
              (last_removed (is_open_as n) (map planned_flow done) (gap_flow n) (other_flows n done below) own);
          buffers =
              ap (λ bs. close_in bs (flow_number (flow_named l.graph gap))) was.holds.buffers
              ∙ ap (close_in (map planned_buffer done ++ new_buffer n 1 ∷ [])) f
              ∙ last_removed (is_buffer_of n) (map planned_buffer done) (new_buffer n 1) (other_buffers n done below)
              own;
          books =
              ap (λ ks. remove_key (is_book_of (flow_number (flow_named l.graph gap))) ks) was.holds.books
              ∙ ap (λ f. remove_key (is_book_of f) (map opened_book done ++ new_book n 1 ∷ [])) f
              ∙ last_removed (is_book_of n) (map opened_book done) (new_book n 1) (other_books n done below) own;
        };
        named = was.named;
      })

  gaps_made : (i k n : ℕ) (done : List TenantView) → Each (λ (t : TenantView). t.flow < n) done
      → Leads rates (FlowsMade cs n done) (gap_list (TenantEntry i) k) (FlowsMade cs (n + k) done)
  gaps_made i zero n done below l was allowed =
      let same : n ≡ n + 0 = omega arith in subst (λ m. FlowsMade cs m done l) same was
  gaps_made i (suc k) n done below l was allowed =
      let e = TenantEntry i in
      let whole : n + 1 + k ≡ n + suc k = omega arith in
      let one = leads_on rates (FlowsMade cs n done) (GapOpen cs n done) (FlowsMade cs (n + 1) done)
      (planned e (OpenFlow gap 1 1) ∷ []) (planned e (CloseFlow gap) ∷ []) (gap_opens e n done)
      (gap_closes e n done below) in
      let all = leads_on rates (FlowsMade cs n done) (FlowsMade cs (n + 1) done) (FlowsMade cs (n + 1 + k) done)
      (gap_commands e) (gap_list e k) one
      (gaps_made i k (n + 1) done (below_more n (n + 1) done (omega arith) below)) in
      subst (λ m. FlowsMade cs m done (after_all rates l (gap_list e (suc k)))) whole (all l was allowed)

  flow_opens : (i : ℕ) (t : TenantView) (done : List TenantView)
      → Leads rates (FlowsMade cs t.flow done) (open_command (i, t) ∷ []) (FlowsMade cs (t.flow + 1) (done ++ t ∷ []))
  flow_opens i t done = leads_one rates (FlowsMade cs t.flow done) (FlowsMade cs (t.flow + 1) (done ++ t ∷ []))
      (open_command (i, t))
      (λ l was allowed.
      let free = ap (λ (g : Graph). lookup (bytes_eq t.name) g.flows) (sym was.holds.graph)
      ∙ name_free rates l t.name t.limit t.tariff allowed in
      let own : IsNamed (done ++ t ∷ []) t =
      ap (lookup (bytes_eq t.name)) (map-append planned_flow done (t ∷ []))
      ∙ lookup_last t.name (map planned_flow done) (planned_flow t).1 free in
      record {
        holds = record {
          graph =
              ap (λ (g : Graph). add_flow g t.name) was.holds.graph
              ∙ ap (λ flows. drawn cs [] 1 flows (t.flow + 1)) (sym (map-append planned_flow done (t ∷ [])));
          buffers =
              ap (λ (g : Graph). open_in l.buffers g.next_flow t.limit) was.holds.graph
              ∙ ap (λ (bs : List Buffer). open_in bs t.flow t.limit) was.holds.buffers
              ∙ sym (map-append planned_buffer done (t ∷ []));
          books =
              ap (λ (g : Graph). l.books ++ new_book g.next_flow t.tariff ∷ []) was.holds.graph
              ∙ ap (λ (ks : List Book). ks ++ new_book t.flow t.tariff ∷ []) was.holds.books
              ∙ sym (map-append opened_book done (t ∷ []));
        };
        named = each-append (IsNamed (done ++ t ∷ [])) done (t ∷ []) (each_named_on done done (t ∷ []) was.named)
            (own, tt);
      })

  -- the flows of all tenants
  abbrev AllOpen : List TenantView → Live → Type 0
  AllOpen ts l = (n : ℕ) × FlowsMade cs n ts l

  flows_made : (ts : List TenantView) (i m : ℕ) (done : List TenantView)
      → Each (λ (t : TenantView). t.flow < m + 1) done
      → ascends m (flows_of ts) ≡ true
      → Leads rates (FlowsMade cs (m + 1) done) (flows_from i (m + 1) ts) (AllOpen (done ++ ts))
  flows_made [] i m done below ascend l was allowed =
      subst (λ ts. AllOpen ts l) (sym (append-nil done)) (m + 1, was)
  flows_made (t ∷ ts) i m done below ascend l was allowed =
      let past = ascends-past m t ts ascend in
      let gaps = t.flow - (m + 1) in
      let whole : m + 1 + gaps ≡ t.flow = omega (arith, past.0) in
      let first : Leads rates (FlowsMade cs (m + 1) done) (gap_list (TenantEntry i) gaps) (FlowsMade cs t.flow done) =
      λ l was allowed. subst (λ n. FlowsMade cs n done (after_all rates l (gap_list (TenantEntry i) gaps))) whole
      (gaps_made i gaps (m + 1) done below l was allowed) in
      let earlier = below_more (m + 1) (t.flow + 1) done (omega (arith, past.0)) below in
      let later = each-append (λ (u : TenantView). u.flow < t.flow + 1) done (t ∷ []) earlier (omega arith, tt) in
      let rest = leads_on rates (FlowsMade cs t.flow done) (FlowsMade cs (t.flow + 1) (done ++ t ∷ []))
      (AllOpen (done ++ t ∷ [] ++ ts)) (open_command (i, t) ∷ []) (flows_from (i + 1) (t.flow + 1) ts)
      (flow_opens i t done) (flows_made ts (i + 1) t.flow (done ++ t ∷ []) later past.1) in
      let all = leads_on rates (FlowsMade cs (m + 1) done) (FlowsMade cs t.flow done) (AllOpen (done ++ t ∷ [] ++ ts))
      (gap_list (TenantEntry i) gaps) (open_command (i, t) ∷ flows_from (i + 1) (t.flow + 1) ts) first rest in
      subst (λ us. AllOpen us (after_all rates l (flows_from i (m + 1) (t ∷ ts)))) (append_assoc done (t ∷ []) ts)
      (all l was allowed)

-- Grants

-- a grant to a tenant whose flow is found by its name
abbrev IsToNamed : List TenantView → Grantee → Type 0
IsToNamed ts (ToCurrency i c) = Unit {0}
IsToNamed ts (ToTenant i t) = IsNamed ts t

abbrev unfunded : ℕ → ℕ → NameBytes → Ticket
unfunded n amount denomination = record { number = n; amount = amount; denomination = denomination; holder = Nobody }

other_tickets : (n : ℕ) (tickets : List Ticket) → Each (λ (t : Ticket). t.number < n) tickets
    → Each (λ t. is_numbered n t ≡ false) tickets
other_tickets n [] below = tt
other_tickets n (t ∷ tickets) below =
    let less = below.0 in
    let other : nat_eq n t.number ≡ false = grind (arith, nat_tests, less) in
    (other, other_tickets n tickets below.1)

tickets_below : (n m : ℕ) (tickets : List Ticket) → n ≤ m → Each (λ (t : Ticket). t.number < n) tickets
    → Each (λ (t : Ticket). t.number < m) tickets
tickets_below n m [] le all = tt
tickets_below n m (t ∷ tickets) le all = (omega (arith, le, all.0), tickets_below n m tickets le all.1)

module _ (rates : List Rate) (cs : List NameBytes) (ts : List TenantView) (nf : ℕ) (bs : List Buffer) (ks : List Book)
  where
    abbrev Issued : ℕ → List Ticket → Live → Type 0
    Issued n tickets l = Holds (drawn cs tickets n (map planned_flow ts) nf) bs ks l

    ticket_made : (e : Entry) (n amount : ℕ) (denomination : NameBytes) (tickets : List Ticket)
        → Leads rates (Issued n tickets) (planned e (MakeTicket amount denomination) ∷ [])
        (Issued (n + 1) (tickets ++ unfunded n amount denomination ∷ []))
    ticket_made e n amount denomination tickets =
        leads_one rates (Issued n tickets) (Issued (n + 1) (tickets ++ unfunded n amount denomination ∷ []))
        (planned e (MakeTicket amount denomination)) (λ l was allowed. record {
          graph = ap (λ (g : Graph). make_ticket g amount denomination) was.graph;
          buffers = was.buffers;
          books = was.books;
        })

    ticket_funds : (e : Entry) (n amount : ℕ) (denomination : NameBytes) (tickets : List Ticket) (to : Grantee)
        → Each (λ (t : Ticket). t.number < n) tickets → IsToNamed ts to
        → Leads rates (Issued (n + 1) (tickets ++ unfunded n amount denomination ∷ []))
        (planned e (fund_command to n) ∷ [])
        (Issued (n + 1) (tickets ++ with_its_holder (holder_of to) (unfunded n amount denomination) ∷ []))
    ticket_funds e n amount denomination tickets (ToCurrency i c) below named =
        let own : nat_eq n n ≡ true = grind (arith, nat_tests) in
        let made = unfunded n amount denomination in
        leads_one rates (Issued (n + 1) (tickets ++ made ∷ []))
        (Issued (n + 1) (tickets ++ with_its_holder (Currency c.name) made ∷ []))
        (planned e (FundCurrency n c.name)) (λ l was allowed. record {
          graph =
              ap (λ (g : Graph). fund_currency g n c.name) was.graph
              ∙ ap (λ tickets. drawn cs tickets (n + 1) (map planned_flow ts) nf)
              (last_changed (is_numbered n) (with_its_holder (Currency c.name)) tickets []
              made (other_tickets n tickets below)
              own);
          buffers = was.buffers;
          books = was.books;
        })
    ticket_funds e n amount denomination tickets (ToTenant i t) below named =
        let own : nat_eq n n ≡ true = grind (arith, nat_tests) in
        let made = unfunded n amount denomination in
        leads_one rates (Issued (n + 1) (tickets ++ made ∷ []))
        (Issued (n + 1) (tickets ++ with_its_holder (Flow t.flow) made ∷ []))
        (planned e (FundFlow n t.name)) (λ l was allowed. record {
          graph =
              ap (λ (g : Graph). fund_flow g n t.name) was.graph
              ∙ ap (λ (o : Option FlowEntry). drawn cs (with_holder n (Flow (flow_number o)) (tickets ++ made ∷ []))
              (n + 1)
              (map planned_flow ts) nf) named
              ∙ ap (λ tickets. drawn cs tickets (n + 1) (map planned_flow ts) nf)
              (last_changed (is_numbered n) (with_its_holder (Flow t.flow)) tickets []
              made (other_tickets n tickets below)
              own);
          buffers = was.buffers;
          books = was.books;
        })

    abbrev AllIssued : List Ticket → Live → Type 0
    AllIssued tickets l = (n : ℕ) × Issued n tickets l

    grants_made : (gs : List GrantTo) (n : ℕ) (tickets : List Ticket) → Each (λ (t : Ticket). t.number < n) tickets
        → Each (λ (g : GrantTo). IsToNamed ts g.grantee) gs
        → Leads rates (Issued n tickets) (flat_map grant_commands (enumerate_from n gs))
        (AllIssued (tickets ++ map planned_ticket (enumerate_from n gs)))
    grants_made [] n tickets below named l was allowed =
        subst (λ tickets. AllIssued tickets l) (sym (append-nil tickets)) (n, was)
    grants_made (g ∷ gs) n tickets below named l was allowed =
        let e = grant_entry g.grantee g.number in
        let amount = g.grant.amount in
        let denomination = g.grant.denomination in
        let made = unfunded n amount denomination in
        let all = tickets ++ planned_ticket (n, g) ∷ [] in
        let later = each-append (λ (t : Ticket). t.number < n + 1) tickets (planned_ticket (n, g) ∷ [])
        (tickets_below n (n + 1) tickets (omega arith) below) (omega arith, tt) in
        let one = leads_on rates (Issued n tickets) (Issued (n + 1) (tickets ++ made ∷ [])) (Issued (n + 1) all)
        (planned e (MakeTicket amount denomination) ∷ []) (planned e (fund_command g.grantee n) ∷ [])
        (ticket_made e n amount denomination tickets)
        (ticket_funds e n amount denomination tickets g.grantee below named.0) in
        let whole = leads_on rates (Issued n tickets) (Issued (n + 1) all)
        (AllIssued (all ++ map planned_ticket (enumerate_from (n + 1) gs)))
        (grant_commands (n, g)) (flat_map grant_commands (enumerate_from (n + 1) gs)) one
        (grants_made gs (n + 1) all later named.1) in
        subst (λ tickets. AllIssued tickets (after_all rates l (flat_map grant_commands (enumerate_from n (g ∷ gs)))))
        (append_assoc tickets (planned_ticket (n, g) ∷ []) (map planned_ticket (enumerate_from (n + 1) gs)))
        (whole l was allowed)

-- Holds

inactive : (ts : List TenantView) → Each (λ e. active_as false e ≡ e) (map planned_flow ts)
inactive [] = tt
inactive (t ∷ ts) = (refl, inactive ts)

not_both : (b : Bool) → (b && false) ≡ false
not_both true = refl
not_both false = refl

held_before : (n : ℕ) (done : List TenantView) → Each (λ (t : TenantView). t.flow < n) done
    → Each (λ b. is_book_of n b ≡ false) (map planned_book done)
held_before n done below =
    each_mapped (λ (t : TenantView). t.flow < n) (λ b. is_book_of n b ≡ false) planned_book
    (λ t less. apart n t.flow less) done below

module _ (rates : List Rate) (cs : List NameBytes) (ts : List TenantView) (nf nt : ℕ) (tickets : List Ticket)
    (bs : List Buffer) where
  abbrev graph_of : Graph
  graph_of = drawn cs tickets nt (map planned_flow ts) nf

  abbrev HeldSo : List TenantView → List TenantView → Live → Type 0
  HeldSo done rest l = Holds graph_of bs (map planned_book done ++ map opened_book rest) l

  next_books : (t : TenantView) (done rest : List TenantView)
      → map planned_book done ++ planned_book t ∷ map opened_book rest
      ≡ map planned_book (done ++ t ∷ []) ++ map opened_book rest
  next_books t done rest =
      sym (append_assoc (map planned_book done) (planned_book t ∷ []) (map opened_book rest))
      ∙ ap (λ ks. ks ++ map opened_book rest) (sym (map-append planned_book done (t ∷ [])))

  hold_made : (i : ℕ) (t : TenantView) (done rest : List TenantView) → Each (λ (u : TenantView). u.flow < t.flow) done
      → IsNamed ts t → (b : Bool) → t.held ≡ b
      → Leads rates (HeldSo done (t ∷ rest)) (if b then planned (TenantEntry i) (Hold t.name) ∷ [] else [])
      (HeldSo (done ++ t ∷ []) rest)
  hold_made i t done rest below named false free l was allowed = record {
    graph = was.graph;
    buffers = was.buffers;
    books =
        was.books
        ∙ ap (λ (held : Bool). map planned_book done
        ++ record { flow = t.flow; tariff = t.tariff; account = 0; held = held } ∷ map opened_book rest) (sym free)
        ∙ next_books t done rest;
  }
  hold_made i t done rest below named true is_held l was allowed =
      leads_one rates (HeldSo done (t ∷ rest)) (HeldSo (done ++ t ∷ []) rest) (planned (TenantEntry i) (Hold t.name))
      (λ l was allowed.
      let own : nat_eq t.flow t.flow ≡ true = grind (arith, nat_tests) in
      let f : flow_number (flow_named l.graph t.name) ≡ t.flow =
      ap flow_number (ap (λ (g : Graph). lookup (bytes_eq t.name) g.flows) was.graph ∙ named) in
      record {
        graph =
            ap (λ (b : Bool). set_active l.graph (flow_number (flow_named l.graph t.name)) b)
            (not_both (is_busy l.buffers (flow_number (flow_named l.graph t.name))))
            ∙ ap (λ (g : Graph). set_active g (flow_number (flow_named l.graph t.name)) false) was.graph
            ∙ ap (λ flows. drawn cs tickets nt flows nf)
            (same_changed (is_open_as (flow_number (flow_named l.graph t.name))) (active_as false) (map planned_flow ts)
            (inactive ts));
        buffers = was.buffers;
        books =
            ap (λ ks. books_with_hold ks (flow_number (flow_named l.graph t.name)) true) was.books
            ∙ ap (λ f. books_with_hold (map planned_book done ++ opened_book t ∷ map opened_book rest) f true) f
            ∙ last_changed (is_book_of t.flow) (with_hold true) (map planned_book done) (map opened_book rest)
            (opened_book t) (held_before t.flow done below) own
            ∙ ap (λ (held : Bool). map planned_book done
            ++ record { flow = t.flow; tariff = t.tariff; account = 0; held = held } ∷ map opened_book rest)
            (sym is_held)
            ∙ next_books t done rest;
      }) l was allowed

  holds_made : (rest : List TenantView) (i m : ℕ) (done : List TenantView)
      → Each (λ (u : TenantView). u.flow < m + 1) done → ascends m (flows_of rest) ≡ true → Each (IsNamed ts) rest
      → Leads rates (HeldSo done rest) (flat_map hold_commands (enumerate_from i rest)) (HeldSo (done ++ rest) [])
  holds_made [] i m done below ascend named l was allowed =
      subst (λ us. HeldSo us [] l) (sym (append-nil done)) was
  holds_made (t ∷ rest) i m done below ascend named l was allowed =
      let past = ascends-past m t rest ascend in
      let earlier = below_more (m + 1) t.flow done (omega (arith, past.0)) below in
      let later = each-append (λ (u : TenantView). u.flow < t.flow + 1) done (t ∷ [])
      (below_more (m + 1) (t.flow + 1) done (omega (arith, past.0)) below) (omega arith, tt) in
      let all = leads_on rates (HeldSo done (t ∷ rest)) (HeldSo (done ++ t ∷ []) rest)
      (HeldSo (done ++ t ∷ [] ++ rest) [])
      (hold_commands (i, t)) (flat_map hold_commands (enumerate_from (i + 1) rest))
      (hold_made i t done rest earlier named.0 t.held refl)
      (holds_made rest (i + 1) t.flow (done ++ t ∷ []) later past.1 named.1) in
      subst (λ us. HeldSo us [] (after_all rates l (flat_map hold_commands (enumerate_from i (t ∷ rest)))))
      (append_assoc done (t ∷ []) rest) (all l was allowed)

-- The whole opening

named_grants : (ts : List TenantView) (to : Grantee) (n : ℕ) (gs : List Grant) → IsToNamed ts to
    → Each (λ (g : GrantTo). IsToNamed ts g.grantee) (map (grant_to to) (enumerate_from n gs))
named_grants ts to n [] named = tt
named_grants ts to n (g ∷ gs) named = (named, named_grants ts to (n + 1) gs named)

named_to_currencies : (ts : List TenantView) (n : ℕ) (cs : List CurrencyView)
    → Each (λ (g : GrantTo). IsToNamed ts g.grantee) (flat_map all_grants_to (map to_currency (enumerate_from n cs)))
named_to_currencies ts n [] = tt
named_to_currencies ts n (c ∷ cs) =
    each-append (λ (g : GrantTo). IsToNamed ts g.grantee) (all_grants_to (to_currency (n, c)))
    (flat_map all_grants_to (map to_currency (enumerate_from (n + 1) cs)))
    (named_grants ts (to_currency (n, c)) 1 c.grants tt) (named_to_currencies ts (n + 1) cs)

named_to_tenants : (ts : List TenantView) (n : ℕ) (us : List TenantView) → Each (IsNamed ts) us
    → Each (λ (g : GrantTo). IsToNamed ts g.grantee) (flat_map all_grants_to (map to_tenant (enumerate_from n us)))
named_to_tenants ts n [] named = tt
named_to_tenants ts n (u ∷ us) named =
    each-append (λ (g : GrantTo). IsToNamed ts g.grantee) (all_grants_to (to_tenant (n, u)))
    (flat_map all_grants_to (map to_tenant (enumerate_from (n + 1) us)))
    (named_grants ts (to_tenant (n, u)) 1 u.grants named.0) (named_to_tenants ts (n + 1) us named.1)

named_all : (p : PlanView) → Each (IsNamed p.tenants) p.tenants
    → Each (λ (g : GrantTo). IsToNamed p.tenants g.grantee) (all_grants p)
named_all p named =
    subst (Each (λ (g : GrantTo). IsToNamed p.tenants g.grantee))
    (sym (flat_map-append all_grants_to (map to_currency (numbered p.currencies)) (map to_tenant (numbered p.tenants))))
    (each-append (λ (g : GrantTo). IsToNamed p.tenants g.grantee)
    (flat_map all_grants_to (map to_currency (numbered p.currencies)))
    (flat_map all_grants_to (map to_tenant (numbered p.tenants)))
    (named_to_currencies p.tenants 1 p.currencies) (named_to_tenants p.tenants 1 p.tenants named))

-- the opening of a plan, if none of its commands is refused
opened_holds : (rates : List Rate) (p : PlanView) → IsInLimits p
    → AreAllowed rates (empty_link Two) (opening p) → HoldsPlan p (after_all rates (empty_link Two) (opening p))
opened_holds rates p limits allowed =
    let ascend = (both (ascends 0 (flows_of p.tenants)) (list_all (λ n. nat_le n 1024) (flows_of p.tenants))
    limits.flows).0 in
    let made = map make_command (numbered p.currencies) in
    let flows = flow_commands p.tenants in
    let grants = flat_map grant_commands (numbered (all_grants p)) in
    let holds = flat_map hold_commands (numbered p.tenants) in
    let cs = map name_of_currency p.currencies in
    let l0 = empty_link Two in
    let three = allowed_append rates l0 (made ++ flows ++ grants) holds allowed in
    let two = allowed_append rates l0 (made ++ flows) grants three.0 in
    let one = allowed_append rates l0 made flows two.0 in
    let l1 = after_all rates l0 made in
    let l2 = after_all rates l0 (made ++ flows) in
    let l3 = after_all rates l0 (made ++ flows ++ grants) in
    let first = currencies_made rates 1 [] p.currencies l0 (record { graph = refl; buffers = refl; books = refl })
    one.0 in
    let second_of : AllOpen rates cs p.tenants (after_all rates l1 flows) =
    subst (λ commands. AreAllowed rates l1 commands → AllOpen rates cs p.tenants (after_all rates l1 commands))
    (sym (flows-one-by-one p.tenants limits.flows))
    (flows_made rates cs p.tenants 1 0 [] tt ascend l1 (record { holds = first; named = tt })) one.1 in
    let second = subst (AllOpen rates cs p.tenants) (sym (after_append rates l0 made flows)) second_of in
    let named = second.1.named in
    let third_of = grants_made rates cs p.tenants second.0 (map planned_buffer p.tenants) (map opened_book p.tenants)
    (all_grants p) 1 [] tt (named_all p named) l2 second.1.holds two.1 in
    let tickets = map planned_ticket (numbered (all_grants p)) in
    let third = subst (AllIssued rates cs p.tenants second.0 (map planned_buffer p.tenants) (map opened_book p.tenants)
    tickets)
    (sym (after_append rates l0 (made ++ flows) grants)) third_of in
    let fourth_of = holds_made rates cs p.tenants second.0 third.0 tickets (map planned_buffer p.tenants) p.tenants 1 0
    [] tt
    ascend named l3 third.1 three.1 in
    let fourth = subst (HeldSo rates cs p.tenants second.0 third.0 tickets (map planned_buffer p.tenants) p.tenants [])
    (sym (after_append rates l0 (made ++ flows ++ grants) holds)) fourth_of in
    record {
      currencies = ap (λ (g : Graph). g.currencies) fourth.graph;
      flows = ap (λ (g : Graph). g.flows) fourth.graph;
      buffers = fourth.buffers;
      books = fourth.books ∙ append-nil (map planned_book p.tenants);
      tickets = ap (λ (g : Graph). g.tickets) fourth.graph;
    }

none_first : {A : Type 0} (xs : List A) → slice_get xs 0 ≡ None → xs ≡ []
none_first [] none = refl
none_first (x ∷ xs) none = cc

-- a sound plan is opened as it says
pub opened-holds_plan : (rates : List Rate) (p : PlanView) → IsInLimits p → first_refused rates p ≡ None
    → HoldsPlan p (opened_link rates p)
opened-holds_plan rates p limits sound =
    let none = none_first (refused_among (opening p) (opening_outcomes rates p)) sound in
    let allowed = allowed-all rates (empty_link Two) (opening p) none in
    subst (HoldsPlan p) (sym (ap (λ (s : State). s.live) (state_after-all rates (empty_link Two) (opening p))))
    (opened_holds rates p limits allowed)
