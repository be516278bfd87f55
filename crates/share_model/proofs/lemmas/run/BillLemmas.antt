-- Laws of the histories of runs: accounts are what the packets cost, those of closed flows among them.
use Rattle.std.specs.Prelude.{◌≡◌, ◌<◌, ◌+◌, ℕ, Bool, true, false, not, ◌&&◌, ◌||◌, List, [], ◌∷◌, ◌++◌, length, map}
use Rattle.std.specs.Prelude.{filter}
use Rattle.std.specs.Prelude.{find, sum_by, nat_eq, Option, None, Some, option_map, is_some, if◌then◌else◌}
use Rattle.std.specs.Option.{option_or}
use Rattle.std.specs.Set.{remove_key}
use Rattle.std.proofs.Common.{refl, ap, sym, ◌∙◌, subst, arith}
use Rattle.std.proofs.Math.Nat.{add-zero, zero-add}
use Rattle.std.proofs.lemmas.Bool.{eqb-true, eqb-false, ne_eqb}
use Rattle.std.proofs.lemmas.List.Folds.{find-append}
use Rattle.std.proofs.lemmas.Option.{same_Some}
use Rattle.share_base.specs.declared.command.Event.{Event}
use Rattle.share_base.specs.declared.version.Version.{Version}
use Rattle.share_model.specs.declared.funding.OpenFlow.{OpenFlow}
use Rattle.share_model.specs.declared.link.Book.{Book}
use Rattle.share_model.specs.declared.rates.Rate.{Rate}
use Rattle.share_model.specs.lists.Rises.{Rises}
use Rattle.share_model.specs.lists.Rises.{has_number}
use Rattle.share_model.proofs.lemmas.lists.FirstItemLemmas.{has_number-last, each-append, each-one, find-change_first}
use Rattle.share_model.proofs.lemmas.lists.FirstItemLemmas.{find-change_first_other, is_some-find_number}
use Rattle.share_model.proofs.lemmas.lists.RemovalLemmas.{map-remove_key, find-remove_other, find-absent}
use Rattle.share_model.proofs.lemmas.lists.RemovalLemmas.{has_number-remove_same}
use Rattle.share_model.proofs.lemmas.lists.RemovalLemmas.{has_number-remove_other}
use Rattle.share_model.specs.funding.Graph.{NameBytes, flow_numbers}
use Rattle.share_model.specs.funding.Changes.{add_flow}
use Rattle.share_model.specs.link.Tariff.{AreInRange}
use Rattle.share_model.specs.link.Buffers.{pop_in, is_busy}
use Rattle.share_model.proofs.lemmas.link.BufferLemmas.{numbers-with_activity}
use Rattle.share_model.specs.link.Commands.{IsClosable}
use Rattle.share_model.specs.link.Turns.{Sending, frame_of}
use Rattle.share_model.specs.link.Books.{is_book_of, account_in, new_book, tariff_in, tariff_of, units_by, units_due}
use Rattle.share_model.specs.link.Books.{with_units}
use Rattle.share_model.specs.link.Books.{books_with_units, is_held}
use Rattle.share_model.proofs.lemmas.link.HoldLemmas.{account-with_hold}
use Rattle.share_model.specs.link.Commands.{open_flow, close_flow}
use Rattle.share_model.specs.link.Turns.{whole, torn_link}
use Rattle.share_model.specs.run.Fold.{Sent, State, empty_state, torn_by, run}
use Rattle.share_model.specs.run.Events.{Sends, MayFollow}
use Rattle.share_model.specs.run.Sound.{SoundState}
use Rattle.share_model.proofs.lemmas.run.SoundLinkLemmas.{sending-head, sending-tariff, head-given, head-stands}
use Rattle.share_model.proofs.lemmas.run.SoundLinkLemmas.{sound-numbered}
use Rattle.share_model.proofs.lemmas.run.SoundCommandLemmas.{numbers-added}
use Rattle.share_model.proofs.lemmas.run.SoundClosingLemmas.{numbers-without}
use Rattle.share_model.proofs.lemmas.run.TornPacketLemmas.{torn-none}
use Rattle.share_model.proofs.lemmas.run.ByteLemmas.{sent_of, frame_of-sending}
use Rattle.share_model.proofs.lemmas.run.EventCaseLemmas.{StepCases, run-cases}
use Rattle.share_model.proofs.lemmas.run.CostLemmas.{AreGivenFlows, given_more, bill_none, IsSplit, cost-same}
use Rattle.share_model.proofs.lemmas.run.CostLemmas.{cost-split}
use Rattle.share_model.proofs.lemmas.run.CostLemmas.{sent_more}
use Rattle.share_model.specs.run.History.{sent_by, cost, sent_cost, torn_cost, cost_of, bill, is_closed, past_bill}

-- the account in each book is what the flow's packets cost
pub record IsBilled (rates : List Rate) (s : State) : Type 0 where
  pub given : AreGivenFlows s.live.graph.next_flow s.done s.torn
  pub billed : (f : ℕ) (b : Book) → find (is_book_of f) s.live.books ≡ Some b → b.account ≡ bill rates s f
  pub past : s.live.counts.past ≡ past_bill rates s

-- ---- Events

no_book : {P : Type 0} (b : Book) → None ≡ Some b → P
no_book b found = cc

new_billed_by : (rates : List Rate) (s : State) (f tariff : ℕ) (g : ℕ) (b : Book) (k : Bool) → nat_eq g f ≡ k
    → AreGivenFlows f s.done s.torn → (if k then Some (new_book f tariff) else None) ≡ Some b → b.account
    ≡ bill rates s g
new_billed_by rates s f tariff g b true test given is =
    ap (λ (b : Book). b.account) (sym (same_Some (new_book f tariff) b is))
    ∙ (sym (bill_none rates s f given) ∙ ap (bill rates s) (sym (eqb-true g f test)))
new_billed_by rates s f tariff g b false test given is = cc

new_billed : (rates : List Rate) (s : State) (f tariff : ℕ) (g : ℕ) (b : Book) (o : Option Book)
    → find (is_book_of g) s.live.books ≡ o → AreGivenFlows f s.done s.torn
    → ((b : Book) → o ≡ Some b → b.account ≡ bill rates s g)
    → option_or o (if nat_eq g f then Some (new_book f tariff) else None) ≡ Some b → b.account ≡ bill rates s g
new_billed rates s f tariff g b (Some b') found given was is = was b is
new_billed rates s f tariff g b None found given was is = new_billed_by rates s f tariff g b (nat_eq g f) refl given is

not_given_yet : (g next : ℕ) → g < next → nat_eq g next ≡ false
not_given_yet g next below = ne_eqb g next (below_self g next below)
  where
    below_self : (g next : ℕ) → g < next → g ≡ next → ⊥
    below_self g next below same = omega arith

-- a flow that is opened has cost nothing, open or not
opened_past : (rates : List Rate) (s : State) (name : NameBytes) → AreGivenFlows s.live.graph.next_flow s.done s.torn
    → cost_of s.live.version rates (is_closed (flow_numbers (add_flow s.live.graph name).flows)) s.done s.torn
    ≡ past_bill rates s
opened_past rates s name given =
    let next = s.live.graph.next_flow in
    let ns = flow_numbers s.live.graph.flows in
    ap (λ ms. cost_of s.live.version rates (is_closed ms) s.done s.torn) (numbers-added s.live.graph name)
    ∙ cost-same s.live.version rates next (is_closed (ns ++ next ∷ [])) (is_closed ns)
    (λ g below. ap not (has_number-last next g ns ∙ ap (λ b. b || has_number g ns) (not_given_yet g next below)))
    s.done s.torn given

opened_billed : (rates : List Rate) (s : State) (name : NameBytes) (limit tariff : ℕ) → IsBilled rates s
    → IsBilled rates (record { live = open_flow s.live name limit tariff; done = s.done; torn = s.torn })
opened_billed rates s name limit tariff was = record {
  given = given_more s.live.graph.next_flow s.done s.torn was.given;
  past = was.past ∙ sym (opened_past rates s name was.given);
  billed =
      λ g b found. new_billed rates s s.live.graph.next_flow tariff g b
      (find (is_book_of g) s.live.books) refl was.given (was.billed g)
      (sym (find-append (is_book_of g) s.live.books (new_book s.live.graph.next_flow tariff ∷ [])) ∙ found);
}

units_posted : (rates : List Rate) (n units due : ℕ) (b : Book) (o : Option Book) → units ≡ units_by rates n o
    → ((b0 : Book) → o ≡ Some b0 → b0.account ≡ due) → option_map (with_units rates units) o ≡ Some b
    → b.account ≡ due + cost rates (tariff_in o) n
units_posted rates n units due b None same was is = cc
units_posted rates n units due b (Some b0) same was is =
    ap (λ (b : Book). b.account) (sym (same_Some (with_units rates units b0) b is))
    ∙ (ap (λ u. (with_units rates u b0).account) same ∙ ap (λ m. m + cost rates b0.tariff n) (was b0 refl))

other_book : (rates : List Rate) (units f g : ℕ) → nat_eq f g ≡ false → (b : Book) → is_book_of g b ≡ true
    → (is_book_of f b ≡ false) × (is_book_of f (with_units rates units b) ≡ false)
other_book rates units f g test b holds =
    let e : nat_eq f b.flow ≡ false = ne_eqb f b.flow
    (λ same. eqb-false f g test (same ∙ sym (eqb-true g b.flow holds))) in (e, e)

-- a flow that is closed

account_billed : (rates : List Rate) (s : State) (f : ℕ) (o : Option Book) → find (is_book_of f) s.live.books ≡ o
    → is_some o ≡ true → IsBilled rates s → account_in o ≡ bill rates s f
account_billed rates s f None found there was = cc
account_billed rates s f (Some b) found there was = was.billed f b found

closed_split : (limit f : ℕ) (ns : List ℕ) → Rises limit ns → has_number f ns ≡ true
    → IsSplit (is_closed (remove_key (nat_eq f) ns)) (is_closed ns) (nat_eq f)
closed_split limit f ns rises stands g n = by_flow (nat_eq f g) refl
  where
    by_flow : (b : Bool) → nat_eq f g ≡ b
        → (if is_closed (remove_key (nat_eq f) ns) g then n else 0)
        ≡ (if is_closed ns g then n else 0) + (if b then n else 0)
    by_flow true test =
        let same : g ≡ f = sym (eqb-true f g test) in
        let gone : has_number g (remove_key (nat_eq f) ns) ≡ false =
        ap (λ m. has_number m (remove_key (nat_eq f) ns)) same ∙ has_number-remove_same limit f ns rises in
        let there : has_number g ns ≡ true = ap (λ m. has_number m ns) same ∙ stands in
        ap (λ b. if not b then n else 0) gone
        ∙ (sym (zero-add n) ∙ ap (λ b. (if not b then n else 0) + n) (sym there))
    by_flow false test =
        ap (λ b. if not b then n else 0)
        (has_number-remove_other f g (ne_eqb g f (λ same. eqb-false f g test (sym same))) ns)
        ∙ sym (add-zero (if is_closed ns g then n else 0))

closed_account : (limit : ℕ) (rates : List Rate) (s : State) (f g : ℕ) (b : Book) (k : Bool) → nat_eq g f ≡ k
    → Rises limit (map (λ (b : Book). b.flow) s.live.books) → IsBilled rates s
    → find (is_book_of g) (close_flow s.live f).books ≡ Some b → b.account ≡ bill rates s g
closed_account limit rates s f g b true test rises was found =
    let same : g ≡ f = eqb-true g f test in
    let none : find (is_book_of g) (close_flow s.live f).books ≡ None =
    find-absent (λ (b : Book). b.flow) g (close_flow s.live f).books
    (ap (has_number g) (map-remove_key (λ (b : Book). b.flow) (nat_eq f) s.live.books)
    ∙ (ap (λ m. has_number m (remove_key (nat_eq f) (map (λ (b : Book). b.flow) s.live.books))) same
    ∙ has_number-remove_same limit f (map (λ (b : Book). b.flow) s.live.books) rises)) in
    no_book b (sym none ∙ found)
closed_account limit rates s f g b false test rises was found =
    was.billed g b (sym (find-remove_other (λ (b : Book). b.flow) f g test s.live.books) ∙ found)

closed_billed : (life : ℕ) (rates : List Rate) (s : State) → SoundState life rates s → IsBilled rates s → (f : ℕ)
    → IsClosable s.live f
    → IsBilled rates (record { live = close_flow s.live f; done = s.done; torn = s.torn })
closed_billed life rates s sound was f may =
    let next = s.live.graph.next_flow in
    let ns = flow_numbers s.live.graph.flows in
    let rises = sound-numbered sound.live in
    let booked = sound.live.flows.booked in
    record {
      given = was.given;
      billed =
          λ g b found. closed_account next rates s f g b (nat_eq g f) refl (subst (Rises next) (sym booked) rises) was
          found;
      past =
          omega (
            arith,
            was.past,
            account_billed rates s f (find (is_book_of f) s.live.books) refl
                (is_some-find_number (λ (b : Book). b.flow) f s.live.books
                ∙ (ap (has_number f) booked ∙ may.stands)) was,
            cost-split s.live.version rates (is_closed (remove_key (nat_eq f) ns)) (is_closed ns) (nat_eq f)
                (closed_split next f ns rises may.stands) s.done s.torn,
            ap (λ ms. cost_of s.live.version rates (is_closed ms) s.done s.torn) (numbers-without f s.live.graph.flows),
          );
    }

-- the units of n bytes, added to the account in a flow's book
posted_account : (rates : List Rate) (books : List Book) (g n f due : ℕ) (b : Book)
    → ((b0 : Book) → find (is_book_of f) books ≡ Some b0 → b0.account ≡ due)
    → find (is_book_of f) (books_with_units rates books g (units_due rates books g n)) ≡ Some b
    → (k : Bool) → nat_eq f g ≡ k → b.account ≡ due + (if k then cost rates (tariff_of books g) n else 0)
posted_account rates books g n f due b was found true test =
    let units = units_due rates books g n in
    let same : f ≡ g = eqb-true f g test in
    let there : find (is_book_of g) (books_with_units rates books g units) ≡ Some b
    = subst (λ h. find (is_book_of h) (books_with_units rates books g units) ≡ Some b) same found in
    let before : (b0 : Book) → find (is_book_of g) books ≡ Some b0
    → b0.account ≡ due = subst (λ h. (b0 : Book) → find (is_book_of h) books ≡ Some b0 → b0.account ≡ due) same was in
    units_posted rates n units due b (find (is_book_of g) books) refl before
    (sym (find-change_first (is_book_of g) (with_units rates units) (λ b holds. holds) books) ∙ there)
posted_account rates books g n f due b was found false test =
    was b (sym (find-change_first_other (is_book_of g) (is_book_of f) (with_units rates (units_due rates books g n))
    (other_book rates (units_due rates books g n) f g test) books) ∙ found) ∙ sym (add-zero due)

bill_more : (a t x : ℕ) → (a + t) + x ≡ (a + x) + t
bill_more a t x = omega arith

-- a packet of an open flow costs no closed one
finished_past : (rates : List Rate) (s : State) (snd : Sending)
    → has_number snd.head.flow (flow_numbers s.live.graph.flows) ≡ true
    → cost_of s.live.version rates (is_closed (flow_numbers s.live.graph.flows)) (s.done ++ sent_of snd ∷ []) s.torn
    ≡ past_bill rates s
finished_past rates s snd stands =
    let p = is_closed (flow_numbers s.live.graph.flows) in
    let none : (if p snd.head.flow then sent_cost s.live.version rates (sent_of snd) else 0) ≡ 0
    = ap (λ b. if not b then sent_cost s.live.version rates (sent_of snd) else 0) stands in
    ap (λ n. n + torn_cost rates p s.torn)
    (sent_more s.live.version rates p s.done (sent_of snd)
    ∙ (ap (λ n. sum_by (sent_cost s.live.version rates) (filter (λ (d : Sent). p d.head.flow) s.done) + n) none
    ∙ add-zero (sum_by (sent_cost s.live.version rates) (filter (λ (d : Sent). p d.head.flow) s.done))))

-- the posted amount for a whole frame is the cost of its packet
whole_cost : (life : ℕ) (rates : List Rate) (s : State) (snd : Sending) → SoundState life rates s → Sends s.live snd
    → cost rates (tariff_of s.live.books snd.head.flow) (length (frame_of snd))
    ≡ sent_cost s.live.version rates (sent_of snd)
whole_cost life rates s snd sound sends =
    ap (λ t. cost rates t (length (frame_of snd))) (sym (sending-tariff sound.live sends.is))
    ∙ ap (λ bytes. cost rates snd.tariff (length bytes)) (sym (frame_of-sending sound.live sends.is))

finished_billed : (life : ℕ) (rates : List Rate) (s : State) → SoundState life rates s → IsBilled rates s
    → (snd : Sending) (k : ℕ) → Sends s.live snd → IsBilled rates
    (record { live = whole rates s.live snd k; done = s.done ++ sent_of snd ∷ []; torn = s.torn })
finished_billed life rates s sound was snd k sends = record {
  given = record {
    sent =
        each-append (λ (d : Sent). d.head.flow < s.live.graph.next_flow) s.done (sent_of snd ∷ []) was.given.sent
        (each-one (λ (d : Sent). d.head.flow < s.live.graph.next_flow) (sent_of snd)
        (head-given sound.live snd.head.flow (sending-head sound.live sends.is)));
    torn = was.given.torn;
  };
  billed =
      λ f b found. posted_account rates s.live.books snd.head.flow (length (frame_of snd)) f (bill rates s f) b
      (was.billed f) found (nat_eq f snd.head.flow) refl
      ∙ (ap (λ n. bill rates s f + (if nat_eq f snd.head.flow then n else 0)) (whole_cost life rates s snd sound sends)
      ∙ bill_more (sum_by (sent_cost s.live.version rates) (sent_by f s.done)) (torn_cost rates (nat_eq f) s.torn)
      (if nat_eq f snd.head.flow then sent_cost s.live.version rates (sent_of snd) else 0)
      ∙ ap (λ m. m + torn_cost rates (nat_eq f) s.torn)
      (sym (sent_more s.live.version rates (nat_eq f) s.done (sent_of snd))));
  past =
      was.past
      ∙ sym (ap (λ ms. cost_of s.live.version rates (is_closed ms) (s.done ++ sent_of snd ∷ []) s.torn)
      (numbers-with_activity snd.head.flow
      (is_busy (pop_in s.live.buffers snd.head.flow) snd.head.flow && not (is_held s.live.books snd.head.flow))
      s.live.graph.flows)
      ∙ finished_past rates s snd (head-stands sound.live snd.head.flow (sending-head sound.live sends.is)));
}

tore_billed : (life : ℕ) (rates : List Rate) (s : State) → SoundState life rates s → IsBilled rates s → (snd : Sending)
    → Sends s.live snd
    → IsBilled rates (record { live = torn_link rates s.live snd; done = s.done; torn = Some (torn_by snd) })
tore_billed life rates s sound was snd sends =
    let p = is_closed (flow_numbers s.live.graph.flows) in
    record {
      given =
          record {
            sent = was.given.sent;
            torn = head-given sound.live snd.head.flow (sending-head sound.live sends.is);
          };
      billed =
          λ f b found. posted_account rates s.live.books snd.head.flow snd.out f (bill rates s f) b (was.billed f) found
          (nat_eq f snd.head.flow) refl
          ∙ (ap (λ t. bill rates s f + (if nat_eq f snd.head.flow then cost rates t snd.out else 0))
          (sym (sending-tariff sound.live sends.is))
          ∙ ap (λ t. (sum_by (sent_cost s.live.version rates) (sent_by f s.done) + torn_cost rates (nat_eq f) t)
          + (if nat_eq f snd.head.flow then cost rates snd.tariff snd.out else 0))
          (torn-none s.live s.torn sends.unbroken sound.torn)
          ∙ ap (λ m. m
          + (if nat_eq f snd.head.flow then cost rates snd.tariff snd.out else 0))
          (add-zero (sum_by (sent_cost s.live.version rates) (sent_by f s.done))));
      past =
          was.past
          ∙ ap (λ n. sum_by (sent_cost s.live.version rates) (filter (λ (d : Sent). p d.head.flow) s.done) + n)
          (ap (torn_cost rates p) (torn-none s.live s.torn sends.unbroken sound.torn)
          ∙ sym (ap (λ b. if not b then cost rates snd.tariff snd.out else 0)
          (head-stands sound.live snd.head.flow (sending-head sound.live sends.is))));
    }

-- the account of a book that is found with it
account_found : (o : Option Book) (m n : ℕ) → option_map (λ b. b.account) o ≡ Some m
    → ((b : Book) → o ≡ Some b → b.account ≡ n) → m ≡ n
account_found None m n is was = cc
account_found (Some b) m n is was = sym (same_Some b.account m is) ∙ was b refl

pub billed_cases : (life : ℕ) (rates : List Rate) (s : State) → SoundState life rates s → s.live.counts.events < life
    → IsBilled rates s → StepCases (IsBilled rates) rates s
billed_cases life rates s sound below was = record {
  refused = record { given = was.given; billed = was.billed; past = was.past };
  funded =
      λ g funded. record {
        given = subst (λ n. AreGivenFlows n s.done s.torn) (sym funded.next_flow) was.given;
        billed = was.billed;
        past =
            was.past
            ∙ ap
            (λ (es : List (NameBytes × OpenFlow)).
            cost_of s.live.version rates (is_closed (flow_numbers es)) s.done s.torn)
            (sym funded.flows);
      };
  opened = λ name limit tariff allowed. opened_billed rates s name limit tariff was;
  closed = λ f may. closed_billed life rates s sound was f may;
  held = λ g held stands. record {
    given = was.given;
    billed = λ f b found. account_found (find (is_book_of f) s.live.books) b.account (bill rates s f)
        (sym (account-with_hold s.live.books g f held) ∙ ap (option_map (λ b. b.account)) found) (was.billed f);
    past =
        was.past
        ∙ ap (λ ms. cost_of s.live.version rates (is_closed ms) s.done s.torn)
        (sym (numbers-with_activity g (is_busy s.live.buffers g && not held) s.live.graph.flows));
  };
  accepted = λ f body short b found. record {
    given = was.given;
    billed = was.billed;
    past =
        was.past
        ∙ ap (λ ms. cost_of s.live.version rates (is_closed ms) s.done s.torn)
        (sym (numbers-with_activity f (not (is_held s.live.books f)) s.live.graph.flows));
  };
  finished = λ snd k sends whole. finished_billed life rates s sound was snd k sends;
  begun = λ snd k sends. record { given = was.given; billed = was.billed; past = was.past };
  tore = λ snd sends. tore_billed life rates s sound was snd sends;
}

pub billed_empty : (version : Version) (rates : List Rate) → IsBilled rates (empty_state version)
billed_empty version rates =
    record { given = record { sent = tt; torn = tt }; billed = λ f b found. no_book b found; past = refl }

-- in every run the account of a flow is what its packets cost
pub run-billed : (version : Version) (life : ℕ) (rates : List Rate) (es : List Event) → AreInRange rates
    → MayFollow life rates (empty_state version) es → (f : ℕ) (b : Book)
    → find (is_book_of f) (run version rates es).live.books ≡ Some b
    → b.account ≡ bill rates (run version rates es) f
run-billed version life rates es range may =
    (run-cases (IsBilled rates) life rates range (billed_cases life rates) (billed_empty version rates) es may).billed

-- and what closed flows had on their accounts is what their packets cost
pub run-past : (version : Version) (life : ℕ) (rates : List Rate) (es : List Event) → AreInRange rates
    → MayFollow life rates (empty_state version) es
    → (run version rates es).live.counts.past ≡ past_bill rates (run version rates es)
run-past version life rates es range may =
    (run-cases (IsBilled rates) life rates range (billed_cases life rates) (billed_empty version rates) es may).past
