-- The opening of a plan on a link, command by command: what it comes to in the end follows from what is left of it.
use Rattle.std.specs.Prelude.{◌≡◌, ◌<◌, ◌≤◌, ℕ, ◌+◌, ◌*◌, true, List, [], ◌∷◌, ◌++◌, map, flat_map}
use Rattle.std.specs.Prelude.{length, max, nat_eq, nat_le, slice_get, Option, None, Some, find, false, ◌^◌}
use Rattle.std.specs.List.{range_with_len, list_all}
use Rattle.std.proofs.Common.{refl, ap, sym, ◌∙◌, subst, arith, length-append}
use Rattle.std.proofs.lemmas.List.{length-map}
use Rattle.std.proofs.lemmas.List.FromFn.{length-enumerate_from, length-range_with_len}
use Rattle.std.proofs.lemmas.Bool.{cond_both, ne_eqb}
use Rattle.std.proofs.lemmas.Bool.Decides.{nat_tests}
use Rattle.share_base.specs.declared.refusal.Refusal.{Refusal}
use Rattle.share_base.specs.declared.command.Command.TheVariants.{Hold}
use Rattle.share_base.specs.declared.command.Outcome.{Outcome}
use Rattle.share_base.specs.declared.version.Version.TheVariants.{Two}
use Rattle.share_model.specs.declared.rates.Rate.{Rate}
use Rattle.share_model.specs.link.Commands.{command_step}
use Rattle.share_model.specs.link.Fields.{HasCommandFields}
use Rattle.share_model.specs.link.Calls.{is_spent}
use Rattle.share_model.specs.link.Live.{Live, empty_link}
use Rattle.share_model.specs.link.View.{LinkView}
use Rattle.share_model.specs.link.Tariff.{AreInRange}
use Rattle.share_model.specs.run.Events.{MayFollow, MayRun}
use Rattle.share_model.specs.run.Fold.{State, empty_state, run, state_after, outcomes}
use Rattle.share_model.proofs.lemmas.run.EventLemmas.{state-empty, state-after, events-commanded}
use Rattle.share_journal.specs.Records.{IsRunOf}
use Rattle.share_gateway.specs.declared.plan.Entry.{Entry}
use Rattle.share_gateway.specs.declared.plan.Entry.TheVariants.{Tenant}
use Rattle.share_gateway.specs.declared.openings.PlanCommand.{PlanCommand}
use Rattle.share_gateway.specs.declared.opened.NotOpened.{NotOpened}
use Rattle.share_gateway.specs.declared.opened.NotOpened.TheVariants.{NoMemory, Range, Refused as RefusedEntry}
use Rattle.share_gateway.specs.Plan.{TenantView, PlanView, IsInLimits, flows_of, ascends, greatest_flow}
use Rattle.share_gateway.specs.Plan.{funding_commands}
use Rattle.share_gateway.specs.Opening.{numbered, make_command, reaches, number_by, number_commands, flow_commands}
use Rattle.share_gateway.specs.Opening.{all_grants, grant_commands, hold_commands, opening, GrantTo}
use Rattle.share_gateway.specs.Opening.{open_command, gap_commands, planned}
use Rattle.share_gateway.specs.Opened.{event_of, opening_events, opening_outcomes, opened_link, refusals_in}
use Rattle.share_gateway.specs.Opened.{refused_among, first_refused}
use Rattle.share_gateway.specs.Opened.{is_book_life, IsOpened, IsNotOpened}
use Rattle.share_gateway.specs.Making.{answer_to, IsMade, IsNotMade}
use Rattle.share_gateway.proofs.OpeningLemmas.{length-all_grants, ascends-past, both}

-- The length of an opening

length_flat_map_le : {A B : Type 0} (f : A → List B) (most : ℕ) → ((x : A) → length (f x) ≤ most) → (xs : List A)
    → length (flat_map f xs) ≤ most * length xs
length_flat_map_le f most few [] = omega arith
length_flat_map_le f most few (x ∷ xs) =
    let here = few x in
    let rest = length_flat_map_le f most few xs in
    let all = length-append (f x) (flat_map f xs) in
    grind (arith, here, rest, all)

few_by_number : (n : ℕ) (o : Option (ℕ × TenantView)) → length (number_by n o) ≤ 2
few_by_number n None = omega arith
few_by_number n (Some t) =
    cond_both (nat_eq n t.1.flow) (open_command t ∷ []) (gap_commands (Tenant t.0))
    (λ (cs : List PlanCommand). length cs ≤ 2) (λ _. omega arith) (λ _. omega arith)

few_grants : (g : ℕ × GrantTo) → length (grant_commands g) ≤ 2
few_grants g = omega arith

few_holds : (t : ℕ × TenantView) → length (hold_commands t) ≤ 1
few_holds t =
    cond_both t.1.held (planned (Tenant t.0) (Hold t.1.name) ∷ []) []
    (λ (cs : List PlanCommand). length cs ≤ 1) (λ _. omega arith) (λ _. omega arith)

-- flow numbers that ascend are at least as many as tenants
tenants_ascend : (m : ℕ) (ts : List TenantView) → ascends m (flows_of ts) ≡ true
    → m + length ts ≤ max m (greatest_flow ts)
tenants_ascend m [] ascend = omega arith
tenants_ascend m (t ∷ ts) ascend =
    let past = ascends-past m t ts ascend in
    let rest = tenants_ascend t.flow ts past.1 in omega (arith, past.0, rest)

greatest_within : (ts : List TenantView) → list_all (λ n. nat_le n 1024) (flows_of ts) ≡ true → greatest_flow ts ≤ 1024
greatest_within [] all = omega arith
greatest_within (t ∷ ts) all =
    let parts = both (nat_le t.flow 1024) (list_all (λ n. nat_le n 1024) (flows_of ts)) all in
    let here : t.flow ≤ 1024 = grind (arith, nat_tests, parts.0) in
    let rest = greatest_within ts parts.1 in omega (arith, here, rest)

-- an opening has no more commands than the shortest book has events
pub length-opening : (p : PlanView) → IsInLimits p → length (opening p) ≤ 131072
length-opening p limits =
    let made = map make_command (numbered p.currencies) in
    let flows = flow_commands p.tenants in
    let grants = flat_map grant_commands (numbered (all_grants p)) in
    let holds = flat_map hold_commands (numbered p.tenants) in
    let parts = both (ascends 0 (flows_of p.tenants)) (list_all (λ n. nat_le n 1024) (flows_of p.tenants))
    limits.flows in
    let funding : funding_commands p ≤ 65536 = grind (arith, nat_tests, limits.funding) in
    let greatest = greatest_within p.tenants parts.1 in
    let tenants = tenants_ascend 0 p.tenants parts.0 in
    let all = length-append (made ++ flows ++ grants) holds in
    let three = length-append (made ++ flows) grants in
    let two = length-append made flows in
    let first = length-map (numbered p.currencies) make_command in
    let currencies = length-enumerate_from 1 p.currencies in
    let second = length_flat_map_le (number_commands p.tenants) 2
    (λ n. few_by_number n (find (reaches n) (numbered p.tenants)))
    (range_with_len 1 (greatest_flow p.tenants)) in
    let numbers = length-range_with_len 1 (greatest_flow p.tenants) in
    let third = length_flat_map_le grant_commands 2 few_grants (numbered (all_grants p)) in
    let granted = length-enumerate_from 1 (all_grants p) in
    let counted = length-all_grants p in
    let fourth = length_flat_map_le hold_commands 1 few_holds (numbered p.tenants) in
    let held = length-enumerate_from 1 p.tenants in
    omega (
      arith,
      funding,
      greatest,
      tenants,
      all,
      three,
      two,
      first,
      currencies,
      second,
      numbers,
      third,
      granted,
      counted,
      fourth,
      held,
    )

-- The opening goes on

-- the state of a run of commands alone
abbrev pub state_of : Live → State
state_of l = record { live = l; done = []; torn = None }

-- these commands of the opening are left, and the link holds l: the opening ends as they end on it, and its refusals
-- are theirs
pub record GoesOn (rates : List Rate) (p : PlanView) (life : ℕ) (l : Live) (left : List PlanCommand) : Type 0 where
  pub ends : state_after rates (state_of l) (map event_of left) ≡ run Two rates (opening_events p)
  pub refused : refused_among left (outcomes rates (state_of l) (map event_of left))
      ≡ refused_among (opening p) (opening_outcomes rates p)
  pub may : MayFollow life rates (state_of l) (map event_of left) → MayRun Two life rates (opening_events p)
  pub few : l.counts.events + length left ≤ 131072

pub goes-start : (rates : List Rate) (p : PlanView) (life : ℕ) → IsInLimits p
    → GoesOn rates p life (empty_link Two) (opening p)
goes-start rates p life limits =
    let few = length-opening p limits in record { ends = refl; refused = refl; may = λ m. m; few = omega (arith, few) }

-- while commands are left, the life of a book is not spent
pub goes-living : {rates : List Rate} {p : PlanView} {life : ℕ} {l : Live} {c : PlanCommand} {left : List PlanCommand}
    → GoesOn rates p life l (c ∷ left) → 131072 ≤ life → l.counts.events < life
goes-living {left = left} was lasts = omega (arith, was.few, lasts)

no_refusal : (c : PlanCommand) (o : Outcome) (commands : List PlanCommand) (answers : List Outcome)
    → refusals_in o ≡ [] → refused_among (c ∷ commands) (o ∷ answers) ≡ refused_among commands answers
no_refusal c o commands answers none =
    ap (λ (refusals : List Refusal). map (λ refusal. (c.entry, refusal)) refusals ++ refused_among commands answers)
    none

first_refusal_of : (c : PlanCommand) (o : Outcome) (commands : List PlanCommand) (answers : List Outcome) (e : Refusal)
    → refusals_in o ≡ e ∷ [] → slice_get (refused_among (c ∷ commands) (o ∷ answers)) 0 ≡ Some (c.entry, e)
first_refusal_of c o commands answers e one =
    ap (λ (refusals : List Refusal).
    slice_get (map (λ refusal. (c.entry, refusal)) refusals ++ refused_among commands answers) 0) one

module _ {rates : List Rate} {p : PlanView} {life : ℕ} {l : Live} {c : PlanCommand} {left : List PlanCommand}
    (was : GoesOn rates p life l (c ∷ left)) where
  -- a command that is not refused
  pub goes-made : l.counts.events < life → HasCommandFields c.command
      → refusals_in (answer_to rates l c.command) ≡ []
      → GoesOn rates p life (command_step rates l c.command).0 left
  unfolding state_after outcomes MayFollow
  goes-made living fields allowed = record {
    ends = was.ends;
    refused
        = sym (no_refusal c (answer_to rates l c.command) left
        (outcomes rates (state_of (command_step rates l c.command).0) (map event_of left)) allowed)
        ∙ was.refused;
    may = λ rest. was.may (living, fields, rest);
    few = let one = events-commanded rates l c.command in omega (arith, was.few, one);
  }

  -- a command that is refused is the first one
  pub goes-refused : (e : Refusal) → refusals_in (answer_to rates l c.command) ≡ e ∷ []
      → first_refused rates p ≡ Some (c.entry, e)
  unfolding outcomes
  goes-refused e one =
      ap (λ (entries : List (Entry × Refusal)). slice_get entries 0) (sym was.refused)
      ∙ first_refusal_of c (answer_to rates l c.command) left
      (outcomes rates (state_of (command_step rates l c.command).0) (map event_of left)) e one

-- no command is left
module _ {rates : List Rate} {p : PlanView} {life : ℕ} {l : Live} (was : GoesOn rates p life l []) where
  ended : state_of l ≡ run Two rates (opening_events p)
  unfolding state_after
  ended = was.ends

  pub done-sound : first_refused rates p ≡ None
  unfolding outcomes
  done-sound = ap (λ (entries : List (Entry × Refusal)). slice_get entries 0) (sym was.refused)

  pub done-live : l ≡ opened_link rates p
  done-live = ap (λ (s : State). s.live) ended

  may_run : MayRun Two life rates (opening_events p)
  unfolding MayFollow
  may_run = was.may tt

  pub done-run : AreInRange rates
      → IsRunOf None Two life rates l (opening_events p) (opening_outcomes rates p)
  done-run range = record {
    range = range;
    may = may_run;
    replies_are = refl;
    ends = record {
      live = sym done-live;
      sound = state-after life rates (empty_state Two) (opening_events p) range (state-empty Two life rates) may_run;
    };
    tells = tt;
  }

-- The effect of a call on it

pub book-lasts : (events : ℕ) → is_book_life events ≡ true → 131072 ≤ events
book-lasts events lasts =
    let parts = both (nat_le 131072 events) (nat_le events (2 ^ 24)) lasts in
    let least : nat_le 131072 events ≡ true = parts.0 in
    grind (arith, nat_tests, least)

module _ {W : Type 0} (rates : List Rate) (p : PlanView) (life : ℕ) (old new : LinkView W) (commands : List PlanCommand)
    (same_rates : old.rates ≡ rates) (was : GoesOn rates p life old.live commands) (lasts : is_book_life life ≡ true)
  where
    -- while a command is left, the life is not spent
    pub still-living : (c : PlanCommand) (left : List PlanCommand) → old.life ≡ life → commands ≡ c ∷ left
        → is_spent old ≡ false
    still-living c left same_life is =
        let here = subst (GoesOn rates p life old.live) is was in
        let living = goes-living here (book-lasts life lasts) in
        ne_eqb old.live.counts.events old.life (λ same. omega (arith, same, same_life, living))

    module _ (c : PlanCommand) (left : List PlanCommand) (is : commands ≡ c ∷ left) where
      here : GoesOn rates p life old.live (c ∷ left)
      here = subst (GoesOn rates p life old.live) is was

      -- it is made
      pub made-goes_on : IsMade old c new → GoesOn rates p life new.live left
      made-goes_on made =
          let allowed = subst (λ (rs : List Rate). refusals_in (answer_to rs old.live c.command) ≡ []) same_rates
          made.allowed in
          let next = goes-made here (goes-living here (book-lasts life lasts)) made.fields allowed in
          let live : new.live ≡ (command_step rates old.live c.command).0 =
          made.live ∙ ap (λ (rs : List Rate). (command_step rs old.live c.command).0) same_rates in
          subst (λ (l : Live). GoesOn rates p life l left) (sym live) next

      -- it is not
      pub unmade-is_not : (why : NotOpened) → IsNotMade old c why → IsNotOpened rates p life why
      unmade-is_not NoMemory unmade = lasts
      unmade-is_not Range unmade = absurd unmade
      unmade-is_not (RefusedEntry entry refusal) unmade =
          let one = subst (λ (rs : List Rate). refusals_in (answer_to rs old.live c.command) ≡ refusal ∷ []) same_rates
          unmade.1 in
          (lasts, goes-refused here refusal one ∙ ap (λ (e : Entry). Some (e, refusal)) (sym unmade.0))

    -- no command is left
    pub done-is_opened : old.life ≡ life → commands ≡ [] → AreInRange rates → IsOpened rates p life old
    done-is_opened same_life none range =
        let done = subst (GoesOn rates p life old.live) none was in
        record {
          life = same_life;
          rates_are = same_rates;
          lasts = lasts;
          sound = done-sound done;
          live = done-live done;
          run_is = done-run done range;
        }
