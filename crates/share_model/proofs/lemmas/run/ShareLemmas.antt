-- Two flows compete with the same tickets in a stretch of events: `one` is charged within its share beside `other`.
-- A frame in part of `one` was begun while its pass was at most that of `other`, and no pass changed since.
use Rattle.std.specs.Prelude.{◌≡◌, ◌≢◌, ◌<◌, ℕ, ℤ, pos, ◌+ℤ◌, ◌≤ℤ◌, Bool, true, false, List, [], ◌∷◌, ◌++◌, length}
use Rattle.std.specs.Prelude.{nat_eq, Option, None, Some, option_map, option_and_then, if◌then◌else◌}
use Rattle.std.proofs.Common.{refl, ap, sym, ◌∙◌, subst, inl, inr}
use Rattle.std.proofs.lemmas.Bool.{cases_eq, cond_both, eqb-true, eq-eqb}
use Rattle.std.proofs.lemmas.Option.{same_Some}
use Rattle.share_base.specs.declared.command.Command.{Command}
use Rattle.share_base.specs.declared.command.Event.{Event}
use Rattle.share_base.specs.declared.command.Event.TheVariants.{Commanded, Arrived, Written, Faulted}
use Rattle.share_base.specs.declared.version.Version.{Version}
use Rattle.share_model.specs.declared.link.Part.{Part}
use Rattle.share_model.specs.declared.rates.Rate.{Rate}
use Rattle.share_model.specs.declared.stride.Client.{Client}
use Rattle.share_model.specs.link.Tariff.{AreInRange}
use Rattle.share_model.specs.link.Frame.{Packet}
use Rattle.share_model.specs.link.Buffers.{head_of}
use Rattle.share_model.proofs.lemmas.link.BufferLemmas.{head_of-flow}
use Rattle.share_model.specs.funding.Graph.{NameBytes}
use Rattle.share_model.specs.link.Fields.{IsBody}
use Rattle.share_model.specs.link.Live.{Live}
use Rattle.share_model.specs.link.Turns.{Sending, frame_of, sending_at, sending_by, sending, is_whole}
use Rattle.share_model.specs.link.Commands.{is_part_of}
use Rattle.share_model.specs.link.Books.{units_due}
use Rattle.share_model.specs.link.Commands.{command_step}
use Rattle.share_model.specs.link.Arrivals.{arrive_step}
use Rattle.share_model.specs.link.Turns.{whole, torn_link}
use Rattle.share_model.specs.stride.Moves.{Stride, client, charge, after_charge, next, IsNext, IsNextFlow}
use Rattle.share_model.proofs.lemmas.stride.MoveLemmas.{client_is, is_there, client-charge_same, client-charge_other}
use Rattle.share_model.proofs.lemmas.stride.NextFlowLemmas.{IsNext-next, IsNextFlow-le}
use Rattle.share_model.specs.stride.Runs.{Charges, share, charges_in}
use Rattle.share_model.specs.stride.Shares.{Charge, One, Other, ChargesLeast, IsWithinShare}
use Rattle.share_model.proofs.lemmas.stride.ShareLemmas.{pass-charge_same, pass-charge_other, shares_stay_close}
use Rattle.share_model.specs.run.Fold.{State, empty_state, step, run}
use Rattle.share_model.specs.run.Events.{MayCome, MayFollow}
use Rattle.share_model.specs.run.Sound.{Sound, SoundState}
use Rattle.share_model.proofs.lemmas.run.EventLemmas.{state-step, run-sound, may_follow-front, may_follow-back}
use Rattle.share_model.proofs.lemmas.run.ByteLemmas.{keeps-commanded, keeps-arrived, write_as, step-written}
use Rattle.share_model.proofs.lemmas.run.ByteLemmas.{step-failed}
use Rattle.share_model.proofs.lemmas.run.SoundCommandLemmas.{sound-arrived}
use Rattle.share_model.proofs.lemmas.run.SoundClosingLemmas.{sound-commanded}
use Rattle.share_model.proofs.lemmas.run.KeptClientLemmas.{competes-stands, with_level_queue-kept, client-commanded}
use Rattle.share_model.proofs.lemmas.run.KeptClientLemmas.{client-arrived}
use Rattle.share_model.specs.run.Shares.{event_charges, written_charges, fault_charges, stretch_charges}
use Rattle.share_model.specs.run.Shares.{charges_for, Compete, KeepCompeting}

abbrev pub pass_of : Live → ℕ → ℤ
pass_of l f = (client l.queue f).pass

-- if a frame of `one` is in part, its pass is at most that of `other`
abbrev pub IsAhead : ℕ → ℕ → Live → Type 0
IsAhead one other l = is_part_of one l.part ≡ true → pass_of l one ≤ℤ pass_of l other

-- The flow that is sent

head_flow : (l : Live) (f out : ℕ) (o : Option Packet) (s : Sending) → head_of l.buffers f ≡ o
    → option_map (sending_at l out) o ≡ Some s → s.head.flow ≡ f
head_flow l f out None s found is = cc
head_flow l f out (Some h) s found is =
    ap (λ (s : Sending). s.head.flow) (sym (same_Some (sending_at l out h) s is)) ∙ head_of-flow l.buffers f h found

next_least : {life : ℕ} {rates : List Rate} {l : Live} → Sound life rates l → (one other : ℕ)
    → (client l.queue other).competes ≡ true → IsNextFlow l.queue.clients one → pass_of l one ≤ℤ pass_of l other
next_least {l = l} sound one other competes first =
    let there = sound.queue.clients other ∙ competes-stands sound other competes in
    subst (λ (c : Client). c.pass ≤ℤ pass_of l other)
    (sym (client_is l.queue one first.chosen (sym first.competes.found)))
    (IsNextFlow-le l.queue.clients one first other (client l.queue other)
    (record { found = sym (is_there l.queue other there); competing = competes }))

next_by : {life : ℕ} {rates : List Rate} {l : Live} {s : Sending} → Sound life rates l → (one other : ℕ)
    → (client l.queue other).competes ≡ true → s.head.flow ≡ one → (o : Option ℕ) → next l.queue.clients ≡ o
    → option_map (sending_at l 0) (option_and_then (head_of l.buffers) o) ≡ Some s → pass_of l one ≤ℤ pass_of l other
next_by sound one other competes flow None found is = cc
next_by {l = l} {s = s} sound one other competes flow (Some f) found is =
    let same : f ≡ one = sym (head_flow l f 0 (head_of l.buffers f) s refl is) ∙ flow in
    next_least sound one other competes
    (subst (λ o. IsNext l.queue.clients o) (found ∙ ap Some same) (IsNext-next l.queue.clients))

sent_by : {life : ℕ} {rates : List Rate} {l : Live} {s : Sending} → Sound life rates l → (one other : ℕ)
    → (client l.queue other).competes ≡ true → s.head.flow ≡ one → (o : Option Part)
    → (is_part_of one o ≡ true → pass_of l one ≤ℤ pass_of l other) → sending_by l o ≡ Some s
    → pass_of l one ≤ℤ pass_of l other
sent_by {l = l} sound one other competes flow None ahead is =
    next_by sound one other competes flow (next l.queue.clients) refl is
sent_by {l = l} {s = s} sound one other competes flow (Some p) ahead is =
    ahead (eq-eqb one p.flow (sym flow ∙ head_flow l p.flow p.out (head_of l.buffers p.flow) s refl is))

-- `one` is sent only while its pass is at most that of `other`
sending_least : {life : ℕ} {rates : List Rate} {l : Live} {s : Sending} → Sound life rates l → (one other : ℕ)
    → (client l.queue other).competes ≡ true → IsAhead one other l → sending l ≡ Some s → s.head.flow ≡ one
    → pass_of l one ≤ℤ pass_of l other
unfolding sending
sending_least {l = l} sound one other competes ahead is flow =
    sent_by sound one other competes flow l.part ahead is

-- The charges of the two by an event

-- from the passes p and r to these, with these charges; a frame is in part after it only if nothing was charged
pub data WentBy (one : ℕ) (p r p' r' : ℤ) (part : Option Part) (charges : List Charge) : Type 0 where
  went_kept : charges ≡ [] → p' ≡ p → r' ≡ r → (is_part_of one part ≡ true → p ≤ℤ r)
      → WentBy one p r p' r' part charges
  went_one : (n : ℕ) → charges ≡ One n ∷ [] → p ≤ℤ r → p' ≡ p +ℤ pos n → r' ≡ r → part ≡ None
      → WentBy one p r p' r' part charges
  went_other : (n : ℕ) → charges ≡ Other n ∷ [] → p' ≡ p → r' ≡ r +ℤ pos n → part ≡ None
      → WentBy one p r p' r' part charges

abbrev pub WentTogether : ℕ → ℕ → Live → Live → List Charge → Type 0
WentTogether one other l l' charges =
    WentBy one (pass_of l one) (pass_of l other) (pass_of l' one) (pass_of l' other) l'.part charges

no_part : {A : Type 0} (one : ℕ) (part : Option Part) → part ≡ None → is_part_of one part ≡ true → A
no_part one part none here = let t : false ≡ true = sym (ap (is_part_of one) none) ∙ here in cc

-- this holds if no frame is in part, and after each event
pub ahead-unparted : (one other : ℕ) (l : Live) → l.part ≡ None → IsAhead one other l
ahead-unparted one other l none = no_part one l.part none

pub ahead-went : {one : ℕ} {p r p' r' : ℤ} {part : Option Part} {charges : List Charge}
    → WentBy one p r p' r' part charges → is_part_of one part ≡ true → p' ≤ℤ r'
ahead-went {p = p} {r' = r'} (went_kept none same_p same_r ahead) here =
    subst (λ (x : ℤ). x ≤ℤ r') (sym same_p) (subst (λ (y : ℤ). p ≤ℤ y) (sym same_r) (ahead here))
ahead-went {one = one} {part = part} (went_one n is least p_is r_is none) here = no_part one part none here
ahead-went {one = one} {part = part} (went_other n is p_is r_is none) here = no_part one part none here

went_least : {one : ℕ} {p r p' r' : ℤ} {part : Option Part} {charges : List Charge} (rest : List Charge)
    → WentBy one p r p' r' part charges → ChargesLeast p' r' rest → ChargesLeast p r (charges ++ rest)
went_least {p = p} {r = r} {p' = p'} rest (went_kept none p_is r_is ahead) least =
    subst (λ (cs : List Charge). ChargesLeast p r (cs ++ rest)) (sym none)
    (subst (λ (x : ℤ). ChargesLeast x r rest) p_is (subst (λ (y : ℤ). ChargesLeast p' y rest) r_is least))
went_least {p = p} {r = r} {p' = p'} rest (went_one n is first p_is r_is none) least =
    subst (λ (cs : List Charge). ChargesLeast p r (cs ++ rest)) (sym is)
    (first, subst (λ (x : ℤ). ChargesLeast x r rest) p_is (subst (λ (y : ℤ). ChargesLeast p' y rest) r_is least))
went_least {p = p} {r = r} {p' = p'} rest (went_other n is p_is r_is none) least =
    subst (λ (cs : List Charge). ChargesLeast p r (cs ++ rest)) (sym is)
    (subst (λ (x : ℤ). ChargesLeast x (r +ℤ pos n) rest) p_is
    (subst (λ (y : ℤ). ChargesLeast p' y rest) r_is least))

module _ (one other : ℕ) (q : Stride) (g units : ℕ) (p' r' : ℤ) (part : Option Part) (apart : one ≢ other)
    (one_competes : (client q one).competes ≡ true) (other_competes : (client q other).competes ≡ true)
    (least : g ≡ one → (client q one).pass ≤ℤ (client q other).pass)
    (p_is : p' ≡ (client (charge q g units) one).pass) (r_is : r' ≡ (client (charge q g units) other).pass)
    (none : part ≡ None) where
  not_equal : (n m : ℕ) → nat_eq n m ≡ false → m ≢ n
  not_equal n m test same = let t : true ≡ false = sym (eq-eqb n m (sym same)) ∙ test in cc

  charge_by : (a b : Bool) → nat_eq g one ≡ a → nat_eq g other ≡ b
      → WentBy one (client q one).pass (client q other).pass p' r' part
      (if a then One (share (client q one) units) ∷ [] else if b then Other (share (client q other) units) ∷ [] else [])
  charge_by true b is_one is_other =
      let is : g ≡ one = eqb-true g one is_one in
      went_one (share (client q one) units) refl (least is) (p_is ∙ pass-charge_same q g units one is one_competes)
      (r_is ∙ pass-charge_other q g units other (λ also. apart (sym is ∙ sym also))) none
  charge_by false true is_one is_other =
      let is : g ≡ other = eqb-true g other is_other in
      went_other (share (client q other) units) refl
      (p_is ∙ pass-charge_other q g units one (not_equal g one is_one))
      (r_is ∙ pass-charge_same q g units other is other_competes) none
  charge_by false false is_one is_other =
      went_kept refl (p_is ∙ pass-charge_other q g units one (not_equal g one is_one))
      (r_is ∙ pass-charge_other q g units other (not_equal g other is_other)) (no_part one part none)

  charge_went : WentBy one (client q one).pass (client q other).pass p' r' part
      (charges_in one other q (Charges g units) [])
  charge_went = charge_by (nat_eq g one) (nat_eq g other) refl refl

-- a charge leaves tickets and competing
charged_same : (c : Client) (units : ℕ)
    → ((after_charge c units).competes ≡ c.competes) × ((after_charge c units).tickets ≡ c.tickets)
charged_same c units =
    cond_both c.competes (record c { pass = c.pass +ℤ pos (share c units) })
    (record c { remain = c.remain +ℤ pos (share c units) })
    (λ (d : Client). (d.competes ≡ c.competes) × (d.tickets ≡ c.tickets)) (λ _. (refl, refl)) (λ _. (refl, refl))

charge_same : (q : Stride) (g units f : ℕ)
    → ((client (charge q g units) f).competes ≡ (client q f).competes)
    × ((client (charge q g units) f).tickets ≡ (client q f).tickets)
charge_same q g units f =
    elim (cases_eq f g) [
      | inl same ↦
          subst (λ n. ((client (charge q g units) n).competes ≡ (client q n).competes)
          × ((client (charge q g units) n).tickets ≡ (client q n).tickets)) (sym same)
          (subst (λ (c : Client). (c.competes ≡ (client q g).competes) × (c.tickets ≡ (client q g).tickets))
          (sym (client-charge_same q g units)) (charged_same (client q g) units))
      | inr apart ↦ (
        ap (λ (c : Client). c.competes) (client-charge_other q g units f apart),
        ap (λ (c : Client). c.tickets) (client-charge_other q g units f apart),
      )
    ]

module _ (life : ℕ) (rates : List Rate) (one other a b : ℕ) (l : Live) (apart : one ≢ other)
    (sound : Sound life rates l) (was : Compete one other a b l.queue) (ahead : IsAhead one other l) where
  -- nobody is charged, and the frame in part stays
  pub went-stayed : (l' : Live) → client l'.queue one ≡ client l.queue one
      → client l'.queue other ≡ client l.queue other → l'.part ≡ l.part → WentTogether one other l l' []
  went-stayed l' first second part =
      went_kept refl (ap (λ (c : Client). c.pass) first) (ap (λ (c : Client). c.pass) second)
      (λ here. ahead (sym (ap (is_part_of one) part) ∙ here))

  pub went-commanded : l.counts.events < life → (c : Command)
      → Compete one other a b (command_step rates l c).0.queue → WentTogether one other l (command_step rates l c).0 []
  went-commanded few c now =
      let after = sound-commanded sound few c in
      went-stayed (command_step rates l c).0 (client-commanded sound one a was.first c after now.first)
      (client-commanded sound other b was.second c after now.second) (keeps-commanded sound c).part

  pub went-arrived : l.counts.events < life → (name : NameBytes) (body : List ℕ) → IsBody l.version body
      → Compete one other a b (arrive_step l name body).0.queue
      → WentTogether one other l (arrive_step l name body).0 []
  went-arrived few name body short now =
      let after = sound-arrived sound few name body short in
      went-stayed (arrive_step l name body).0 (client-arrived sound one a was.first name body after now.first)
      (client-arrived sound other b was.second name body after now.second) (keeps-arrived sound name body).part

  whole_went : (s : Sending) (k : ℕ) → sending l ≡ Some s → Sound life rates (whole rates l s k)
      → Compete one other a b (whole rates l s k).queue
      → WentTogether one other l (whole rates l s k) (charges_for one other rates l s.head.flow (length (frame_of s)))
  whole_went s k is after now =
      let g = s.head.flow in
      let units = units_due rates l.books g (length (frame_of s)) in
      let kept_one = charge_same l.queue g units one in
      let kept_other = charge_same l.queue g units other in
      charge_went one other l.queue g units (pass_of (whole rates l s k) one) (pass_of (whole rates l s k) other) None
      apart was.first.competes was.second.competes
      (sending_least sound one other was.second.competes ahead is)
      (ap (λ (c : Client). c.pass)
      (with_level_queue-kept _ one a (client (charge l.queue g units) one) sound refl kept_one.0 kept_one.1 was.first
      after
      now.first))
      (ap (λ (c : Client). c.pass)
      (with_level_queue-kept _ other b (client (charge l.queue g units) other) sound refl kept_other.0 kept_other.1
      was.second
      after now.second)) refl

  pub went-written : (s : Sending) (k : ℕ) → sending l ≡ Some s → (t : Bool)
      → Sound life rates (write_as rates l s k t).0
      → Compete one other a b (write_as rates l s k t).0.queue
      → WentTogether one other l (write_as rates l s k t).0
      (if t then charges_for one other rates l s.head.flow (length (frame_of s)) else [])
  went-written s k is true after now = whole_went s k is after now
  went-written s k is false after now =
      went_kept refl refl refl
      (λ here. sending_least sound one other was.second.competes ahead is (sym (eqb-true one s.head.flow here)))

  pub went-torn : (s : Sending) → sending l ≡ Some s
      → WentTogether one other l (torn_link rates l s) (charges_for one other rates l s.head.flow s.out)
  went-torn s is =
      charge_went one other l.queue s.head.flow (units_due rates l.books s.head.flow s.out) _ _ None apart
      was.first.competes was.second.competes (sending_least sound one other was.second.competes ahead is) refl refl refl

step_went : {life : ℕ} {rates : List Rate} (s : State) (e : Event) (one other a b : ℕ) → AreInRange rates
    → SoundState life rates s → s.live.counts.events < life → MayCome s.live e → one ≢ other
    → Compete one other a b s.live.queue → Compete one other a b (step rates s e).live.queue
    → IsAhead one other s.live
    → WentTogether one other s.live (step rates s e).live (event_charges one other rates s.live e)
step_went {life = life} {rates = rates} s (Commanded c) one other a b range sound few may apart was now ahead =
    went-commanded life rates one other a b s.live apart sound.live was ahead few c now
step_went {life = life} {rates = rates} s (Arrived name body) one other a b range sound few may apart was now ahead =
    went-arrived life rates one other a b s.live apart sound.live was ahead few name body.payload may.1 now
step_went {life = life} {rates = rates} s (Written k) one other a b range sound few may apart was now ahead =
    let snd = may.frame in
    let is = may.sends.is in
    let stepped = ap (λ (n : State). n.live) (step-written rates s k snd is) in
    let after = (state-step range sound few (Written k) may).live in
    subst (λ (l' : Live). WentTogether one other s.live l' (event_charges one other rates s.live (Written k)))
    (sym stepped)
    (subst (λ cs. WentTogether one other s.live (write_as rates s.live snd k (is_whole snd k)).0 cs)
    (sym (ap (written_charges one other rates s.live k) is))
    (went-written life rates one other a b s.live apart sound.live was ahead snd k is (is_whole snd k)
    (subst (Sound life rates) stepped after)
    (subst (λ (l' : Live). Compete one other a b l'.queue) stepped now)))
step_went {life = life} {rates = rates} s Faulted one other a b range sound few may apart was now ahead =
    let snd = may.frame in
    let is = may.sends.is in
    subst (λ (l' : Live). WentTogether one other s.live l' (event_charges one other rates s.live Faulted))
    (sym (ap (λ (n : State). n.live) (step-failed rates s snd is)))
    (subst (λ cs. WentTogether one other s.live (torn_link rates s.live snd) cs)
    (sym (ap (fault_charges one other rates s.live) is))
    (went-torn life rates one other a b s.live apart sound.live was ahead snd is))

-- Stretches of events

keeps_first : (one other a b : ℕ) (rates : List Rate) (s : State) (es : List Event)
    → KeepCompeting one other a b rates s es → Compete one other a b s.live.queue
unfolding KeepCompeting
keeps_first one other a b rates s [] keep = keep
keeps_first one other a b rates s (e ∷ es) keep = keep.0

least_after : {life : ℕ} {rates : List Rate} (one other a b : ℕ) → AreInRange rates → one ≢ other → (s : State)
    (es : List Event) → SoundState life rates s → MayFollow life rates s es → KeepCompeting one other a b rates s es
    → IsAhead one other s.live
    → ChargesLeast (pass_of s.live one) (pass_of s.live other) (stretch_charges one other rates s es)
unfolding MayFollow KeepCompeting stretch_charges
least_after one other a b range apart s [] sound may keep ahead = tt
least_after {rates = rates} one other a b range apart s (e ∷ es) sound may keep ahead =
    let went =
    step_went s e one other a b range sound may.0 may.1 apart keep.0
    (keeps_first one other a b rates (step rates s e) es keep.1) ahead in
    went_least (stretch_charges one other rates (step rates s e) es) went
    (least_after one other a b range apart (step rates s e) es (state-step range sound may.0 e may.1) may.2 keep.1
    (ahead-went went))

-- in every run
pub run-shares : (version : Version) (life : ℕ) (rates : List Rate) (before es : List Event) (one other a b : ℕ)
    → AreInRange rates
    → MayFollow life rates (empty_state version) (before ++ es) → one ≢ other
    → (run version rates before).live.part ≡ None
    → KeepCompeting one other a b rates (run version rates before) es
    → IsWithinShare (client (run version rates before).live.queue one).pass
    (client (run version rates before).live.queue other).pass
    (stretch_charges one other rates (run version rates before) es)
run-shares version life rates before es one other a b range may apart none keep =
    let s = run version rates before in
    shares_stay_close (pass_of s.live one) (pass_of s.live other) (stretch_charges one other rates s es)
    (least_after one other a b range apart s es
    (run-sound version life rates before range (may_follow-front life rates (empty_state version) before es may))
    (may_follow-back life rates (empty_state version) before es may) keep (ahead-unparted one other s.live none))
