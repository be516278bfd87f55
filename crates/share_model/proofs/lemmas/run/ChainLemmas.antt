-- Two flows compete with the same tickets before a chain of calls and after each call. Their gains in it are their
-- charges, so `one` gains within its share beside `other`.
use Rattle.std.specs.Prelude.{◌≡◌, ◌≢◌, ◌<◌, ◌≤◌, ℕ, ℤ, pos, ◌+ℤ◌, ◌-ℤ◌, ◌≤ℤ◌, Bool, true, false, List, [], ◌∷◌}
use Rattle.std.specs.Prelude.{length, Option, None, Some, IsSomeAnd, IsTrue, MatchBool, option_map, unwrap_or}
use Rattle.std.specs.Prelude.{if◌then◌else◌}
use Rattle.std.specs.FinMap.{get}
use Rattle.std.specs.Int.{int_max}
use Rattle.std.specs.Option.{option_map_or}
use Rattle.std.proofs.Common.{refl, ap, sym, ◌∙◌, subst, inl, inr, arith}
use Rattle.std.proofs.lemmas.Int.{ints, clamps}
use Rattle.share_base.specs.declared.refusal.Refusal.TheVariants.{Spent as SpentRefusal}
use Rattle.share_base.specs.declared.command.Command.{Command}
use Rattle.share_base.specs.declared.command.Reply.{Reply}
use Rattle.share_base.specs.declared.command.Reply.TheVariants.{Refused}
use Rattle.share_base.specs.declared.command.Turn.{Turn}
use Rattle.share_base.specs.declared.command.Event.TheVariants.{Faulted}
use Rattle.share_model.specs.declared.link.Part.{Part}
use Rattle.share_model.specs.declared.rates.Rate.{Rate}
use Rattle.share_model.specs.declared.stride.Client.{Client}
use Rattle.share_model.specs.declared.stride.Position.{Position}
use Rattle.share_model.specs.declared.writer.Answer.{Answer}
use Rattle.share_model.specs.funding.Graph.{NameBytes}
use Rattle.share_model.specs.io.Told.{Told, WasTold}
use Rattle.share_model.specs.link.Arrivals.{arrive_step}
use Rattle.share_model.specs.link.Calls.{is_spent, Stepped}
use Rattle.share_model.specs.link.Chains.{Call, OfCommand, OfArrival, OfTurn, OfTear, CallMade, IsLeft, IsChain}
use Rattle.share_model.specs.link.Chains.{last_link}
use Rattle.share_model.specs.link.Commands.{command_step}
use Rattle.share_model.specs.link.Fields.{IsBody}
use Rattle.share_model.specs.link.Live.{Live}
use Rattle.share_model.specs.link.Gains.{IsCompeting, place_of, largest_gain, GainsWithinShare}
use Rattle.share_model.specs.link.Tariff.{AreInRange}
use Rattle.share_model.specs.link.Turns.{Sending, rest_of, is_whole, write_step, fault_step}
use Rattle.share_model.specs.link.View.{LinkView}
use Rattle.share_model.specs.lists.Each.{Each}
use Rattle.share_model.specs.run.Events.{Sends}
use Rattle.share_model.specs.run.Shares.{CompetesWith, Compete}
use Rattle.share_model.specs.run.Sound.{Sound}
use Rattle.share_model.specs.stride.Moves.{position, client, new_client}
use Rattle.share_model.specs.stride.Shares.{Charge, One, Other, to_one, to_other, largest_to_one, ChargesLeast}
use Rattle.share_model.proofs.lemmas.link.TurnLemmas.{MadeEvent, written-step, failed-step, events-below}
use Rattle.share_model.proofs.lemmas.link.TurnLemmas.{TurnWent, turn_stayed, turn_wrote, turn_failed, turn-went}
use Rattle.share_model.proofs.lemmas.link.TurnLemmas.{TearWent, tear_stayed, tear_failed, tear-went}
use Rattle.share_model.proofs.lemmas.run.ShareLemmas.{IsAhead, WentBy, went_kept, went_one, went_other}
use Rattle.share_model.proofs.lemmas.run.ShareLemmas.{WentTogether, ahead-unparted, ahead-went, went-stayed}
use Rattle.share_model.proofs.lemmas.run.ShareLemmas.{went-commanded, went-arrived, went-written, went-torn}
use Rattle.share_model.proofs.lemmas.run.SoundClosingLemmas.{sound-commanded}
use Rattle.share_model.proofs.lemmas.run.SoundCommandLemmas.{sound-arrived}
use Rattle.share_model.proofs.lemmas.run.SoundWriteLemmas.{sound-written, sound-failed}
use Rattle.share_model.proofs.lemmas.stride.ShareLemmas.{shares_stay_close}

-- The outcome of a call

-- the contents of the link stay, or one event changes them
data CameTo (life : ℕ) (rates : List Rate) (l l' : Live) : Type 0 where
  came_kept : l' ≡ l → CameTo life rates l l'
  came_commanded : l.counts.events < life → (c : Command) → l' ≡ (command_step rates l c).0
      → CameTo life rates l l'
  came_arrived : l.counts.events < life → (name : NameBytes) (body : List ℕ) → IsBody l.version body
      → l' ≡ (arrive_step l name body).0 → CameTo life rates l l'
  came_written : l.counts.events < life → (s : Sending) → Sends l s → (k : ℕ) → 0 < k → k ≤ length (rest_of s)
      → l' ≡ (write_step rates l s k).0 → CameTo life rates l l'
  came_failed : l.counts.events < life → (s : Sending) → Sends l s → l' ≡ (fault_step rates l s).0
      → CameTo life rates l l'

came_sound : {life : ℕ} {rates : List Rate} {l l' : Live} → AreInRange rates → Sound life rates l
    → CameTo life rates l l' → Sound life rates l'
came_sound {life = life} {rates = rates} range sound (came_kept is) = subst (Sound life rates) (sym is) sound
came_sound {life = life} {rates = rates} range sound (came_commanded few c is) =
    subst (Sound life rates) (sym is) (sound-commanded sound few c)
came_sound {life = life} {rates = rates} range sound (came_arrived few name body short is) =
    subst (Sound life rates) (sym is) (sound-arrived sound few name body short)
came_sound {life = life} {rates = rates} range sound (came_written few s sends k some fits is) =
    subst (Sound life rates) (sym is) (sound-written range sound few sends.unbroken sends.is k some fits)
came_sound {life = life} {rates = rates} range sound (came_failed few s sends is) =
    subst (Sound life rates) (sym is) (sound-failed range sound few sends.unbroken sends.is)

-- life and tariffs stay
record LinkCame {W : Type 0} (old new : LinkView W) : Type 0 where
  life : new.life ≡ old.life
  rates : new.rates ≡ old.rates
  came : CameTo old.life old.rates old.live new.live

module _ {W : Type 0} (told : W → Option Told) (answers : W → List ℕ → Answer → W → Type 0)
    (law : (before : W) (piece : List ℕ) (answer : Answer) (after : W) → answers before piece answer after
    → WasTold (told before) piece answer (told after))
    (old new : LinkView W) (sound : Sound old.life old.rates old.live) where
  same_came : new ≡ old → LinkCame old new
  same_came same = record {
    life = ap (λ (link : LinkView W). link.life) same;
    rates = ap (λ (link : LinkView W). link.rates) same;
    came = came_kept (ap (λ (link : LinkView W). link.live) same);
  }

  command_came : (c : Command) (reply : Reply) (t : Bool) → is_spent old ≡ t
      → MatchBool t ((reply ≡ Refused SpentRefusal) × (new ≡ old))
      (Stepped (command_step old.rates old.live c) old reply new) → LinkCame old new
  command_came c reply true spent did = same_came did.1
  command_came c reply false living did = record {
    life = did.rest.life;
    rates = did.rest.rates;
    came = came_commanded (events-below old sound living) c did.live;
  }

  arrival_came : (name : NameBytes) (body : List ℕ) (reply : Reply) → IsBody old.live.version body → (t : Bool)
      → is_spent old ≡ t
      → MatchBool t ((reply ≡ Refused SpentRefusal) × (new ≡ old))
      (Stepped (arrive_step old.live name body) old reply new) → LinkCame old new
  arrival_came name body reply short true spent did = same_came did.1
  arrival_came name body reply short false living did = record {
    life = did.rest.life;
    rates = did.rest.rates;
    came = came_arrived (events-below old sound living) name body short did.live;
  }

  fault_came : (turn : Turn) (s : Sending) → MadeEvent old Faulted s turn new → LinkCame old new
  fault_came turn s made = record {
    life = made.life;
    rates = made.rates;
    came =
        came_failed made.below s made.sends
        (made.live ∙ ap (λ d. d.0) (failed-step old.rates old.live s made.sends.is));
  }

  turn_came : (most : ℕ) (turn : Turn) → TurnWent told old most turn new → LinkCame old new
  turn_came most turn (turn_stayed did) =
      record { life = did.life; rates = did.rates; came = came_kept did.live }
  turn_came most turn (turn_wrote did) = record {
    life = did.made.life;
    rates = did.made.rates;
    came =
        came_written did.made.below did.frame did.made.sends did.count did.some did.fits
        (did.made.live ∙ ap (λ d. d.0) (written-step old.rates old.live did.count did.frame did.made.sends.is));
  }
  turn_came most turn (turn_failed did) = fault_came turn did.frame did.made

  tear_came : (turn : Turn) → TearWent old turn new → LinkCame old new
  tear_came turn (tear_stayed why same) = same_came same
  tear_came turn (tear_failed did) = fault_came turn did.frame did.made

  call_came : (call : Call) → CallMade answers old call new → LinkCame old new
  call_came (OfCommand c reply) (inl did) = same_came did.unchanged
  call_came (OfCommand c reply) (inr did) = command_came c reply (is_spent old) refl did
  call_came (OfArrival name body reply) did = arrival_came name body reply did.0 (is_spent old) refl did.1
  call_came (OfTurn most turn) did = turn_came most turn (turn-went told answers law old most turn new sound did)
  call_came (OfTear turn) did = tear_came turn (tear-went old turn new sound did)

  left_came : IsLeft answers old new → LinkCame old new
  left_came (inl same) = same_came same
  left_came (inr made) = call_came made.0 made.1

-- The charges of the two

-- a call charges at most one of the two
module _ (life : ℕ) (rates : List Rate) (one other a b : ℕ) (l l' : Live) (range : AreInRange rates)
    (apart : one ≢ other) (sound : Sound life rates l) (was : Compete one other a b l.queue)
    (now : Compete one other a b l'.queue) (ahead : IsAhead one other l) where
  now_at : (m : Live) → l' ≡ m → Compete one other a b m.queue
  now_at m is = subst (λ (m : Live). Compete one other a b m.queue) is now

  charged_at : (m : Live) (charges : List Charge) → l' ≡ m → WentTogether one other l m charges
      → (charges : List Charge) × WentTogether one other l l' charges
  charged_at m charges is went =
      (charges, subst (λ (m : Live). WentTogether one other l m charges) (sym is) went)

  came_together : CameTo life rates l l' → (charges : List Charge) × WentTogether one other l l' charges
  came_together (came_kept is) =
      charged_at l [] is (went-stayed life rates one other a b l apart sound was ahead l refl refl refl)
  came_together (came_commanded few c is) =
      charged_at _ [] is
      (went-commanded life rates one other a b l apart sound was ahead few c (now_at (command_step rates l c).0 is))
  came_together (came_arrived few name body short is) =
      charged_at _ [] is
      (went-arrived life rates one other a b l apart sound was ahead few name body short
      (now_at (arrive_step l name body).0 is))
  came_together (came_written few s sends k some fits is) =
      charged_at _ _ is
      (went-written life rates one other a b l apart sound was ahead s k sends.is (is_whole s k)
      (sound-written range sound few sends.unbroken sends.is k some fits)
      (now_at (write_step rates l s k).0 is))
  came_together (came_failed few s sends is) =
      charged_at _ _ is (went-torn life rates one other a b l apart sound was ahead s sends.is)

-- from the passes p and r to p' and r' by these charges, of which the largest to `one` is `most`
record IsChargedTo (p r p' r' most : ℤ) : Type 0 where
  charges : List Charge
  least : ChargesLeast p r charges
  to_first : p' ≡ p +ℤ pos (to_one charges)
  to_second : r' ≡ r +ℤ pos (to_other charges)
  largest : most ≡ pos (largest_to_one charges)

charged_nothing : (p r : ℤ) → IsChargedTo p r p r (pos 0)
charged_nothing p r = record {
  charges = [];
  least = tt;
  to_first = omega (arith, ints);
  to_second = omega (arith, ints);
  largest = refl;
}

charged_more : {one : ℕ} {p r p' r' p'' r'' most : ℤ} {part : Option Part} {charges : List Charge}
    → WentBy one p r p' r' part charges → IsChargedTo p' r' p'' r'' most
    → IsChargedTo p r p'' r'' (int_max (p' -ℤ p) most)
charged_more {p = p} {r = r} {p' = p'} (went_kept none p_is r_is ahead) later = record {
  charges = later.charges;
  least =
      subst (λ (x : ℤ). ChargesLeast x r later.charges) p_is
      (subst (λ (y : ℤ). ChargesLeast p' y later.charges) r_is later.least);
  to_first = omega (arith, ints, p_is, later.to_first);
  to_second = omega (arith, ints, r_is, later.to_second);
  largest = omega (arith, ints, clamps, p_is, later.largest);
}
charged_more {p = p} {r = r} {p' = p'} (went_one n is first p_is r_is none) later = record {
  charges = One n ∷ later.charges;
  least = (
    first,
    subst (λ (x : ℤ). ChargesLeast x r later.charges) p_is
        (subst (λ (y : ℤ). ChargesLeast p' y later.charges) r_is later.least),
  );
  to_first = omega (arith, ints, p_is, later.to_first);
  to_second = omega (arith, ints, r_is, later.to_second);
  largest = omega (arith, ints, clamps, p_is, later.largest);
}
charged_more {p = p} {r = r} {p' = p'} (went_other n is p_is r_is none) later = record {
  charges = Other n ∷ later.charges;
  least =
      subst (λ (x : ℤ). ChargesLeast x (r +ℤ pos n) later.charges) p_is
      (subst (λ (y : ℤ). ChargesLeast p' y later.charges) r_is later.least);
  to_first = omega (arith, ints, p_is, later.to_first);
  to_second = omega (arith, ints, r_is, later.to_second);
  largest = omega (arith, ints, clamps, p_is, later.largest);
}

charged_within : {p r p' r' most : ℤ} → IsChargedTo p r p' r' most
    → (p' -ℤ p) ≤ℤ int_max (pos 0) ((r' -ℤ r) +ℤ (r -ℤ p) +ℤ most)
charged_within {p = p} {r = r} went =
    let close = shares_stay_close p r went.charges went.least in
    omega (arith, ints, clamps, went.to_first, went.to_second, went.largest)

-- The reading of `position`

-- the place of a flow that competes is its pass
record IsRead (c : Client) (place : ℤ) (many : ℕ) : Type 0 where
  competes : c.competes ≡ true
  tickets : c.tickets ≡ many
  pass : place ≡ c.pass

read_by : (o : Option Client) (many : ℕ)
    → IsSomeAnd (option_map position o) (λ p. IsTrue p.competing × (p.tickets ≡ many))
    → IsRead (unwrap_or o new_client) (option_map_or (λ (p : Position). p.place) (option_map position o) (pos 0)) many
read_by None many competing = absurd competing
read_by (Some c) many competing = record {
  competes = competing.0;
  tickets = competing.1;
  pass = ap (λ b. if b then c.pass else c.remain) competing.0;
}

read_competing : {W : Type 0} (link : LinkView W) (flow many : ℕ) → IsCompeting link flow many
    → IsRead (client link.live.queue flow) (place_of link flow) many
read_competing link flow many competing = read_by (get link.live.queue.clients flow) many competing

competes_with : {W : Type 0} (link : LinkView W) (flow many : ℕ) → IsCompeting link flow many
    → CompetesWith link.live.queue flow many
competes_with link flow many competing =
    let read = read_competing link flow many competing in
    record { competes = read.competes; tickets = read.tickets }

-- Chains

module _ {W : Type 0} (told : W → Option Told) (answers : W → List ℕ → Answer → W → Type 0)
    (law : (before : W) (piece : List ℕ) (answer : Answer) (after : W) → answers before piece answer after
    → WasTold (told before) piece answer (told after))
    (one other a b : ℕ) (apart : one ≢ other) where
  abbrev BothCompete : LinkView W → Type 0
  BothCompete link = IsCompeting link one a × IsCompeting link other b

  both_compete : (link : LinkView W) → BothCompete link → Compete one other a b link.live.queue
  both_compete link both =
      record { first = competes_with link one a both.0; second = competes_with link other b both.1 }

  abbrev ChainCharged : LinkView W → List (LinkView W) → Type 0
  ChainCharged first later =
      IsChargedTo (place_of first one) (place_of first other) (place_of (last_link first later) one)
      (place_of (last_link first later) other) (largest_gain one first later)

  -- the places of the two are their passes
  at_places : (old new : LinkView W) (charges : List Charge) → BothCompete old → BothCompete new
      → WentTogether one other old.live new.live charges
      → WentBy one (place_of old one) (place_of old other) (place_of new one) (place_of new other) new.live.part charges
  at_places old new charges was now went =
      rw (
        (read_competing old one a was.0).pass,
        (read_competing old other b was.1).pass,
        (read_competing new one a now.0).pass,
        (read_competing new other b now.1).pass,
      ) went

  chain_charged : (first : LinkView W) (later : List (LinkView W)) → AreInRange first.rates
      → Sound first.life first.rates first.live → IsChain answers first later → Each BothCompete (first ∷ later)
      → IsAhead one other first.live → ChainCharged first later
  chain_charged first [] range sound chain both ahead = charged_nothing (place_of first one) (place_of first other)
  chain_charged first (next ∷ later) range sound chain both ahead =
      let came = left_came told answers law first next sound chain.0 in
      let went =
      came_together first.life first.rates one other a b first.live next.live range apart sound
      (both_compete first both.0) (both_compete next both.1.0) ahead came.came in
      let after : Sound next.life next.rates next.live =
      rw (came.life, came.rates) (came_sound range sound came.came) in
      charged_more (at_places first next went.0 both.0 both.1.0 went.1)
      (chain_charged next later (subst AreInRange (sym came.rates) range) after chain.1 both.1 (ahead-went went.1))

  -- `one` gains within its share
  pub chain-shares : (first : LinkView W) (later : List (LinkView W)) → AreInRange first.rates
      → Sound first.life first.rates first.live → IsChain answers first later → first.live.part ≡ None
      → Each BothCompete (first ∷ later) → GainsWithinShare one other first later
  chain-shares first later range sound chain none both =
      charged_within (chain_charged first later range sound chain both (ahead-unparted one other first.live none))
