-- The script of an audit makes its events again. It has the lines of the audit, and comes to the state of the run of
-- the events. It is answered with the texts of their outcomes.
use Rattle.std.specs.Prelude.{◌≡◌, ◌<◌, ◌≤◌, ◌==◌, ◌&&◌, ℕ, Bool, true, false, not, List, [], ◌∷◌, ◌++◌, drop}
use Rattle.std.specs.Prelude.{length, map, flat_map, slice_index, min, nat_le, decimal, codes, Ok, Err, refl}
use Rattle.std.proofs.Common.{ap, ◌∙◌, arith, cond, lit<, length-append}
use Rattle.std.proofs.lemmas.Fmt.{length-decimal-le}
use Rattle.std.proofs.lemmas.Bool.Decides.{nat_tests}
use Rattle.std.proofs.lemmas.Bool.{and_parts, leb-true}
use Rattle.share_base.specs.Name.{is_letter}
use Rattle.share_base.specs.declared.command.Command.TheVariants.{MakeCurrency, RemoveCurrency, MakeTicket}
use Rattle.share_base.specs.declared.command.Command.TheVariants.{RemoveTicket, FundCurrency, FundFlow, Unfund}
use Rattle.share_base.specs.declared.command.Command.TheVariants.{OpenFlow, CloseFlow, Hold, Resume, Amend}
use Rattle.share_base.specs.declared.command.Event.{Event}
use Rattle.share_base.specs.declared.command.Event.TheVariants.{Commanded, Arrived, Written, Faulted}
use Rattle.share_base.specs.declared.refusal.Refusal.TheVariants.{Range}
use Rattle.share_model.specs.declared.line.Line.{Line}
use Rattle.share_model.specs.declared.line.Line.TheVariants.{Change, Send, Turn, Torn, Report, Audit}
use Rattle.share_model.specs.declared.rates.Rate.{Rate}
use Rattle.share_base.specs.Version.{max_payload}
use Rattle.share_base.specs.declared.version.Version.{Version}
use Rattle.share_base.specs.declared.version.Version.TheVariants.{One, Two}
use Rattle.share_model.proofs.lemmas.link.FrameLemmas.{max_payload-few}
use Rattle.share_model.specs.link.Turns.{rest_of}
use Rattle.share_model.specs.link.Tariff.{AreInRange}
use Rattle.share_model.specs.lists.Each.{Each}
use Rattle.share_model.specs.run.Events.{IsWrite, MayCome, MayFollow}
use Rattle.share_model.specs.run.Fold.{State, empty_state, step, outcome, outcomes, run}
use Rattle.share_model.proofs.lemmas.run.EventLemmas.{state-empty, state-step}
use Rattle.share_model.specs.run.Sound.{SoundState}
use Rattle.share_model.proofs.lemmas.run.SoundLinkLemmas.{sending-short, rest-short}
use Rattle.share_model.specs.text.Audit.{event_line, audit_lines, audit, IsAmple, AnswersWith}
use Rattle.share_model.specs.text.Events.{made_of, events_by, texts_of}
use Rattle.share_model.proofs.lemmas.text.EventLemmas.{after-state, talk-texts}
use Rattle.share_model.proofs.lemmas.text.LineFeedLemmas.{lines-all}
use Rattle.share_model.specs.text.Lines.{hex, spelling_of, line_by, reading, is_in_range, IsName, IsNumber, HasFields}
use Rattle.share_model.proofs.lemmas.text.LineLemmas.{reading-line}
use Rattle.share_model.specs.text.Talk.{makes, chooses, Progress, start_of_script, with_version, version_of_script}
use Rattle.share_model.specs.text.Talk.{after_event, line_event, read_event}
use Rattle.share_model.specs.text.Talk.{progress_and_text, answer}
use Rattle.share_model.specs.text.Talk.{first_flag}
use Rattle.share_model.specs.text.Talk.{talk, after, lines_of}
use Rattle.share_model.specs.text.Texts.{line_text}
use Rattle.share_model.proofs.lemmas.text.WordLemmas.{length-hex}

-- The lengths of lines

short_name : (w : List ℕ) → IsName w → length w ≤ 16
short_name w h =
    let few : nat_le (length w) 16 ≡ true = (and_parts (is_letter (slice_index w 0)) _ (and_parts _ _ h).0).1 in
    grind (arith, nat_tests)

short_number : (n : ℕ) → IsNumber n → length (decimal n) ≤ 20
short_number n h = length-decimal-le 20 n (lit< tt) (omega (arith, h)) h

-- a line in range is not too long
pub line-short : (version : Version) (l : Line) → HasFields l → is_in_range version l ≡ true
    → length (spelling_of l) ≤ 20480
line-short version (Change (MakeCurrency name)) h r = omega (arith, short_name name h)
line-short version (Change (RemoveCurrency name)) h r = omega (arith, short_name name h)
line-short version (Change (MakeTicket amount currency)) h r =
    let all = length-append (decimal amount) (32 ∷ currency) in
    omega (arith, all, short_number amount h.0, short_name currency h.1)
line-short version (Change (RemoveTicket ticket)) h r = omega (arith, short_number ticket h)
line-short version (Change (FundCurrency ticket currency)) h r =
    let all = length-append (decimal ticket) (codes " cur " ++ currency) in
    omega (arith, all, short_number ticket h.0, short_name currency h.1)
line-short version (Change (FundFlow ticket flow)) h r =
    let all = length-append (decimal ticket) (codes " flow " ++ flow) in
    omega (arith, all, short_number ticket h.0, short_name flow h.1)
line-short version (Change (Unfund ticket)) h r = omega (arith, short_number ticket h)
line-short version (Change (OpenFlow name limit tariff)) h r =
    let numbers = length-append (decimal limit) (32 ∷ decimal tariff) in
    let all = length-append name (32 ∷ (decimal limit ++ 32 ∷ decimal tariff)) in
    omega (arith, all, numbers, short_name name h.0, short_number limit h.1, short_number tariff h.2)
line-short version (Change (CloseFlow name)) h r = omega (arith, short_name name h)
line-short version (Change (Hold name)) h r = omega (arith, short_name name h)
line-short version (Change (Resume name)) h r = omega (arith, short_name name h)
line-short version (Change (Amend ticket amount)) h r =
    let all = length-append (decimal ticket) (32 ∷ decimal amount) in
    omega (arith, all, short_number ticket h.0, short_number amount h.1)
line-short version (Send flow body) h r =
    let all = length-append flow (32 ∷ hex body.payload) in
    omega (
      arith,
      all,
      length-hex body.payload,
      leb-true (length body.payload) (max_payload version) r,
      max_payload-few version,
      short_name flow h.0,
    )
line-short version (Turn most) h r = omega (arith, short_number most h)
line-short version Torn h r = omega arith
line-short version Report h r = omega arith
line-short version (Audit One) h r = omega arith
line-short version (Audit Two) h r = omega arith

-- The line of an event

-- a write has at most a frame
written_few : {life : ℕ} {rates : List Rate} {s : State} → SoundState life rates s → (k : ℕ) → IsWrite s.live k
    → k ≤ 9017
written_few sound k h =
    omega (arith, h.fits, rest-short sound.live h.sends.is, sending-short sound.live h.sends.is)

payload_in_range : (n most : ℕ) → n ≤ most → nat_le n most ≡ true
payload_in_range n most h = grind (arith, nat_tests)

turn_in_range : (k : ℕ) → 0 < k → k ≤ 9017 → (nat_le 1 k && nat_le k 65535) ≡ true
turn_in_range k some few = grind (arith, nat_tests)

-- the line of an event that may come can be spelled, and is in range
event_fields : {life : ℕ} {rates : List Rate} {s : State} → SoundState life rates s → (e : Event) → MayCome s.live e
    → HasFields (event_line e) × (is_in_range s.live.version (event_line e) ≡ true)
event_fields sound (Commanded c) may = (may, refl)
event_fields sound (Arrived flow body) may =
    ((may.0, (may.1.some, may.1.bytes), may.2), payload_in_range (length body.payload) _ may.1.few)
event_fields sound (Written k) may =
    let few = written_few sound k may in (omega (arith, few), turn_in_range k may.some few)
event_fields sound Faulted may = (tt, refl)

read_back : (version : Version) (l : Line) → HasFields l → is_in_range version l ≡ true
    → reading version (spelling_of l) ≡ Ok l
read_back version l h r =
    reading-line version l (record { fields = h; short = line-short version l h r })
    ∙ ap (λ b. cond b (Ok l) (Err Range)) r

living : (life n : ℕ) → n < life → (n == life) ≡ false
living life n h = grind (arith, nat_tests)

module _ (most : ℕ) (rates : List Rate) (p : Progress) where
  -- it makes that event, if memory is found
  event_made : (e : Event) → p.state.live.counts.events < most → MayCome p.state.live e
      → line_event most rates p false (event_line e) ≡ makes e
  event_made (Commanded c) few may = rw (living most _ few) refl
  event_made (Arrived flow body) few may = rw (living most _ few) refl
  event_made (Written k) few may =
      let all : min k (length (rest_of may.frame)) ≡ k = omega (arith, may.fits) in
      rw (living most _ few, may.sends.is, may.sends.unbroken, all) refl
  event_made Faulted few may = rw (living most _ few, may.sends.is, may.sends.unbroken) refl

  event_read : {life : ℕ} → life ≤ most → SoundState life rates p.state → (e : Event)
      → p.state.live.counts.events < life → MayCome p.state.live e → (lack : Bool) → lack ≡ false
      → read_event most rates p lack (reading p.state.live.version (spelling_of (event_line e))) ≡ makes e
  event_read longer sound e few may lack found =
      let fields = event_fields sound e may in
      ap (read_event most rates p lack) (read_back p.state.live.version (event_line e) fields.0 fields.1)
      ∙ ap (λ b. line_event most rates p b (event_line e)) found
      ∙ event_made e (omega (arith, longer, few)) may

-- The lines of a run

not_lacking : (b : Bool) → not b ≡ true → b ≡ false
not_lacking true h = cc
not_lacking false h = refl

first_found : (lacks : List Bool) → IsAmple lacks → first_flag lacks ≡ false
first_found [] h = refl
first_found (b ∷ bs) h = not_lacking b (and_parts _ _ h).0

later_found : (lacks : List Bool) → IsAmple lacks → IsAmple (drop 1 lacks)
later_found [] h = refl
later_found (b ∷ bs) h = (and_parts _ _ h).1

-- each line of an event makes it
run_made : (life most : ℕ) (rates : List Rate) → life ≤ most → AreInRange rates → (es : List Event) (p : Progress)
    (lacks : List Bool) → IsAmple lacks → SoundState life rates p.state → MayFollow life rates p.state es
    → made_of most rates p lacks (map spelling_of (map event_line es)) ≡ map makes es
unfolding made_of MayFollow answer
run_made life most rates longer range [] p lacks ample sound may = refl
run_made life most rates longer range (e ∷ es) p lacks ample sound may =
    let lines = map spelling_of (map event_line es) in
    let first = event_read most rates p longer sound e may.0 may.1 (first_flag lacks) (first_found lacks ample) in
    let next : Progress = after_event rates p e in
    let later = run_made life most rates longer range es next (drop 1 lacks) (later_found lacks ample)
    (state-step range sound may.0 e may.1) may.2 in
    ap (λ r. r ∷ made_of most rates (progress_and_text rates p r).0 (drop 1 lacks) lines) first
    ∙ ap (λ rs. makes e ∷ rs) later

audit_read : (version : Version) → reading One (spelling_of (Audit version)) ≡ Ok (Audit version)
unfolding reading line_by
audit_read One = refl
audit_read Two = refl

audit_made : (version : Version) (life most : ℕ) (rates : List Rate) → life ≤ most → AreInRange rates
    → (es : List Event) (lacks : List Bool) → IsAmple lacks → MayFollow life rates (empty_state version) es
    → made_of most rates start_of_script lacks (map spelling_of (audit_lines version es)) ≡ chooses version
    ∷ map makes es
unfolding made_of answer
audit_made version life most rates longer range es lacks ample may =
    let lines = map spelling_of (map event_line es) in
    let first : read_event most rates start_of_script (first_flag lacks) (reading One (spelling_of (Audit version)))
    ≡ chooses version =
    ap (read_event most rates start_of_script (first_flag lacks)) (audit_read version) in
    let later = run_made life most rates longer range es (with_version start_of_script version) (drop 1 lacks)
    (later_found lacks ample) (state-empty version life rates) may in
    ap (λ r. r ∷ made_of most rates (progress_and_text rates start_of_script r).0 (drop 1 lacks) lines) first
    ∙ ap (λ rs. chooses version ∷ rs) later

-- The whole script

audit_version : (version : Version) (es : List Event)
    → version_of_script (map spelling_of (audit_lines version es)) ≡ version
audit_version One es = refl
audit_version Two es = refl

events_ok : (es : List Event) → flat_map events_by (map makes es) ≡ es
events_ok [] = refl
events_ok (e ∷ es) = ap (λ r. e ∷ r) (events_ok es)

texts_ok : (rates : List Rate) (s : State) (es : List Event)
    → texts_of (map makes es) (outcomes rates s es) ≡ flat_map line_text (outcomes rates s es)
unfolding outcomes
texts_ok rates s [] = refl
texts_ok rates s (e ∷ es) = ap (λ r. line_text (outcome rates s e) ++ r) (texts_ok rates (step rates s e) es)

all_fields : (life : ℕ) (rates : List Rate) (s : State) → AreInRange rates → (es : List Event)
    → SoundState life rates s → MayFollow life rates s es → Each HasFields (map event_line es)
unfolding MayFollow
all_fields life rates s range [] sound may = tt
all_fields life rates s range (e ∷ es) sound may = (
  (event_fields sound e may.1).0,
  all_fields life rates (step rates s e) range es (state-step range sound may.0 e may.1) may.2,
)

-- the script of the audit of a run has the lines of the audit
pub lines-audit : (version : Version) (life : ℕ) (rates : List Rate) (es : List Event) → AreInRange rates
    → MayFollow life rates (empty_state version) es
    → lines_of (audit version es) ≡ map spelling_of (audit_lines version es)
unfolding audit
lines-audit version life rates es range may =
    lines-all (audit_lines version es)
    (tt, all_fields life rates (empty_state version) range es (state-empty version life rates) may)

-- in a life that is not shorter it is answered with the outcomes of the run, and comes to its state
pub audit-replays : (version : Version) (life most : ℕ) (rates : List Rate) (es : List Event) → AreInRange rates
    → MayFollow life rates (empty_state version) es → life ≤ most
    → AnswersWith most rates (audit version es) (outcomes rates (empty_state version) es) (run version rates es)
audit-replays version life most rates es range may longer = record {
  text = λ lacks ample.
      let made = audit_made version life most rates longer range es lacks ample may in
      ap (talk most rates start_of_script lacks) (lines-audit version life rates es range may)
      ∙ talk-texts most rates lacks (map spelling_of (audit_lines version es))
      ∙ ap (λ rs. texts_of rs (outcomes rates
      (empty_state (version_of_script (map spelling_of (audit_lines version es)))) (flat_map events_by rs))) made
      ∙ ap (λ v. texts_of (map makes es) (outcomes rates (empty_state v) (flat_map events_by (map makes es))))
      (audit_version version es)
      ∙ ap (λ fs. texts_of (map makes es) (outcomes rates (empty_state version) fs)) (events_ok es)
      ∙ texts_ok rates (empty_state version) es;
  state = λ lacks ample.
      let made = audit_made version life most rates longer range es lacks ample may in
      ap (λ ls. (after most rates start_of_script lacks ls).state) (lines-audit version life rates es range may)
      ∙ after-state most rates lacks (map spelling_of (audit_lines version es))
      ∙ ap (λ rs. run (version_of_script (map spelling_of (audit_lines version es))) rates (flat_map events_by rs)) made
      ∙ ap (λ v. run v rates (flat_map events_by (map makes es))) (audit_version version es)
      ∙ ap (run version rates) (events_ok es);
}
