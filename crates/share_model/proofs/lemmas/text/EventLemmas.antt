-- A script is a run of its events. It comes to their state, and is answered with the texts of their outcomes. The
-- events may follow one another.
use Rattle.std.specs.Prelude.{◌+◌, ◌≡◌, ◌<◌, ◌≤◌, ◌==◌, ℕ, Bool, true, false, ◌&&◌, List, [], ◌∷◌, ◌++◌, drop, length}
use Rattle.std.specs.Prelude.{codes}
use Rattle.std.specs.Prelude.{nat_le, Option, None, Some, Result, Ok, Err, refl, if◌then◌else◌}
use Rattle.std.proofs.Common.{ap, sym, ◌∙◌, append_assoc, subst, arith, cond}
use Rattle.std.specs.Str.{bytes_eq}
use Rattle.std.proofs.lemmas.Bool.Decides.{nat_tests}
use Rattle.std.proofs.lemmas.Slice.Eq.{bytes_eq-Decides}
use Rattle.std.proofs.lemmas.List.{append-nil}
use Rattle.std.proofs.lemmas.List.Concat.{flat_map-append}
use Rattle.std.proofs.lemmas.Bool.{leb-true}
use Rattle.share_base.specs.declared.refusal.Refusal.{Refusal}
use Rattle.share_base.specs.declared.command.Event.{Event}
use Rattle.share_base.specs.declared.command.Event.TheVariants.{Commanded, Arrived}
use Rattle.share_model.specs.declared.line.Line.{Line}
use Rattle.share_model.specs.declared.line.Line.TheVariants.{Change, Send, Turn, Torn, Report, Audit}
use Rattle.share_model.specs.declared.rates.Rate.{Rate}
use Rattle.share_base.specs.Version.{max_payload}
use Rattle.share_base.specs.declared.version.Version.{Version}
use Rattle.share_base.specs.declared.version.Version.TheVariants.{One, Two}
use Rattle.share_model.specs.link.Tariff.{AreInRange}
use Rattle.share_model.specs.link.Live.{life_is_spent}
use Rattle.share_model.specs.link.Turns.{Sending, sending}
use Rattle.share_model.specs.run.Fold.{State, empty_state, outcome, state_after, outcomes}
use Rattle.share_model.proofs.lemmas.run.EventLemmas.{state_after-append, may_follow-append, state-empty, state-after}
use Rattle.share_model.specs.run.Events.{MayCome, MayFollow, write_of, writes_in}
use Rattle.share_model.specs.run.Sound.{SoundState}
use Rattle.share_model.specs.text.Lines.{line_by, reading, IsReading}
use Rattle.share_model.proofs.lemmas.text.LineLemmas.{reading-spelling_of}
use Rattle.share_model.proofs.lemmas.text.OfferLemmas.{rest-some}
use Rattle.share_model.specs.text.Report.{report}
use Rattle.share_model.specs.text.Talk.{Made, makes, says, chooses, start_of_script, version_of_script}
use Rattle.share_model.specs.text.Talk.{is_syntax, finds_none, write_event, fault_event, audit_event, line_event}
use Rattle.share_model.specs.text.Talk.{unless_over, read_event, progress_and_text, Progress, onward, is_first, answer}
use Rattle.share_model.specs.text.Talk.{first_flag}
use Rattle.share_model.specs.text.Talk.{talk}
use Rattle.share_model.specs.text.Talk.{after}
use Rattle.share_model.specs.text.Events.{made_of, events_by, events_of, texts_of}
use Rattle.share_model.specs.text.Texts.{line_text}

-- The lines that choose a version

-- the state at which the events of a line begin. It is that of before it, or that of a new link of the version that it
-- chooses
abbrev pub chosen : State → Made → State
chosen s (makes e) = s
chosen s (says text) = s
chosen s (chooses version) = empty_state version

abbrev pub IsPlain : Made → Type 0
IsPlain (makes e) = Unit {0}
IsPlain (says text) = Unit {0}
IsPlain (chooses version) = ⊥

pub chosen-plain : (s : State) (r : Made) → IsPlain r → chosen s r ≡ s
chosen-plain s (makes e) plain = refl
chosen-plain s (says text) plain = refl
chosen-plain s (chooses version) plain = absurd plain

either_plain : (t : Bool) (r s : Made) → IsPlain r → IsPlain s → IsPlain (cond t r s)
either_plain true r s one other = one
either_plain false r s one other = other

write_plain : (most : ℕ) (o : Option Sending) → IsPlain (write_event most o)
write_plain most None = tt
write_plain most (Some x) = tt

fault_plain : (o : Option Sending) → IsPlain (fault_event o)
fault_plain None = tt
fault_plain (Some x) = tt

-- a line that is no line of an audit
abbrev IsOther : Line → Type 0
IsOther (Change c) = Unit {0}
IsOther (Send flow body) = Unit {0}
IsOther (Turn most) = Unit {0}
IsOther Torn = Unit {0}
IsOther Report = Unit {0}
IsOther (Audit version) = ⊥

module _ (life : ℕ) (rates : List Rate) (p : Progress) (lack : Bool) where
  over_plain : (r : Made) → IsPlain r → IsPlain (unless_over life p.state r)
  over_plain r plain =
      either_plain (life_is_spent life p.state.live) _ _ tt (either_plain p.state.live.broken _ _ tt plain)

  line_plain : (l : Line) → IsOther l → IsPlain (line_event life rates p lack l)
  line_plain (Change c) other =
      either_plain (life_is_spent life p.state.live) _ _ tt
      (either_plain (finds_none lack rates p.state c) _ _ tt tt)
  line_plain (Send flow body) other =
      either_plain (life_is_spent life p.state.live) _ _ tt (either_plain lack _ _ tt tt)
  line_plain (Turn most) other = over_plain _ (write_plain most (sending p.state.live))
  line_plain Torn other = over_plain _ (fault_plain (sending p.state.live))
  line_plain Report other = tt
  line_plain (Audit version) other = absurd other

  unread_plain : (e : Refusal) → IsPlain (read_event life rates p lack (Err e))
  unread_plain e =
      either_plain (is_syntax e) _ _ tt (either_plain (life_is_spent life p.state.live) _ _ tt tt)

  later_audit : (version : Version) (first : Bool) → first ≡ false → IsPlain (audit_event version first)
  later_audit version true later = cc
  later_audit version false later = tt

  -- no line but the first chooses a version
  later_plain : is_first p ≡ false → (r : Result Line Refusal) → IsPlain (read_event life rates p lack r)
  later_plain later (Ok (Change c)) = line_plain (Change c) tt
  later_plain later (Ok (Send flow body)) = line_plain (Send flow body) tt
  later_plain later (Ok (Turn most)) = line_plain (Turn most) tt
  later_plain later (Ok Torn) = line_plain Torn tt
  later_plain later (Ok Report) = tt
  later_plain later (Ok (Audit version)) = later_audit version (is_first p) later
  later_plain later (Err e) = unread_plain e

two_is_read : reading One (codes "audit 2") ≡ Ok (Audit Two)
unfolding reading line_by
two_is_read = refl

-- bytes that are read as something else are not that line
not_two : (l : List ℕ) (b : Bool) → bytes_eq l (codes "audit 2") ≡ b → (reading One l ≡ Ok (Audit Two) → ⊥)
    → b ≡ false
not_two l true test other =
    let same : l ≡ codes "audit 2" = (bytes_eq-Decides l (codes "audit 2")).0 test in
    absurd (other (ap (reading One) same ∙ two_is_read))
not_two l false test other = refl

module _ (life : ℕ) (rates : List Rate) (lack : Bool) (l : List ℕ) (ls : List (List ℕ)) where
  abbrev Chooses : Result Line Refusal → Type 0
  Chooses r =
      chosen start_of_script.state (read_event life rates start_of_script lack r)
      ≡ empty_state (version_of_script (l ∷ ls))

  other_chosen : (r : Result Line Refusal) → IsPlain (read_event life rates start_of_script lack r)
      → (reading One l ≡ Ok (Audit Two) → ⊥) → Chooses r
  other_chosen r plain other =
      chosen-plain start_of_script.state (read_event life rates start_of_script lack r) plain
      ∙ ap (λ b. empty_state (if b then Two else One)) (sym (not_two l (bytes_eq l (codes "audit 2")) refl other))

  line_chosen : (m : Line) → IsOther m → reading One l ≡ Ok m → Chooses (Ok m)
  line_chosen m other is =
      other_chosen (Ok m) (line_plain life rates start_of_script lack m other)
      (λ two. other_line m other (sym is ∙ two))
    where
      other_line : (m : Line) → IsOther m → ◌≡◌ {A = Result Line Refusal} (Ok m) (Ok (Audit Two)) → ⊥
      other_line (Change c) other e = cc
      other_line (Send flow body) other e = cc
      other_line (Turn most) other e = cc
      other_line Torn other e = cc
      other_line Report other e = cc
      other_line (Audit version) other e = other

  chosen_by : (r : Result Line Refusal) → reading One l ≡ r → Chooses r
  chosen_by (Ok (Change c)) is = line_chosen (Change c) tt is
  chosen_by (Ok (Send flow body)) is = line_chosen (Send flow body) tt is
  chosen_by (Ok (Turn most)) is = line_chosen (Turn most) tt is
  chosen_by (Ok Torn) is = line_chosen Torn tt is
  chosen_by (Ok Report) is = line_chosen Report tt is
  chosen_by (Ok (Audit One)) is =
      ap (λ bytes. empty_state (if bytes_eq bytes (codes "audit 2") then Two else One))
      (reading-spelling_of One l (Audit One) is).spells
  chosen_by (Ok (Audit Two)) is =
      ap (λ bytes. empty_state (if bytes_eq bytes (codes "audit 2") then Two else One))
      (reading-spelling_of One l (Audit Two) is).spells
  chosen_by (Err e) is =
      other_chosen (Err e) (unread_plain life rates start_of_script lack e)
      (λ two. let both : ◌≡◌ {A = Result Line Refusal} (Err e) (Ok (Audit Two)) = sym is ∙ two in cc)

  -- the first line chooses the version of the script
  first_chosen : Chooses (reading One l)
  first_chosen = chosen_by (reading One l) refl

pub later_line : (n : ℕ) → (n + 1 == 0) ≡ false
later_line n = grind (arith, nat_tests)

-- the line after another is not the first
pub answer-later : (life : ℕ) (rates : List Rate) (p : Progress) (lack : Bool) (l : List ℕ)
    → is_first (answer life rates p lack l).0 ≡ false
unfolding answer
answer-later life rates p lack l =
    made_later (read_event life rates p lack (reading p.state.live.version l))
  where
    made_later : (r : Made) → is_first (progress_and_text rates p r).0 ≡ false
    made_later (makes e) = later_line p.lines
    made_later (says text) = later_line p.lines
    made_later (chooses version) = later_line p.lines

-- The outcome of a script

progress_and_text-state : (rates : List Rate) (p : Progress) (r : Made)
    → (progress_and_text rates p r).0.state ≡ state_after rates (chosen p.state r) (events_by r)
unfolding state_after
progress_and_text-state rates p (makes e) = refl
progress_and_text-state rates p (says text) = refl
progress_and_text-state rates p (chooses version) = refl

-- the event of the next line of a script in progress
abbrev pub next_made : ℕ → List Rate → Progress → Bool → List ℕ → Made
next_made life rates p lack l = read_event life rates p lack (reading p.state.live.version l)

-- the state after the next line is that of its events
answer-state : (life : ℕ) (rates : List Rate) (p : Progress) (lack : Bool) (l : List ℕ)
    → (answer life rates p lack l).0.state
    ≡ state_after rates (chosen p.state (next_made life rates p lack l)) (events_by (next_made life rates p lack l))
unfolding answer
answer-state life rates p lack l = progress_and_text-state rates p (next_made life rates p lack l)

chosen_later : (life : ℕ) (rates : List Rate) (p : Progress) (lack : Bool) (l : List ℕ) → is_first p ≡ false
    → chosen p.state (next_made life rates p lack l) ≡ p.state
chosen_later life rates p lack l later =
    chosen-plain p.state (next_made life rates p lack l)
    (later_plain life rates p lack later (reading p.state.live.version l))

-- a script after its first line comes to the state after its events
pub after-later : (life : ℕ) (rates : List Rate) (p : Progress) (lacks : List Bool) (ls : List (List ℕ))
    → is_first p ≡ false
    → (after life rates p lacks ls).state ≡ state_after rates p.state (events_of life rates p lacks ls)
unfolding after made_of state_after
after-later life rates p lacks [] later = refl
after-later life rates p lacks (l ∷ ls) later =
    let next : Progress = (answer life rates p (first_flag lacks) l).0 in
    let first : List Event = events_by (next_made life rates p (first_flag lacks) l) in
    let rest : List Event = events_of life rates next (drop 1 lacks) ls in
    after-later life rates next (drop 1 lacks) ls (answer-later life rates p (first_flag lacks) l)
    ∙ ap (λ s. state_after rates s rest)
    (answer-state life rates p (first_flag lacks) l
    ∙ ap (λ s. state_after rates s first) (chosen_later life rates p (first_flag lacks) l later))
    ∙ sym (state_after-append rates p.state first rest)

-- a script comes to the state after its events, from the empty state of its version
pub after-state : (life : ℕ) (rates : List Rate) (lacks : List Bool) (ls : List (List ℕ))
    → (after life rates start_of_script lacks ls).state
    ≡ state_after rates (empty_state (version_of_script ls)) (events_of life rates start_of_script lacks ls)
unfolding after made_of state_after
after-state life rates lacks [] = refl
after-state life rates lacks (l ∷ ls) =
    let next : Progress = (answer life rates start_of_script (first_flag lacks) l).0 in
    let first : List Event = events_by (next_made life rates start_of_script (first_flag lacks) l) in
    let rest : List Event = events_of life rates next (drop 1 lacks) ls in
    let start : State = empty_state (version_of_script (l ∷ ls)) in
    after-later life rates next (drop 1 lacks) ls (answer-later life rates start_of_script (first_flag lacks) l)
    ∙ ap (λ s. state_after rates s rest)
    (answer-state life rates start_of_script (first_flag lacks) l
    ∙ ap (λ s. state_after rates s first) (first_chosen life rates (first_flag lacks) l ls))
    ∙ sym (state_after-append rates start first rest)

-- The counts of its writes

pub progress_and_text-writes : (rates : List Rate) (p : Progress) (r : Made)
    → (progress_and_text rates p r).0.writes ≡ p.writes ++ writes_in (events_by r)
progress_and_text-writes rates p (makes e) = ap (λ ks. p.writes ++ ks) (sym (append-nil (write_of e)))
progress_and_text-writes rates p (says text) = sym (append-nil p.writes)
progress_and_text-writes rates p (chooses version) = sym (append-nil p.writes)

answer-writes : (life : ℕ) (rates : List Rate) (p : Progress) (lack : Bool) (l : List ℕ)
    → (answer life rates p lack l).0.writes ≡ p.writes ++ writes_in (events_by (next_made life rates p lack l))
unfolding answer
answer-writes life rates p lack l = progress_and_text-writes rates p (next_made life rates p lack l)

-- a script's writes are those of its events
pub after-writes : (life : ℕ) (rates : List Rate) (p : Progress) (lacks : List Bool) (ls : List (List ℕ))
    → (after life rates p lacks ls).writes ≡ p.writes ++ writes_in (events_of life rates p lacks ls)
unfolding after made_of
after-writes life rates p lacks [] = sym (append-nil p.writes)
after-writes life rates p lacks (l ∷ ls) =
    let next : Progress = (answer life rates p (first_flag lacks) l).0 in
    let first : List Event = events_by (next_made life rates p (first_flag lacks) l) in
    let rest : List Event = events_of life rates next (drop 1 lacks) ls in
    after-writes life rates next (drop 1 lacks) ls
    ∙ ap (λ ks. ks ++ writes_in rest) (answer-writes life rates p (first_flag lacks) l)
    ∙ append_assoc p.writes (writes_in first) (writes_in rest)
    ∙ ap (λ ks. p.writes ++ ks) (sym (flat_map-append write_of first rest))

-- Its events may follow one another

some_offered : (most : ℕ) → (nat_le 1 most && nat_le most 65535) ≡ true → 1 ≤ most
some_offered most h = grind (arith, nat_tests)

-- an event that is made may come
abbrev MayMake : ℕ → State → Made → Type 0
MayMake life s (makes e) = (s.live.counts.events < life) × MayCome s.live e
MayMake life s (says text) = Unit {0}
MayMake life s (chooses version) = Unit {0}

below_life : (n life : ℕ) → n ≤ life → (n == life) ≡ false → n < life
below_life n life most other = grind (arith, nat_tests)

module _ (life : ℕ) (rates : List Rate) (p : Progress) (sound : SoundState life rates p.state) where
  living : life_is_spent life p.state.live ≡ false → p.state.live.counts.events < life
  living below = below_life p.state.live.counts.events life sound.live.counts.events below

  -- a call makes its event if the life is not over and memory was found
  may_call : (over lacks : Bool) → life_is_spent life p.state.live ≡ over → (e : Event) (a b : List ℕ)
      → MayCome p.state.live e
      → MayMake life p.state (cond over (says a) (cond lacks (says b) (makes e)))
  may_call true lacks is e a b may = tt
  may_call false true is e a b may = tt
  may_call false false is e a b may = (living is, may)

  -- a turn makes its event if the life is not over and the link is not broken
  may_turn : (over broken : Bool) → life_is_spent life p.state.live ≡ over → p.state.live.broken ≡ broken
      → (r : Made)
      (a b : List ℕ)
      → (p.state.live.counts.events < life → p.state.live.broken ≡ false → MayMake life p.state r)
      → MayMake life p.state (cond over (says a) (cond broken (says b) r))
  may_turn true broken is whole r a b may = tt
  may_turn false true is whole r a b may = tt
  may_turn false false is whole r a b may = may (living is) whole

  may_write : (most : ℕ) → 1 ≤ most → p.state.live.counts.events < life → p.state.live.broken ≡ false
      → (o : Option Sending) → sending p.state.live ≡ o → MayMake life p.state (write_event most o)
  may_write most some few whole None is = tt
  may_write most some few whole (Some x) is =
      let rest = rest-some x sound.live is in (
        few,
        record {
          frame = x;
          sends = record { unbroken = whole; is = is };
          some = omega (arith, rest);
          fits = omega arith;
        },
      )

  may_fault : p.state.live.counts.events < life → p.state.live.broken ≡ false
      → (o : Option Sending) → sending p.state.live ≡ o → MayMake life p.state (fault_event o)
  may_fault few whole None is = tt
  may_fault few whole (Some x) is = (few, record { frame = x; sends = record { unbroken = whole; is = is } })

  -- the line of an audit makes no event, as the first line or a later one
  may_audit : (version : Version) (first : Bool) → MayMake life p.state (audit_event version first)
  may_audit version true = tt
  may_audit version false = tt

  may_line : (bytes : List ℕ) (lack : Bool) (l : Line) → IsReading p.state.live.version bytes l
      → MayMake life p.state (line_event life rates p lack l)
  may_line bytes lack (Change c) read =
      may_call (life_is_spent life p.state.live) (finds_none lack rates p.state c) refl (Commanded c) _ _
      read.line.fields
  may_line bytes lack (Send flow body) read =
      let fields = read.line.fields in
      let few = leb-true (length body.payload) (max_payload p.state.live.version) read.in_range in
      may_call (life_is_spent life p.state.live) lack refl (Arrived flow body) _ _
      (fields.0, record { some = fields.1.0; few = few; bytes = fields.1.1 }, fields.2)
  may_line bytes lack (Turn most) read =
      may_turn (life_is_spent life p.state.live) p.state.live.broken refl refl
      (write_event most (sending p.state.live)) _ _
      (λ few whole. may_write most (some_offered most read.in_range) few whole (sending p.state.live) refl)
  may_line bytes lack Torn read =
      may_turn (life_is_spent life p.state.live) p.state.live.broken refl refl (fault_event (sending p.state.live)) _ _
      (λ few whole. may_fault few whole (sending p.state.live) refl)
  may_line bytes lack Report read = tt
  may_line bytes lack (Audit version) read = may_audit version (is_first p)

  -- a line that was not read makes no event
  may_unread : (syntax over : Bool) (a b c : List ℕ)
      → MayMake life p.state (cond syntax (says a) (cond over (says b) (says c)))
  may_unread true over a b c = tt
  may_unread false true a b c = tt
  may_unread false false a b c = tt

  may_read : (bytes : List ℕ) (lack : Bool) (r : Result Line Refusal) → reading p.state.live.version bytes ≡ r
      → MayMake life p.state (read_event life rates p lack r)
  may_read bytes lack (Ok l) is = may_line bytes lack l (reading-spelling_of p.state.live.version bytes l is)
  may_read bytes lack (Err e) is = may_unread (is_syntax e) (life_is_spent life p.state.live) _ _ _

  may_one : (r : Made) → MayMake life p.state r → MayFollow life rates (chosen p.state r) (events_by r)
  unfolding MayFollow
  may_one (makes e) may = (may.0, may.1, tt)
  may_one (says text) may = tt
  may_one (chooses version) may = tt

  may_first : (lack : Bool) (bytes : List ℕ)
      → MayFollow life rates (chosen p.state (next_made life rates p lack bytes))
      (events_by (next_made life rates p lack bytes))
  may_first lack bytes =
      may_one (next_made life rates p lack bytes) (may_read bytes lack (reading p.state.live.version bytes) refl)

  chosen_sound : (r : Made) → SoundState life rates (chosen p.state r)
  chosen_sound (makes e) = sound
  chosen_sound (says text) = sound
  chosen_sound (chooses version) = state-empty version life rates

answer_sound : (life : ℕ) (rates : List Rate) (p : Progress) (lack : Bool) (l : List ℕ)
    → AreInRange rates → SoundState life rates p.state → SoundState life rates (answer life rates p lack l).0.state
answer_sound life rates p lack l range sound =
    subst (SoundState life rates) (sym (answer-state life rates p lack l))
    (state-after life rates (chosen p.state (next_made life rates p lack l)) _ range
    (chosen_sound life rates p sound (next_made life rates p lack l)) (may_first life rates p sound lack l))

-- the events of the next line, and then those of the lines after it
may_go_on : (life : ℕ) (rates : List Rate) (p : Progress) (lack : Bool) (l : List ℕ) (s : State) (rest : List Event)
    → SoundState life rates p.state → chosen p.state (next_made life rates p lack l) ≡ s
    → MayFollow life rates (answer life rates p lack l).0.state rest
    → MayFollow life rates s (events_by (next_made life rates p lack l) ++ rest)
may_go_on life rates p lack l s rest sound from later =
    let first : List Event = events_by (next_made life rates p lack l) in
    may_follow-append life rates s first rest
    (subst (λ s. MayFollow life rates s first) from (may_first life rates p sound lack l))
    (subst (λ s. MayFollow life rates s rest)
    (answer-state life rates p lack l ∙ ap (λ s. state_after rates s first) from) later)

-- the events of a script after its first line may follow a sound state
events-later : (life : ℕ) (rates : List Rate) (p : Progress) (lacks : List Bool) (ls : List (List ℕ))
    → AreInRange rates → SoundState life rates p.state → is_first p ≡ false
    → MayFollow life rates p.state (events_of life rates p lacks ls)
unfolding made_of MayFollow
events-later life rates p lacks [] range sound later = tt
events-later life rates p lacks (l ∷ ls) range sound later =
    let next : Progress = (answer life rates p (first_flag lacks) l).0 in
    may_go_on life rates p (first_flag lacks) l p.state (events_of life rates next (drop 1 lacks) ls) sound
    (chosen_later life rates p (first_flag lacks) l later)
    (events-later life rates next (drop 1 lacks) ls range (answer_sound life rates p _ l range sound)
    (answer-later life rates p (first_flag lacks) l))

-- those of a script may follow the empty state of its version
pub events-may_follow : (life : ℕ) (rates : List Rate) (lacks : List Bool) (ls : List (List ℕ)) → AreInRange rates
    → MayFollow life rates (empty_state (version_of_script ls)) (events_of life rates start_of_script lacks ls)
unfolding made_of MayFollow
events-may_follow life rates lacks [] range = tt
events-may_follow life rates lacks (l ∷ ls) range =
    let sound = state-empty One life rates in
    let next : Progress = (answer life rates start_of_script (first_flag lacks) l).0 in
    may_go_on life rates start_of_script (first_flag lacks) l (empty_state (version_of_script (l ∷ ls)))
    (events_of life rates next (drop 1 lacks) ls) sound (first_chosen life rates (first_flag lacks) l ls)
    (events-later life rates next (drop 1 lacks) ls range (answer_sound life rates start_of_script _ l range sound)
    (answer-later life rates start_of_script (first_flag lacks) l))

-- The answers to it

first_text : (rates : List Rate) (p : Progress) (s : State) (r : Made) (rs : List Made)
    (es : List Event) (rest : List ℕ) → chosen p.state r ≡ s
    → rest ≡ texts_of rs (outcomes rates (progress_and_text rates p r).0.state es)
    → (progress_and_text rates p r).1 ++ rest ≡ texts_of (r ∷ rs) (outcomes rates s (events_by r ++ es))
unfolding outcomes
first_text rates p s (makes e) rs es rest from is =
    ap (λ later. line_text (outcome rates p.state e) ++ later) is
    ∙ ap (λ s. texts_of (makes e ∷ rs) (outcomes rates s (e ∷ es))) from
first_text rates p s (says text) rs es rest from is =
    ap (λ later. text ++ later) is ∙ ap (λ s. texts_of (says text ∷ rs) (outcomes rates s es)) from
first_text rates p s (chooses version) rs es rest from is =
    is ∙ ap (λ s. texts_of rs (outcomes rates s es)) from

-- the talk after the first line is the texts of the outcomes of the events, and of the lines that made none
talk-later : (life : ℕ) (rates : List Rate) (p : Progress) (lacks : List Bool) (ls : List (List ℕ)) → is_first p ≡ false
    → talk life rates p lacks ls
    ≡ texts_of (made_of life rates p lacks ls) (outcomes rates p.state (events_of life rates p lacks ls))
unfolding talk answer made_of outcomes
talk-later life rates p lacks [] later = refl
talk-later life rates p lacks (l ∷ ls) later =
    let next : Progress = (answer life rates p (first_flag lacks) l).0 in
    first_text rates p p.state (next_made life rates p (first_flag lacks) l)
    (made_of life rates next (drop 1 lacks) ls) (events_of life rates next (drop 1 lacks) ls) _
    (chosen_later life rates p (first_flag lacks) l later)
    (talk-later life rates next (drop 1 lacks) ls (answer-later life rates p (first_flag lacks) l))

-- and so is the whole talk
pub talk-texts : (life : ℕ) (rates : List Rate) (lacks : List Bool) (ls : List (List ℕ))
    → talk life rates start_of_script lacks ls
    ≡ texts_of (made_of life rates start_of_script lacks ls)
    (outcomes rates (empty_state (version_of_script ls)) (events_of life rates start_of_script lacks ls))
unfolding talk answer made_of outcomes
talk-texts life rates lacks [] = refl
talk-texts life rates lacks (l ∷ ls) =
    let next : Progress = (answer life rates start_of_script (first_flag lacks) l).0 in
    first_text rates start_of_script (empty_state (version_of_script (l ∷ ls)))
    (next_made life rates start_of_script (first_flag lacks) l)
    (made_of life rates next (drop 1 lacks) ls) (events_of life rates next (drop 1 lacks) ls) _
    (first_chosen life rates (first_flag lacks) l ls)
    (talk-later life rates next (drop 1 lacks) ls (answer-later life rates start_of_script (first_flag lacks) l))

-- A report is that of the run so far

report_by : (life : ℕ) (rates : List Rate) (p : Progress) (lacks : List Bool) (ls rest : List (List ℕ))
    → (more : List ℕ)
    × (talk life rates p lacks (ls ++ codes "report" ∷ rest)
    ≡ talk life rates p lacks ls ++ (report (after life rates p lacks ls).state.live ++ more))
unfolding talk after answer reading line_by
report_by life rates p lacks [] rest =
    (talk life rates (onward p) (drop 1 lacks) rest, refl)
report_by life rates p lacks (l ∷ ls) rest =
    let first : Progress × List ℕ = answer life rates p (first_flag lacks) l in
    let later = report_by life rates first.0 (drop 1 lacks) ls rest in
    (later.0, ap (λ text. first.1 ++ text) later.1 ∙ sym (append_assoc first.1 _ _))

-- wherever a report is asked for, it is that of the state after the events of the lines before
pub report-after : (life : ℕ) (rates : List Rate) (lacks : List Bool) (ls rest : List (List ℕ))
    → (more : List ℕ)
    × (talk life rates start_of_script lacks (ls ++ codes "report" ∷ rest)
    ≡ talk life rates start_of_script lacks ls
    ++ (report (state_after rates (empty_state (version_of_script ls))
    (events_of life rates start_of_script lacks ls)).live ++ more))
report-after life rates lacks ls rest =
    let shown = report_by life rates start_of_script lacks ls rest in
    let state : State → Type 0 = λ s.
    talk life rates start_of_script lacks (ls ++ codes "report" ∷ rest)
    ≡ talk life rates start_of_script lacks ls ++ (report s.live ++ shown.0) in
    (shown.0, subst state (after-state life rates lacks ls) shown.1)
