-- A line that finds no memory says so. Take answers of which no line is `no 1 NoMemory`. They and the state are those
-- of a script that finds memory for each line.
use Rattle.std.specs.Prelude.{◌≡◌, ◌≢◌, ◌⊎◌, ℕ, Bool, true, false, List, [], ◌∷◌, ◌++◌, drop, map, flat_map, codes}
use Rattle.std.specs.Prelude.{◌&&◌, not, None, Some, is_none, Result, Ok, Err, refl}
use Rattle.std.specs.Fmt.{digits}
use Rattle.std.specs.List.{All, list_all}
use Rattle.std.proofs.Common.{ap, sym, ◌∙◌, subst, arith, append_assoc, cond, inl, inr}
use Rattle.std.proofs.lemmas.Bool.Decides.{nat_tests}
use Rattle.std.proofs.lemmas.Bool.{and_parts}
use Rattle.std.proofs.lemmas.List.Elements.{All-cons}
use Rattle.share_base.specs.declared.refusal.Refusal.{Refusal}
use Rattle.share_base.specs.declared.refusal.Refusal.TheVariants.{NoMemory}
use Rattle.share_base.specs.declared.command.Event.{Event}
use Rattle.share_base.specs.declared.version.Version.{Version}
use Rattle.share_base.specs.declared.command.Event.TheVariants.{Commanded, Arrived}
use Rattle.share_model.specs.declared.line.Line.{Line}
use Rattle.share_model.specs.declared.line.Line.TheVariants.{Change, Send, Turn, Torn, Report, Audit}
use Rattle.share_model.specs.declared.rates.Rate.{Rate}
use Rattle.share_model.specs.link.Live.{Live, life_is_spent}
use Rattle.share_model.specs.link.Commands.{takes_memory, command_refusal}
use Rattle.share_model.specs.link.Turns.{sending}
use Rattle.share_model.specs.link.Totals.{totals}
use Rattle.share_model.specs.lists.Each.{Each}
use Rattle.share_model.proofs.lemmas.text.LineFeedLemmas.{lines-feed}
use Rattle.share_model.specs.text.Lines.{reading}
use Rattle.share_model.specs.text.Report.{report, report_text, totals_text, flow_line, flow_shown}
use Rattle.share_model.specs.text.Talk.{Progress, Made, makes, says, chooses, refusal_line, is_syntax, finds_none}
use Rattle.share_model.specs.text.Talk.{line_event, read_event}
use Rattle.share_model.specs.text.Talk.{progress_and_text}
use Rattle.share_model.specs.text.Talk.{unless_over, write_event, fault_event, audit_event, is_first, answer}
use Rattle.share_model.specs.text.Talk.{first_flag, talk, after, is_feed, lines_of, FoundMemory}
use Rattle.share_model.specs.text.Texts.{outcome_text, line_text}

-- The lines of a text that a line feed ends

clean-all : (bs : List ℕ) → list_all (λ b. not (is_feed b)) bs ≡ true → All (λ b. is_feed b ≡ false) bs
clean-all [] h = λ k d z. absurd (omega arith)
clean-all (b ∷ bs) h =
    let both = and_parts _ _ h in
    All-cons (λ c. is_feed c ≡ false) b bs (no_feed b both.0) (clean-all bs both.1)
  where
    no_feed : (c : ℕ) → not (is_feed c) ≡ true → is_feed c ≡ false
    no_feed c h = grind (arith, nat_tests)

-- a text has no line feed, or a first one
data SplitLacks : List ℕ → Type 0 where
  no_feed : (bs : List ℕ) → All (λ b. is_feed b ≡ false) bs → SplitLacks bs
  at_feed : (bs front back : List ℕ) → All (λ b. is_feed b ≡ false) front → SplitLacks back → bs ≡ front ++ 10 ∷ back
      → SplitLacks bs

feed_is : (b : ℕ) → is_feed b ≡ true → b ≡ 10
feed_is b h = grind (arith, nat_tests)

split_step : (b : ℕ) (bs : List ℕ) (t : Bool) → is_feed b ≡ t → SplitLacks bs → SplitLacks (b ∷ bs)
split_step b bs true e s = at_feed (b ∷ bs) [] bs (λ k d h. absurd (omega arith)) s (ap (λ c. c ∷ bs) (feed_is b e))
split_step b bs false e (no_feed ds clean) = no_feed (b ∷ bs) (All-cons (λ c. is_feed c ≡ false) b bs e clean)
split_step b bs false e (at_feed ds front back clean s is) =
    at_feed (b ∷ bs) (b ∷ front) back (All-cons (λ c. is_feed c ≡ false) b front e clean) s (ap (λ r. b ∷ r) is)

split_of : (bs : List ℕ) → SplitLacks bs
split_of [] = no_feed [] (λ k d h. absurd (omega arith))
split_of (b ∷ bs) = split_step b bs _ refl (split_of bs)

-- a property of each line is one of those after the line feed
later_lines : (P : List ℕ → Type 0) (bs rest : List ℕ) → SplitLacks bs → Each P (lines_of (bs ++ 10 ∷ rest))
    → Each P (lines_of rest)
later_lines P bs rest (no_feed ds clean) each = (subst (Each P) (lines-feed bs rest clean) each).1
later_lines P bs rest (at_feed ds front back clean s is) each =
    let same : bs ++ 10 ∷ rest ≡ front ++ 10 ∷ (back ++ 10 ∷ rest) =
    ap (λ r. r ++ 10 ∷ rest) is ∙ append_assoc front (10 ∷ back) (10 ∷ rest) in
    let first = ap lines_of same ∙ lines-feed front (back ++ 10 ∷ rest) clean in
    later_lines P back rest s (subst (Each P) first each).1

-- Answers are whole lines

-- nothing, or a text that a line feed ends
data IsLines (text : List ℕ) : Type 0 where
  is_nothing : text ≡ [] → IsLines text
  is_ended : (bs : List ℕ) → text ≡ bs ++ 10 ∷ [] → IsLines text

later_found : (text rest : List ℕ) → IsLines text → FoundMemory (text ++ rest) → FoundMemory rest
later_found text rest (is_nothing none) found = subst (λ t. FoundMemory (t ++ rest)) none found
later_found text rest (is_ended bs ended) found =
    later_lines (λ line. line ≢ codes "no 1 NoMemory") bs rest (split_of bs)
    (subst FoundMemory (ap (λ t. t ++ rest) ended ∙ append_assoc bs (10 ∷ []) rest) found)

-- the texts without an event are whole lines, and so are the others
abbrev AreLines : Made → Type 0
AreLines (makes e) = Unit {0}
AreLines (says text) = IsLines text
AreLines (chooses version) = Unit {0}

line_whole : (o : _) → IsLines (line_text o)
unfolding line_text
line_whole o = is_ended (outcome_text o) refl

report_whole : (l : Live) → IsLines (report l)
unfolding report_text
report_whole l =
    let front = totals_text (totals l) ++ flat_map flow_line (map (flow_shown l) l.graph.flows) in
    is_ended (front ++ codes "end") (sym (append_assoc front (codes "end") (10 ∷ [])))

answered_whole : (rates : List Rate) (p : Progress) (r : Made) → AreLines r
    → IsLines (progress_and_text rates p r).1
answered_whole rates p (makes e) whole = line_whole _
answered_whole rates p (says text) whole = whole
answered_whole rates p (chooses version) whole = is_nothing refl

either_whole : (t : Bool) (r s : Made) → AreLines r → AreLines s → AreLines (cond t r s)
either_whole true r s one other = one
either_whole false r s one other = other

write_whole : (most : ℕ) (o : _) → AreLines (write_event most o)
write_whole most None = line_whole _
write_whole most (Some x) = tt

fault_whole : (o : _) → AreLines (fault_event o)
fault_whole None = line_whole _
fault_whole (Some x) = tt

audit_whole : (version : Version) (first : Bool) → AreLines (audit_event version first)
audit_whole version true = tt
audit_whole version false = line_whole _

module _ (life : ℕ) (rates : List Rate) (p : Progress) where
  over_whole : (r : Made) → AreLines r → AreLines (unless_over life p.state r)
  over_whole r whole =
      either_whole (life_is_spent life p.state.live) _ _ (line_whole _)
      (either_whole p.state.live.broken _ _ (line_whole _) whole)

  line_event_whole : (lack : Bool) (l : Line) → AreLines (line_event life rates p lack l)
  line_event_whole lack (Change c) =
      either_whole (life_is_spent life p.state.live) _ _ (line_whole _)
      (either_whole (finds_none lack rates p.state c) _ _ (line_whole _) tt)
  line_event_whole lack (Send flow body) =
      either_whole (life_is_spent life p.state.live) _ _ (line_whole _) (either_whole lack _ _ (line_whole _) tt)
  line_event_whole lack (Turn most) = over_whole _ (write_whole most (sending p.state.live))
  line_event_whole lack Torn = over_whole _ (fault_whole (sending p.state.live))
  line_event_whole lack Report = report_whole p.state.live
  line_event_whole lack (Audit version) = audit_whole version (is_first p)

  event_whole : (lack : Bool) (r : Result Line Refusal) → AreLines (read_event life rates p lack r)
  event_whole lack (Ok l) = line_event_whole lack l
  event_whole lack (Err e) =
      either_whole (is_syntax e) _ _ (line_whole _)
      (either_whole (life_is_spent life p.state.live) _ _ (line_whole _) (line_whole _))

  -- A flag that matters shows in the answer

  -- the same as if memory was found, or the answer that it was not
  abbrev IsTold : Made → Made → Type 0
  IsTold lacking found = (lacking ≡ found) ⊎ (lacking ≡ refusal_line NoMemory)

  change_told : (over takes none : Bool) (spent : List ℕ) (e : Event)
      → IsTold (cond over (says spent) (cond (takes && none) (refusal_line NoMemory) (makes e)))
      (cond over (says spent) (makes e))
  change_told true takes none spent e = inl refl
  change_told false false none spent e = inl refl
  change_told false true false spent e = inl refl
  change_told false true true spent e = inr refl

  send_told : (over : Bool) (spent : List ℕ) (e : Event)
      → IsTold (cond over (says spent) (refusal_line NoMemory)) (cond over (says spent) (makes e))
  send_told true spent e = inl refl
  send_told false spent e = inr refl

  line_told : (l : Line) → IsTold (line_event life rates p true l) (line_event life rates p false l)
  line_told (Change c) =
      change_told (life_is_spent life p.state.live) (takes_memory c) (is_none (command_refusal rates p.state.live c)) _
      (Commanded c)
  line_told (Send flow body) = send_told (life_is_spent life p.state.live) _ (Arrived flow body)
  line_told (Turn most) = inl refl
  line_told Torn = inl refl
  line_told Report = inl refl
  line_told (Audit version) = inl refl

  event_told : (r : Result Line Refusal) → IsTold (read_event life rates p true r) (read_event life rates p false r)
  event_told (Ok l) = line_told l
  event_told (Err e) = inl refl

  -- that answer is a line of the text
  told_found : (lacking found : Made) (rest : List ℕ) → IsTold lacking found
      → FoundMemory ((progress_and_text rates p lacking).1 ++ rest) → lacking ≡ found
  unfolding line_text digits
  told_found lacking found rest (inl same) none = same
  told_found lacking found rest (inr told) none =
      let line = codes "no 1 NoMemory" in
      let first = subst (λ r. FoundMemory ((progress_and_text rates p r).1 ++ rest)) told none in
      absurd ((subst (Each (λ l. l ≢ line)) (lines-feed line rest (clean-all line refl)) first).0 refl)

  flag_found : (lack : Bool) (r : Result Line Refusal) (rest : List ℕ)
      → FoundMemory ((progress_and_text rates p (read_event life rates p lack r)).1 ++ rest)
      → read_event life rates p lack r ≡ read_event life rates p false r
  flag_found true r rest none =
      told_found (read_event life rates p true r) (read_event life rates p false r) rest (event_told r) none
  flag_found false r rest none = refl

-- Whole scripts

-- the first line is answered as one that finds memory, and so are those after it
record FoundFirst (life : ℕ) (rates : List Rate) (p : Progress) (lack : Bool) (l : List ℕ) (rest : List ℕ) : Type 0
  where
    same : answer life rates p lack l ≡ answer life rates p false l
    later : FoundMemory rest

first_found : (life : ℕ) (rates : List Rate) (p : Progress) (lack : Bool) (l rest : List ℕ)
    → FoundMemory ((answer life rates p lack l).1 ++ rest) → FoundFirst life rates p lack l rest
unfolding answer
first_found life rates p lack l rest none = record {
  same = ap (progress_and_text rates p) (flag_found life rates p lack (reading p.state.live.version l) rest none);
  later =
      later_found _ rest
      (answered_whole rates p _ (event_whole life rates p lack (reading p.state.live.version l))) none;
}

-- the script is answered as one that finds memory for each of its lines, and comes to the same
pub record FoundAll (life : ℕ) (rates : List Rate) (p : Progress) (lacks : List Bool) (ls : List (List ℕ)) : Type 0
  where
    pub text : talk life rates p lacks ls ≡ talk life rates p [] ls
    pub state : after life rates p lacks ls ≡ after life rates p [] ls

pub talk-found : (life : ℕ) (rates : List Rate) (p : Progress) (lacks : List Bool) (ls : List (List ℕ))
    → FoundMemory (talk life rates p lacks ls) → FoundAll life rates p lacks ls
unfolding talk after
talk-found life rates p lacks [] none = record { text = refl; state = refl }
talk-found life rates p lacks (l ∷ ls) none =
    let next = (answer life rates p (first_flag lacks) l).0 in
    let first = first_found life rates p (first_flag lacks) l (talk life rates next (drop 1 lacks) ls) none in
    let rest = talk-found life rates next (drop 1 lacks) ls first.later in record {
      text =
          ap (λ t. (answer life rates p (first_flag lacks) l).1 ++ t) rest.text
          ∙ ap (λ (a : Progress × List ℕ). a.1 ++ talk life rates a.0 [] ls) first.same;
      state = rest.state ∙ ap (λ (a : Progress × List ℕ). after life rates a.0 [] ls) first.same;
    }
