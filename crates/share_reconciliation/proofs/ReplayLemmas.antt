-- The whole text of a book is an audit: as a script it makes the book's run again, and the bytes of its frames.
use Rattle.std.specs.Prelude.{◌≡◌, ◌≤◌, ℕ, Bool, List, [], ◌∷◌, ◌++◌, codes, drop, flat_map, length, map, take}
use Rattle.std.specs.Prelude.{Option, None, Some}
use Rattle.std.specs.List.{concat}
use Rattle.std.specs.Io.KnownBytes.{Appends}
use Rattle.std.proofs.Common.{refl, ap, sym, ◌∙◌, subst, arith, append_assoc}
use Rattle.std.proofs.lemmas.List.{append-nil, take_all}
use Rattle.std.proofs.lemmas.List.Folds.{concat-append}
use Rattle.share_base.specs.declared.command.Event.{Event}
use Rattle.share_base.specs.declared.command.Event.TheVariants.{Commanded, Arrived, Written, Faulted}
use Rattle.share_base.specs.declared.version.Version.TheVariants.{Two}
use Rattle.share_model.specs.declared.rates.Rate.{Rate}
use Rattle.share_model.specs.io.Told.{Told}
use Rattle.share_model.specs.link.Live.{Live}
use Rattle.share_model.specs.link.Tariff.{AreInRange}
use Rattle.share_model.specs.link.Turns.{Sending, frame_of, rest_of, sending}
use Rattle.share_model.specs.link.View.{LinkView}
use Rattle.share_model.specs.run.Events.{MayFollow, bytes_by, event_bytes}
use Rattle.share_model.specs.run.Fold.{State, empty_state, out, run, state_after, step}
use Rattle.share_model.specs.run.Sound.{SoundState}
use Rattle.share_model.specs.text.Audit.{IsAmple, audit, event_line, written_line}
use Rattle.share_model.specs.text.Talk.{FoundMemory, Progress, after, lines_of, start_of_script, talk}
use Rattle.share_model.specs.text.Talk.{version_of_script}
use Rattle.share_model.specs.text.Events.{events_of}
use Rattle.share_model.specs.text.Texts.{line_text}
use Rattle.share_model.proofs.lemmas.run.EventLemmas.{out-step, state-empty, state-step}
use Rattle.share_model.proofs.lemmas.text.AuditLemmas.{audit-replays}
use Rattle.share_model.proofs.lemmas.text.EventLemmas.{after-state}
use Rattle.share_model.proofs.lemmas.text.NoMemoryLemmas.{talk-found}
use Rattle.share_script.specs.Script.{IsOneFold}
use Rattle.share_book.specs.Audited.{Audited, IsRunAndText}
use Rattle.share_book.specs.BookEvents.{AreBookEvents, IsBookEvent, IsWholeFrame}
use Rattle.share_book.specs.Texts.{first_line, line_in}
use Rattle.share_book.specs.declared.book_text.TextKind.{TextKind}
use Rattle.share_book.specs.declared.book_text.TextKind.TheVariants.{Whole}
use Rattle.share_reconciliation.specs.Reconciled.{whole_text}
use Rattle.share_reconciliation.specs.Replayed.{IsBookAgain, IsReplayOfBook, book_bytes, frame_by, frames_by}
use Rattle.share_reconciliation.specs.Replayed.{frames_from}
use Rattle.share_reconciliation.specs.Replayed.{text_lines}

-- ---- The frames of a run

-- all bytes of a frame of which none is out
whole_rest : (s : Sending) (k : ℕ) → s.out ≡ 0 → k ≡ length (frame_of s) → take k (rest_of s) ≡ frame_of s
whole_rest s k unbegun whole =
    ap (λ n. take k (drop n (frame_of s))) unbegun
    ∙ take_all k (frame_of s) (omega (arith, whole))

written_bytes : (l : Live) (k : ℕ) → IsWholeFrame l k → bytes_by k (sending l) ≡ concat (frame_by (sending l))
written_bytes l k own =
    ap (bytes_by k) own.sends
    ∙ (whole_rest own.frame k own.unbegun own.whole
    ∙ (sym (append-nil (frame_of own.frame)) ∙ sym (ap (λ o. concat (frame_by o)) own.sends)))

own_bytes : (l : Live) (e : Event) → IsBookEvent l e → event_bytes l e ≡ concat (frames_by l e)
own_bytes l (Commanded c) own = refl
own_bytes l (Arrived flow body) own = refl
own_bytes l (Written k) own = written_bytes l k own
own_bytes l Faulted own = absurd own

module _ (life : ℕ) (rates : List Rate) (range : AreInRange rates) where
  -- the events of a book add the bytes of their frames
  frames_added : (s : State) (events : List Event) → SoundState life rates s → MayFollow life rates s events
      → AreBookEvents rates s events
      → out (state_after rates s events) ≡ out s ++ concat (frames_from rates s events)
  unfolding MayFollow AreBookEvents state_after frames_from
  frames_added s [] sound may own = sym (append-nil (out s))
  frames_added s (e ∷ es) sound may own =
      let next = step rates s e in
      let later = concat (frames_from rates next es) in
      frames_added next es (state-step range sound may.0 e may.1) may.2 own.1
      ∙ (ap (λ bytes. bytes ++ later) (out-step sound e may.1)
      ∙ (append_assoc (out s) (event_bytes s.live e) later
      ∙ (ap (λ bytes. out s ++ (bytes ++ later)) (own_bytes s.live e own.0)
      ∙ ap (λ bytes. out s ++ bytes) (sym (concat-append (frames_by s.live e) (frames_from rates next es))))))

nothing_out : out (empty_state Two) ≡ []
unfolding out
nothing_out = refl

-- ---- The text of a book

lines_written : (events : List Event) → flat_map (line_in Whole) events ≡ flat_map written_line (map event_line events)
lines_written [] = refl
lines_written (e ∷ es) = ap (λ rest. written_line (event_line e) ++ rest) (lines_written es)

audit_of : (events : List Event) → first_line Whole ++ flat_map (line_in Whole) events ≡ audit Two events
unfolding audit
audit_of events = ap (λ rest. first_line Whole ++ rest) (lines_written events)

module _ (a : Audited) (text : IsRunAndText a) (is_whole : a.kind ≡ Whole) where
  abbrev rates : List Rate
  rates = a.link.rates

  text_is : whole_text a text ≡ audit Two text.events
  text_is =
      text.text
      ∙ (ap (λ kind. first_line kind ++ flat_map (line_in kind) text.events) is_whole ∙ audit_of text.events)

  run_bytes : out (run Two rates text.events) ≡ book_bytes a text
  run_bytes =
      frames_added a.link.life rates text.run.range (empty_state Two) text.events (state-empty Two a.link.life rates)
      text.run.may text.own
      ∙ ap (λ bytes. bytes ++ book_bytes a text) nothing_out

  -- as a script that finds memory for each of its lines
  pub replay-ample : (life : ℕ) (lacks : List Bool) → a.link.life ≤ life → IsAmple lacks
      → IsReplayOfBook a text life lacks
  replay-ample life lacks longer ample =
      let answers = audit-replays Two a.link.life life rates text.events text.run.range text.run.may longer in
      let state = ap (λ bytes. (after life rates start_of_script lacks (lines_of bytes)).state) text_is
      ∙ answers.state lacks ample in
      record {
        answers =
            ap (λ bytes. talk life rates start_of_script lacks (lines_of bytes)) text_is
            ∙ (answers.text lacks ample ∙ ap (flat_map line_text) text.run.replies_are);
        live = ap (λ (s : State). s.live) state ∙ text.run.ends.live;
        bytes = ap out state ∙ run_bytes;
      }

  -- as one no line of whose answers says that memory was lacking
  pub replay-found : (life : ℕ) (lacks : List Bool) → a.link.life ≤ life
      → FoundMemory (talk life rates start_of_script lacks (text_lines a text)) → IsReplayOfBook a text life lacks
  replay-found life lacks longer found =
      let all = talk-found life rates start_of_script lacks (text_lines a text) found in
      let same = replay-ample life [] longer refl in
      record {
        answers = all.text ∙ same.answers;
        live = ap (λ (p : Progress). p.state.live) all.state ∙ same.live;
        bytes = ap (λ (p : Progress). out p.state) all.state ∙ same.bytes;
      }

  -- ---- The result of `run_script`

  module _ (before printed left : Option (List ℕ)) (old new : LinkView Told) (longer : a.link.life ≤ old.life)
      (same_rates : old.rates ≡ rates) (fold : IsOneFold before printed old (whole_text a text) left new)
      (found : FoundMemory (talk old.life old.rates start_of_script fold.lacks (text_lines a text))) where
    replay : IsReplayOfBook a text old.life fold.lacks
    replay =
        replay-found old.life fold.lacks longer
        (subst (λ (rs : List Rate). FoundMemory (talk old.life rs start_of_script fold.lacks (text_lines a text)))
        same_rates found)

    script_state : run (version_of_script (text_lines a text)) old.rates
        (events_of old.life old.rates start_of_script fold.lacks (text_lines a text))
        ≡ (after old.life rates start_of_script fold.lacks (text_lines a text)).state
    script_state =
        sym (after-state old.life old.rates fold.lacks (text_lines a text))
        ∙ ap (λ (rs : List Rate). (after old.life rs start_of_script fold.lacks (text_lines a text)).state) same_rates

    pub script-replays : IsBookAgain a text before printed new
    script-replays = record {
      answers =
          subst (λ text. Appends before printed text)
          (ap (λ (rs : List Rate). talk old.life rs start_of_script fold.lacks (text_lines a text)) same_rates
          ∙ replay.answers) fold.text;
      live = fold.keeps.holds ∙ (ap (λ (s : State). s.live) script_state ∙ replay.live);
      bytes = fold.keeps.bytes ∙ (ap out script_state ∙ replay.bytes);
    }
