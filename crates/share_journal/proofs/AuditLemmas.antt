-- The audit of a journal: how it is written, line by line, and what it comes to as a script.
use Rattle.std.proofs.Common.{◌≡◌, ◌≤◌, ℕ, Bool, List, [], ◌∷◌, ◌++◌, map, Option}
use Rattle.std.proofs.Common.{None, Some, sym, ◌∙◌, ap, subst, refl}
use Rattle.std.specs.Prelude.{IfSome, filter, flat_map, nat_lt}
use Rattle.std.specs.Io.KnownBytes.{Appends}
use Rattle.std.proofs.KnownBytes.{Appends-nil, Appends-trans}
use Rattle.std.proofs.lemmas.List.{map-append, append-nil}
use mathlib.Core.List.{append_assoc}
use Rattle.std.proofs.lemmas.Grind.{flat_map-append}
use Rattle.share_model.specs.io.Printing.{AppendsPart}
use Rattle.share_model.proofs.lemmas.io.PrintingLemmas.{part_after, part_longer}
use Rattle.share_model.specs.io.Told.{Told}
use Rattle.share_model.specs.link.View.{LinkView}
use Rattle.share_model.specs.run.Ends.{TellsRun}
use Rattle.share_model.specs.run.Events.{writes_in}
use Rattle.share_model.specs.run.Fold.{State, run, out}
use Rattle.share_model.specs.text.Audit.{event_line, written_line, audit, IsAmple}
use Rattle.share_model.proofs.lemmas.text.AuditLemmas.{lines-audit, audit-replays}
use Rattle.share_model.proofs.lemmas.text.NoMemoryLemmas.{talk-found}
use Rattle.share_model.specs.text.Talk.{Progress, start_of_script, talk, lines_of, FoundMemory}
use Rattle.share_model.specs.text.Texts.{line_text}
use Rattle.share_journal.specs.declared.entry.Entry.{Entry}
use Rattle.share_journal.specs.Entries.{events_in}
use Rattle.share_journal.specs.Records.{IsRunNow}
use Rattle.share_journal.specs.Replays.{IsReplayOf, audit_lines_of}

-- Entries that are written one after the other

-- the lines of the events of these entries
abbrev pub written : List Entry → List ℕ
written entries = flat_map written_line (map event_line (events_in entries))

written-append : (xs ys : List Entry) → written (xs ++ ys) ≡ written xs ++ written ys
written-append xs ys =
    ap (λ es. flat_map written_line (map event_line es)) (map-append (λ (e : Entry). e.event) xs ys)
    ∙ ap (flat_map written_line) (map-append event_line (events_in xs) (events_in ys))
    ∙ flat_map-append written_line (map event_line (events_in xs)) (map event_line (events_in ys))

-- those of these entries that are before the rest were written
pub record WrittenBefore (a now : Option (List ℕ)) (entries rest : List Entry) : Type 0 where
  pub front : List Entry
  pub are : front ++ rest ≡ entries
  pub appends : Appends a now (written front)

pub written_none : (a : Option (List ℕ)) (entries : List Entry) → WrittenBefore a a entries entries
written_none a entries = record { front = []; are = refl; appends = Appends-nil a }

-- the next one, and a longer front
with_next : (front rest after entries : List Entry) (e : Entry) → rest ≡ e ∷ after → front ++ rest ≡ entries
    → (front ++ e ∷ []) ++ after ≡ entries
with_next front rest after entries e is are =
    append_assoc front (e ∷ []) after ∙ ap (λ r. front ++ r) (sym is) ∙ are

written-next : (front : List Entry) (e : Entry)
    → written front ++ written_line (event_line e.event) ≡ written (front ++ e ∷ [])
written-next front e =
    ap (λ r. written front ++ r) (sym (append-nil (written_line (event_line e.event))))
    ∙ sym (written-append front (e ∷ []))

pub written_more : (a before now : Option (List ℕ)) (entries rest after : List Entry) (e : Entry) → rest ≡ e ∷ after
    → WrittenBefore a before entries rest → Appends before now (written_line (event_line e.event))
    → WrittenBefore a now entries after
written_more a before now entries rest after e is so h =
    let P : List ℕ → Type 0 = λ r. Appends a now r in record {
      front = so.front ++ e ∷ [];
      are = with_next so.front rest after entries e is so.are;
      appends = subst P (written-next so.front e) (Appends-trans a before now _ _ so.appends h);
    }

-- a beginning of the next line
pub written_part : (a before now : Option (List ℕ)) (entries rest after : List Entry) (e : Entry) → rest ≡ e ∷ after
    → WrittenBefore a before entries rest → AppendsPart before now (written_line (event_line e.event))
    → AppendsPart a now (written entries)
written_part a before now entries rest after e is so part =
    let P : List ℕ → Type 0 = λ r. AppendsPart a now r in
    let same : (written so.front ++ written_line (event_line e.event)) ++ written after ≡ written entries =
    ap (λ r. r ++ written after) (written-next so.front e) ∙ sym (written-append (so.front ++ e ∷ []) after)
    ∙ ap written (with_next so.front rest after entries e is so.are) in
    subst P same
    (part_longer a now _ (written after)
    (part_after a before now (written so.front) (written_line (event_line e.event)) so.appends part))

-- The outcome of the audit

pub told_bytes : (o : Option Told) (ks : List ℕ) (s t : State) → s ≡ t → IfSome o (TellsRun t ks)
    → IfSome o (λ r. r.bytes ≡ out s)
told_bytes None ks s t same tells = tt
told_bytes (Some r) ks s t same tells = tells.bytes ∙ ap out (sym same)

pub told_counts : (o : Option Told) (ks : List ℕ) (s : State) → IfSome o (TellsRun s ks)
    → IfSome o (λ r. filter (nat_lt 0) r.counts ≡ ks)
told_counts None ks s tells = tt
told_counts (Some r) ks s tells = tells.counts

pub replay : {W : Type 0} (told : W → Option Told) (link : LinkView W) (entries : List Entry)
    → IsRunNow told link entries → (life : ℕ) (lacks : List Bool) → link.life ≤ life → IsAmple lacks
    → IsReplayOf told link entries life lacks
replay told link entries was life lacks longer ample =
    let es = events_in entries in
    let answers = audit-replays link.live.version link.life life link.rates es was.range was.may longer in
    let state = answers.state lacks ample in record {
      lines = lines-audit link.live.version link.life link.rates es was.range was.may;
      text = answers.text lacks ample ∙ ap (flat_map line_text) was.replies_are;
      state = state;
      live = ap (λ (s : State). s.live) state ∙ was.ends.live;
      bytes = told_bytes (told link.writer) (writes_in es) _ (run link.live.version link.rates es) state was.tells;
    }

-- the same by the text that the audit is answered with, if no line of it says that memory was lacking
pub replay_told : {W : Type 0} (told : W → Option Told) (link : LinkView W) (entries : List Entry)
    → IsRunNow told link entries → (life : ℕ) (lacks : List Bool) → link.life ≤ life
    → FoundMemory (talk life link.rates start_of_script lacks (audit_lines_of link entries))
    → IsReplayOf told link entries life lacks
replay_told told link entries was life lacks longer found =
    let all = talk-found life link.rates start_of_script lacks (audit_lines_of link entries) found in
    let same = replay told link entries was life [] longer refl in
    let P : Progress → Type 0 = λ p. IfSome (told link.writer) (λ t. t.bytes ≡ out p.state) in record {
      lines = same.lines;
      text = all.text ∙ same.text;
      state = ap (λ (p : Progress). p.state) all.state ∙ same.state;
      live = ap (λ (p : Progress). p.state.live) all.state ∙ same.live;
      bytes = subst P (sym all.state) same.bytes;
    }
