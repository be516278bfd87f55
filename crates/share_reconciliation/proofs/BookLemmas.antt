-- The whole text of a book is the book of a bill, whose rows are those of the book's events.
use Rattle.std.specs.Prelude.{◌≡◌, ◌<◌, ◌≤◌, ℕ, true, List, [], ◌∷◌, ◌++◌, codes, flat_map, map, find, is_some}
use Rattle.std.specs.Prelude.{Option, None, Some, IfSome, Result, Ok, Err, MatchResult}
use Rattle.std.proofs.Common.{refl, ap, sym, ◌∙◌, subst, arith}
use Rattle.std.proofs.lemmas.List.{append-nil, map-id}
use Rattle.std.proofs.lemmas.List.Elements.{All-from_recursion}
use Rattle.share_base.specs.declared.command.Event.{Event}
use Rattle.share_base.specs.declared.command.Event.TheVariants.{Commanded, Arrived, Written, Faulted}
use Rattle.share_base.specs.declared.version.Version.TheVariants.{Two}
use Rattle.share_model.specs.declared.link.Book.{Book}
use Rattle.share_model.specs.declared.rates.Rate.{Rate}
use Rattle.share_model.specs.declared.reader.Got.{Got}
use Rattle.share_model.specs.link.Books.{account_in, account_of, is_book_of}
use Rattle.share_model.specs.link.Live.{Live}
use Rattle.share_model.specs.link.Tariff.{AreInRange}
use Rattle.share_model.specs.link.Totals.{totals}
use Rattle.share_model.specs.lists.Each.{Each}
use Rattle.share_model.specs.run.Events.{MayFollow}
use Rattle.share_model.specs.run.Fold.{State, empty_state, outcomes, run, state_after, step}
use Rattle.share_model.specs.run.History.{bill}
use Rattle.share_model.specs.run.Sound.{SoundState, max_life}
use Rattle.share_model.proofs.lemmas.link.VersionLemmas.{run-version}
use Rattle.share_model.proofs.lemmas.run.BillLemmas.{run-billed}
use Rattle.share_model.proofs.lemmas.run.EventLemmas.{state-empty, state-step, state_after-last}
use Rattle.share_script.specs.Script.{NoFeed}
use Rattle.share_bill.specs.Bills.{AreEvents, rows_of, sums_of}
use Rattle.share_bill.specs.Seen.{zeros_for}
use Rattle.share_bill.specs.Texts.{fed, text_of, BeginsAsBook, Bills, IsBook, IsWrongText}
use Rattle.share_bill.specs.declared.bill.kind.Kind.{Kind}
use Rattle.share_bill.specs.declared.bill.kind.Kind.TheVariants.{Whole, Lengths}
use Rattle.share_bill.specs.declared.bill.text.BookBill.{BookBill}
use Rattle.share_bill.specs.declared.bill.text.NotBilled.{NotBilled}
use Rattle.share_bill.specs.declared.bill.text.NotBilled.TheVariants.{Input, NoMemory, Line as LineFault}
use Rattle.share_bill.proofs.OneBillLemmas.{one-bill, none-wrong}
use Rattle.share_bill.proofs.SeenLemmas.{outcomes-seen, state_after-seen, step-seen, totals-seen, zeros-keep}
use Rattle.share_bill.proofs.SeenRowLemmas.{rows-measured}
use Rattle.share_book.specs.Audited.{Audited, IsRunAndText}
use Rattle.share_book.specs.BookEvents.{AreBookEvents}
use Rattle.share_book.specs.Texts.{first_line as first_of_text, line_in}
use Rattle.share_book.specs.declared.book_text.TextKind.{TextKind}
use Rattle.share_book.specs.declared.book_text.TextKind.TheVariants.{Whole as WholeText, Lengths as LengthsText}
use Rattle.share_reconciliation.specs.Reconciled.{IsBillOfBook, IsUnbilled, billed_kind, whole_text}
use Rattle.share_reconciliation.proofs.ReadBackLemmas.{event-may, event_for, line-clean, line-read, line_for, state_for}

-- ---- The text

line_fed : (kind : TextKind) (e : Event) → line_in kind e ≡ fed (line_for (billed_kind kind) e)
line_fed WholeText e = refl
line_fed LengthsText (Commanded c) = refl
line_fed LengthsText (Arrived flow body) = refl
line_fed LengthsText (Written k) = refl
line_fed LengthsText Faulted = refl

first_fed : (kind : TextKind) → first_of_text kind ≡ text_of (billed_kind kind) []
first_fed WholeText = refl
first_fed LengthsText = refl

-- the lines of events
abbrev pub lines_for : Kind → List Event → List (List ℕ)
lines_for kind events = map (line_for kind) events

lines_fed : (kind : TextKind) (events : List Event)
    → flat_map (line_in kind) events ≡ flat_map fed (lines_for (billed_kind kind) events)
lines_fed kind [] = refl
lines_fed kind (e ∷ es) =
    ap (λ line. line ++ flat_map (line_in kind) es) (line_fed kind e)
    ∙ ap (λ rest. fed (line_for (billed_kind kind) e) ++ rest) (lines_fed kind es)

text_fed : (kind : TextKind) (events : List Event)
    → first_of_text kind ++ flat_map (line_in kind) events
    ≡ text_of (billed_kind kind) (lines_for (billed_kind kind) events)
text_fed WholeText events = ap (λ rest. codes "audit 2\n" ++ rest) (lines_fed WholeText events)
text_fed LengthsText events = ap (λ rest. codes "lengths 2\n" ++ rest) (lines_fed LengthsText events)

-- ---- The events

abbrev pub events_for : Kind → List Event → List Event
events_for kind events = map (event_for kind) events

step_for : (kind : Kind) (rates : List Rate) (s : State) (e : Event)
    → step rates (state_for kind s) (event_for kind e) ≡ state_for kind (step rates s e)
step_for Whole rates s e = refl
step_for Lengths rates s e = step-seen zeros_for zeros-keep rates s e

-- a state that events led to
record Reached (rates : List Rate) (s : State) : Type 0 where
  before : List Event
  is : s ≡ run Two rates before

reached_version : (rates : List Rate) (s : State) → Reached rates s → s.live.version ≡ Two
reached_version rates s reached =
    ap (λ (t : State). t.live.version) reached.is ∙ run-version Two rates reached.before

reached_next : (rates : List Rate) (s : State) (e : Event) → Reached rates s → Reached rates (step rates s e)
reached_next rates s e reached = record {
  before = reached.before ++ e ∷ [];
  is = ap (λ (t : State). step rates t e) reached.is ∙ sym (state_after-last rates (empty_state Two) reached.before e);
}

-- the invariant of the lines of events: each is read as its event, none has a line feed, and the events are a run
record AreRead (kind : Kind) (rates : List Rate) (s : State) (events : List Event) : Type 0 where
  are : AreEvents kind rates (state_for kind s) (lines_for kind events) (events_for kind events)
  may : MayFollow max_life rates (state_for kind s) (events_for kind events)
  clean : Each NoFeed (lines_for kind events)

module _ (kind : Kind) (life : ℕ) (rates : List Rate) (range : AreInRange rates) (lasts : life ≤ max_life) where
  are_read : (s : State) (events : List Event) → Reached rates s → SoundState life rates s
      → MayFollow life rates s events → AreBookEvents rates s events → AreRead kind rates s events
  unfolding AreEvents AreBookEvents MayFollow
  are_read s [] reached sound may own = record { are = tt; may = tt; clean = tt }
  are_read s (e ∷ es) reached sound may own =
      let version = reached_version rates s reached in
      let few = may.0 in
      let below : s.live.counts.events < max_life = omega (arith, few, lasts) in
      let read = line-read s sound.live version below e may.1 own.0 kind in
      let later = are_read (step rates s e) es (reached_next rates s e reached) (state-step range sound may.0 e may.1)
      may.2 own.1 in
      let next = sym (step_for kind rates s e) in
      record {
        are = (
          read,
          subst (λ t. AreEvents kind rates t (lines_for kind es) (events_for kind es)) next later.are,
        );
        may = (
          below_for kind s below,
          event-may s sound.live version below e may.1 own.0 kind,
          subst (λ t. MayFollow max_life rates t (events_for kind es)) next later.may,
        );
        clean = (line-clean s.live sound.live version kind e may.1, later.clean);
      }
    where
      below_for : (k : Kind) (t : State) → t.live.counts.events < max_life
          → (state_for k t).live.counts.events < max_life
      below_for Whole t below = below
      below_for Lengths t below = below

empty_for : (kind : Kind) → state_for kind (empty_state Two) ≡ empty_state Two
empty_for Whole = refl
empty_for Lengths = refl

run_for : (kind : Kind) (rates : List Rate) (events : List Event)
    → run Two rates (events_for kind events) ≡ state_for kind (run Two rates events)
run_for Whole rates events = ap (run Two rates) (map-id events)
run_for Lengths rates events = state_after-seen zeros_for zeros-keep rates (empty_state Two) events

books_for : (kind : Kind) (s : State) → (state_for kind s).live.books ≡ s.live.books
books_for Whole s = refl
books_for Lengths s = refl

totals_for : (kind : Kind) (s : State) → totals (state_for kind s).live ≡ totals s.live
totals_for Whole s = refl
totals_for Lengths s = totals-seen zeros_for s.live

-- ---- A book

rows_for : (kind : Kind) (rates : List Rate) (events : List Event)
    → rows_of rates (events_for kind events) ≡ rows_of rates events
rows_for Whole rates events = ap (rows_of rates) (map-id events)
rows_for Lengths rates events = rows-measured rates events

replies_for : (kind : Kind) (rates : List Rate) (events : List Event)
    → outcomes rates (empty_state Two) (events_for kind events) ≡ outcomes rates (empty_state Two) events
replies_for Whole rates events = ap (outcomes rates (empty_state Two)) (map-id events)
replies_for Lengths rates events = outcomes-seen zeros_for zeros-keep rates (empty_state Two) events

module _ (a : Audited) (text : IsRunAndText a) where
  abbrev kind : Kind
  kind = billed_kind a.kind

  abbrev rates : List Rate
  rates = a.link.rates

  lines_read : AreRead kind rates (empty_state Two) text.events
  unfolding state_after
  lines_read =
      are_read kind a.link.life rates text.run.range text.lasts (empty_state Two) text.events
      (record { before = []; is = refl }) (state-empty Two a.link.life rates) text.run.may text.own

  pub book-of : BeginsAsBook rates (whole_text a text) kind
  book-of = record {
    lines = lines_for kind text.events;
    events = events_for kind text.events;
    rest = [];
    text = text.text ∙ (text_fed a.kind text.events ∙ sym (append-nil (text_of kind (lines_for kind text.events))));
    clean = lines_read.clean;
    are =
        subst (λ t. AreEvents kind rates t (lines_for kind text.events) (events_for kind text.events)) (empty_for kind)
        lines_read.are;
    may = subst (λ t. MayFollow max_life rates t (events_for kind text.events)) (empty_for kind) lines_read.may;
  }

  pub book-billed : IsBook rates (whole_text a text) kind (rows_of rates text.events) None
  unfolding book-of
  book-billed = record {
    book = book-of;
    clean = All-from_recursion _ [] tt;
    rows_are = sym (rows_for kind rates text.events);
    cut_is = refl;
  }

  -- the run of a bill has the replies of the book, its accounts and its totals
  module _ (events : List Event) (same : events ≡ book-billed.book.events) where
    seen_events : events ≡ events_for kind text.events
    unfolding book-billed book-of
    seen_events = same

    pub book-replies : outcomes rates (empty_state Two) events ≡ text.replies
    book-replies =
        ap (outcomes rates (empty_state Two)) seen_events
        ∙ (replies_for kind rates text.events ∙ text.run.replies_are)

    seen_run : run Two rates events ≡ state_for kind (run Two rates text.events)
    seen_run = ap (run Two rates) seen_events ∙ run_for kind rates text.events

    pub book-accounts : (run Two rates events).live.books ≡ a.link.live.books
    book-accounts =
        ap (λ (s : State). s.live.books) seen_run
        ∙ (books_for kind (run Two rates text.events) ∙ ap (λ (l : Live). l.books) text.run.ends.live)

    pub book-totals : totals (run Two rates events).live ≡ totals a.link.live
    book-totals =
        ap (λ (s : State). totals s.live) seen_run
        ∙ (totals_for kind (run Two rates text.events) ∙ ap totals text.run.ends.live)

  -- the amount that an open flow owes is its account
  account_due : (o : Option Book) (due : ℕ) → is_some o ≡ true → ((b : Book) → o ≡ Some b → b.account ≡ due)
      → due ≡ account_in o
  account_due None due there is = cc
  account_due (Some b) due there is = sym (is b refl)

  pub book-amounts : (flow : ℕ) → is_some (find (is_book_of flow) a.link.live.books) ≡ true
      → (sums_of rates (run Two rates text.events) flow).amount ≡ account_of a.link.live.books flow
  book-amounts flow there =
      account_due (find (is_book_of flow) a.link.live.books) (bill rates (run Two rates text.events) flow) there
      (λ b found.
      run-billed Two a.link.life rates text.events text.run.range text.run.may flow b
      (ap (λ (l : Live). find (is_book_of flow) l.books) text.run.ends.live ∙ found))

-- ---- The bill of a text

module _ {R : Type 0} (left : R → Option (List ℕ)) (gives : R → List ℕ → Got → R → Type 0) (first : R) (a : Audited)
    (text : IsRunAndText a) (known : left first ≡ Some (whole_text a text)) where
  of_text : (P : List ℕ → Type 0) → IfSome (left first) P → P (whole_text a text)
  of_text P is = subst (λ o. IfSome o P) known is

  pub bill-of : (result : Result BookBill NotBilled) → Bills left gives first a.link.rates result
      → MatchResult result (λ bill. IsBillOfBook a text bill) (λ fault. IsUnbilled gives first fault)
  bill-of (Ok bill) bills =
      let is = of_text (λ bytes. IsBook a.link.rates bytes bill.kind bill.rows.items bill.cut) bills in
      let same = one-bill a.link.rates (whole_text a text) bill.kind (billed_kind a.kind) bill.rows.items
      (rows_of a.link.rates text.events) bill.cut None is (book-billed a text) in
      record { kind = same.0; rows = same.1; uncut = same.2 }
  bill-of (Err Input) bills = bills
  bill-of (Err NoMemory) bills = tt
  bill-of (Err (LineFault number wrong)) bills =
      none-wrong a.link.rates (whole_text a text) (billed_kind a.kind) (rows_of a.link.rates text.events) None number
      wrong
      (book-billed a text) (of_text (λ bytes. IsWrongText a.link.rates bytes number wrong) bills)
