-- Each line that a book writes is read as its event, whose payload is seen by its length in a text of lengths.
use Rattle.std.specs.Prelude.{◌≡◌, ◌<◌, ◌≤◌, ◌&&◌, ℕ, Bool, true, false, List, [], ◌∷◌, ◌++◌, codes, decimal}
use Rattle.std.specs.Prelude.{drop, length, nat_le, replicate, take, option_map, None, Some, Result, Ok, Err}
use Rattle.std.specs.Prelude.{if◌then◌else◌}
use Rattle.std.specs.List.{join_with_byte, list_all}
use Rattle.std.specs.Str.{bytes_eq}
use Rattle.std.proofs.Common.{refl, ap, sym, ◌∙◌, subst, arith, cond}
use Rattle.std.proofs.lemmas.Bool.{cond-false, eq-eqb}
use Rattle.std.proofs.lemmas.Bool.Decides.{nat_tests}
use Rattle.std.proofs.lemmas.List.{length-drop, length-replicate}
use Rattle.std.proofs.lemmas.List.Elements.{All-from_recursion, All-replicate}
use Rattle.std.proofs.lemmas.List.Splits.{slice_split_at, slice_split_none}
use Rattle.std.proofs.lemmas.List.Sums.{list_all-from_AllPass}
use Rattle.share_base.specs.Body.{BodyView, unstamped}
use Rattle.share_base.specs.Version.{max_payload}
use Rattle.share_base.specs.declared.command.Command.{Command}
use Rattle.share_base.specs.declared.command.Command.TheVariants.{MakeCurrency, RemoveCurrency, MakeTicket}
use Rattle.share_base.specs.declared.command.Command.TheVariants.{RemoveTicket, FundCurrency, FundFlow, Unfund}
use Rattle.share_base.specs.declared.command.Command.TheVariants.{OpenFlow, CloseFlow, Hold, Resume, Amend}
use Rattle.share_base.specs.declared.command.Event.{Event}
use Rattle.share_base.specs.declared.command.Event.TheVariants.{Commanded, Arrived, Written, Faulted}
use Rattle.share_base.specs.declared.command.Reply.{Reply}
use Rattle.share_base.specs.declared.command.Reply.TheVariants.{Done, Ticket, Flow, Closed, Packet, Refused}
use Rattle.share_base.specs.declared.refusal.Refusal.TheVariants.{Range}
use Rattle.share_base.specs.declared.version.Version.TheVariants.{Two}
use Rattle.share_model.specs.declared.line.Line.{Line}
use Rattle.share_model.specs.declared.line.Line.TheVariants.{Change, Send, Turn}
use Rattle.share_model.specs.declared.rates.Rate.{Rate}
use Rattle.share_model.specs.link.Arrivals.{arrive_step}
use Rattle.share_model.specs.link.Fields.{IsName, IsNumber, is_byte}
use Rattle.share_model.specs.link.Live.{Live, life_is_spent}
use Rattle.share_model.specs.link.Turns.{Sending, frame_of, rest_of, sending}
use Rattle.share_model.specs.run.Events.{MayCome}
use Rattle.share_model.specs.run.Fold.{State}
use Rattle.share_model.specs.run.Sound.{Sound, max_life}
use Rattle.share_model.specs.text.Audit.{event_line}
use Rattle.share_model.specs.text.Lines.{HasFields, is_in_range, is_space, reading, spelling_of, words_of}
use Rattle.share_model.proofs.lemmas.run.SoundLinkLemmas.{rest-short, sending-short}
use Rattle.share_model.proofs.lemmas.text.AuditLemmas.{line-short}
use Rattle.share_model.proofs.lemmas.text.LineLemmas.{reading-line, number_of-decimal}
use Rattle.share_model.proofs.lemmas.text.WordLemmas.{name_of-name, no_space-decimal, no_space-name}
use Rattle.share_text.specs.Lengths.{length_of, length_words}
use Rattle.share_script.specs.Script.{NoFeed}
use Rattle.share_bill.specs.BookLines.{after_send, book_reading, event_by, event_of, measured_by, next_event, packet_by}
use Rattle.share_bill.specs.BookLines.{taken_by, unless_spent, written_by}
use Rattle.share_bill.specs.Seen.{seen_event, seen_link, seen_state, zeros_for}
use Rattle.share_bill.specs.declared.bill.kind.Kind.{Kind}
use Rattle.share_bill.specs.declared.bill.kind.Kind.TheVariants.{Whole, Lengths}
use Rattle.share_bill.specs.declared.bill.line.Wrong.{Wrong}
use Rattle.share_bill.specs.declared.bill.line.Wrong.TheVariants.{Spent as SpentLine, Sent as SentLine}
use Rattle.share_bill.proofs.SeenLemmas.{arrive-seen, frame_length-seen, seen_sending, sending-seen, zeros-keep}
use Rattle.share_book.specs.BookEvents.{IsBookEvent, IsTaken}
use Rattle.share_reconciliation.proofs.CleanLemmas.{packet-clean, spelled-clean}

-- ---- The spelling of an event

abbrev pub packet_line : List ℕ → ℕ → List ℕ
packet_line flow count = join_with_byte 32 (length_words flow count)

-- the line of an event, without its line feed
abbrev pub line_for : Kind → Event → List ℕ
line_for Whole e = spelling_of (event_line e)
line_for Lengths (Commanded c) = spelling_of (event_line (Commanded c))
line_for Lengths (Arrived flow body) = packet_line flow (length body.payload)
line_for Lengths (Written k) = spelling_of (event_line (Written k))
line_for Lengths Faulted = spelling_of (event_line Faulted)

-- the event that it is read as, and the state in which it is
abbrev pub event_for : Kind → Event → Event
event_for Whole e = e
event_for Lengths e = seen_event zeros_for e

abbrev pub state_for : Kind → State → State
state_for Whole s = s
state_for Lengths s = seen_state zeros_for s

-- ---- Fields

-- an event that may come in version 2 has fields that a line can spell, in range
event_fields : {life : ℕ} {rates : List Rate} (l : Live) → Sound life rates l → l.version ≡ Two → (e : Event)
    → MayCome l e → HasFields (event_line e) × (is_in_range Two (event_line e) ≡ true)
event_fields l sound version (Commanded c) may = (may, refl)
event_fields l sound version (Arrived flow body) may =
    let few = subst (λ v. length body.payload ≤ max_payload v) version may.1.few in
    ((may.0, (may.1.some, may.1.bytes), may.2), grind (arith, nat_tests))
event_fields l sound version (Written k) may =
    let rest = rest-short sound may.sends.is in
    let short = sending-short sound may.sends.is in
    let fits = may.fits in
    let some = may.some in
    let few : k ≤ 9017 = omega (arith, rest, short, fits) in
    (omega (arith, few), in_range some few)
  where
    in_range : 0 < k → k ≤ 9017 → (nat_le 1 k && nat_le k 65535) ≡ true
    in_range some few = grind (arith, nat_tests)
event_fields l sound version Faulted may = (tt, refl)

reads_line : (l : Line) → HasFields l → is_in_range Two l ≡ true → reading Two (spelling_of l) ≡ Ok l
reads_line l fields range =
    reading-line Two l (record { fields = fields; short = line-short Two l fields range })
    ∙ ap (λ b. cond b (Ok l) (Err Range)) range

-- ---- Lines of a text of lengths

and_false : (a b : Bool) → b ≡ false → (a && b) ≡ false
and_false true b other = other
and_false false b other = refl

-- a line of another keyword is read as in a whole text
other_word : (bs : List ℕ) → bytes_eq (take 5 bs) (codes "send ") ≡ false → book_reading Lengths bs ≡ reading Two bs
other_word bs other =
    ap (λ b. measured_by bs (if b then Some (drop 5 bs) else None))
    (and_false (nat_le 5 (length bs)) (bytes_eq (take 5 bs) (codes "send ")) other)

command_word : (c : Command) → bytes_eq (take 5 (spelling_of (Change c))) (codes "send ") ≡ false
command_word (MakeCurrency name) = refl
command_word (RemoveCurrency name) = refl
command_word (MakeTicket amount currency) = refl
command_word (RemoveTicket ticket) = refl
command_word (FundCurrency ticket currency) = refl
command_word (FundFlow ticket flow) = refl
command_word (Unfund ticket) = refl
command_word (OpenFlow name limit tariff) = refl
command_word (CloseFlow name) = refl
command_word (Hold name) = refl
command_word (Resume name) = refl
command_word (Amend ticket amount) = refl

after_word : (rest : List ℕ) → after_send (codes "send " ++ rest) ≡ Some rest
after_word rest =
    let long : nat_le 5 (length (codes "send " ++ rest)) ≡ true = grind (arith, nat_tests) in
    ap
    (λ b. if b && bytes_eq (take 5 (codes "send " ++ rest)) (codes "send ") then Some (drop 5 (codes "send " ++ rest))
    else None) long

two_words : (name : List ℕ) (n : ℕ) → IsName name → IsNumber n
    → words_of (name ++ 32 ∷ decimal n) ≡ name ∷ decimal n ∷ []
two_words name n is_name is_number =
    slice_split_at is_space name 32 (decimal n) (All-from_recursion _ name (no_space-name name is_name)) refl
    ∙ ap (λ ws. name ∷ ws)
    (slice_split_none is_space (decimal n) (All-from_recursion _ (decimal n) (no_space-decimal n is_number)))

words_read : (name : List ℕ) (n : ℕ) → IsName name → IsNumber n
    → length_of (name ∷ decimal n ∷ []) ≡ Some record { flow = name; count = n }
words_read name n is_name is_number = rw (name_of-name name is_name, number_of-decimal n is_number) refl

packet_reads : (name : List ℕ) (n : ℕ) → IsName name → 1 ≤ n → n ≤ 9000
    → book_reading Lengths (packet_line name n) ≡ Ok (Send name (unstamped (replicate n 0)))
packet_reads name n is_name some few =
    let is_number : IsNumber n = omega (arith, few) in
    let range : (nat_le 1 n && nat_le n 9000) ≡ true = grind (arith, nat_tests) in
    ap (measured_by (packet_line name n)) (after_word (name ++ 32 ∷ decimal n))
    ∙ (ap (λ ws. packet_by (length_of ws)) (two_words name n is_name is_number)
    ∙ (ap packet_by (words_read name n is_name is_number)
    ∙ ap (λ b. if b then Ok (Send name (unstamped (replicate n 0))) else Err Range) range))

-- ---- The reading of a line

module _ {life : ℕ} {rates : List Rate} (l : Live) (sound : Sound life rates l) (version : l.version ≡ Two) where
  spelled_reads : (e : Event) → MayCome l e → reading Two (spelling_of (event_line e)) ≡ Ok (event_line e)
  spelled_reads e may =
      let fields = event_fields l sound version e may in reads_line (event_line e) fields.0 fields.1

  arrived_few : (flow : List ℕ) (body : BodyView) → MayCome l (Arrived flow body) → length body.payload ≤ 9000
  arrived_few flow body may = subst (λ v. length body.payload ≤ max_payload v) version may.1.few

  measured_reads : (e : Event) → MayCome l e → IsBookEvent l e
      → book_reading Lengths (line_for Lengths e) ≡ Ok (event_line (seen_event zeros_for e))
  measured_reads (Commanded c) may own =
      other_word (spelling_of (Change c)) (command_word c) ∙ spelled_reads (Commanded c) may
  measured_reads (Arrived flow body) may own =
      packet_reads flow (length body.payload) may.0 may.1.some (arrived_few flow body may)
  measured_reads (Written k) may own = other_word (spelling_of (Turn k)) refl ∙ spelled_reads (Written k) may
  measured_reads Faulted may own = absurd own

  reads : (kind : Kind) (e : Event) → MayCome l e → IsBookEvent l e
      → book_reading kind (line_for kind e) ≡ Ok (event_line (event_for kind e))
  reads Whole e may own = spelled_reads e may
  reads Lengths e may own = measured_reads e may own

  -- ---- Lines without a line feed

  pub line-clean : (kind : Kind) (e : Event) → MayCome l e → NoFeed (line_for kind e)
  line-clean Whole e may = spelled-clean (event_line e) (event_fields l sound version e may).0
  line-clean Lengths (Commanded c) may =
      spelled-clean (Change c) (event_fields l sound version (Commanded c) may).0
  line-clean Lengths (Arrived flow body) may =
      let few = arrived_few flow body may in
      packet-clean flow (length body.payload) may.0 (omega (arith, few))
  line-clean Lengths (Written k) may = spelled-clean (Turn k) (event_fields l sound version (Written k) may).0
  line-clean Lengths Faulted may = spelled-clean (event_line Faulted) tt

-- ---- The event of a line

taken_event : (flow : List ℕ) (body : BodyView) (r : Reply) → IsTaken r → taken_by flow body r ≡ Ok (Arrived flow body)
taken_event flow body (Packet number seq) taken = refl
taken_event flow body (Refused why) taken = absurd taken
taken_event flow body Done taken = absurd taken
taken_event flow body (Ticket number) taken = absurd taken
taken_event flow body (Flow number) taken = absurd taken
taken_event flow body (Closed number dropped account) taken = absurd taken

-- a link whose life lasts, which makes an event of a book
module _ (l : Live) (below : l.counts.events < max_life) where
  living : life_is_spent max_life l ≡ false
  living = grind (arith, nat_tests)

  unspent : (found : Result Event Wrong) (e : Event) → found ≡ Ok e → unless_spent l found ≡ Ok e
  unspent found e is = cond-false (life_is_spent max_life l) (Err SpentLine) found living ∙ is

  written_event : (k : ℕ) (s : Sending) → sending l ≡ Some s → s.out ≡ 0 → length (frame_of s) ≡ k
      → written_by k (sending l) ≡ Ok (Written k)
  written_event k s sends unbegun whole =
      let n = length-drop s.out (frame_of s) in
      let rest : length (rest_of s) ≡ k = omega (arith, n, unbegun, whole) in
      ap (written_by k) sends
      ∙ ap (λ b. if b then Ok (Written k) else Err (SentLine (length (rest_of s)))) (eq-eqb (length (rest_of s)) k rest)

  event_spelled : (e : Event) → IsBookEvent l e → event_of l (event_line e) ≡ Ok e
  event_spelled (Commanded c) own = unspent (Ok (Commanded c)) (Commanded c) refl
  event_spelled (Arrived flow body) own =
      unspent (taken_by flow body (arrive_step l flow body.payload).1) (Arrived flow body)
      (taken_event flow body (arrive_step l flow body.payload).1 own)
  event_spelled (Written k) own =
      unspent (written_by k (sending l)) (Written k) (written_event k own.frame own.sends own.unbegun (sym own.whole))
  event_spelled Faulted own = absurd own

-- the view of an event of a book is one of the view of the link
pub own-seen : (l : Live) (e : Event) → IsBookEvent l e → IsBookEvent (seen_link zeros_for l) (seen_event zeros_for e)
own-seen l (Commanded c) own = tt
own-seen l (Arrived flow body) own =
    subst IsTaken (sym (ap (λ (d : Live × Reply). d.1) (arrive-seen zeros_for l flow body.payload))) own
own-seen l (Written k) own = record {
  frame = seen_sending zeros_for own.frame;
  sends = sending-seen zeros_for l ∙ ap (option_map (seen_sending zeros_for)) own.sends;
  unbegun = own.unbegun;
  whole = own.whole ∙ sym (frame_length-seen zeros_for zeros-keep own.frame.version own.frame.tariff own.frame.head);
}
own-seen l Faulted own = absurd own

-- and may come there
zero_bytes : (n : ℕ) → list_all is_byte (replicate n 0) ≡ true
zero_bytes n = list_all-from_AllPass is_byte (replicate n 0) (All-replicate (λ b. is_byte b ≡ true) n 0 refl)

pub may-seen : (l : Live) (e : Event) → IsBookEvent l e → MayCome l e
    → MayCome (seen_link zeros_for l) (seen_event zeros_for e)
may-seen l (Commanded c) own may = may
may-seen l (Arrived flow body) own may =
    let n = length-replicate {A = ℕ} (length body.payload) 0 in
    let some = may.1.some in
    let few = may.1.few in (
      may.0,
      record {
        some = omega (arith, n, some);
        few = omega (arith, n, few);
        bytes = zero_bytes (length body.payload);
      },
      refl,
    )
may-seen l (Written k) own may =
    let frame = may.sends.is in
    let seen = seen_sending zeros_for may.frame in
    let n = length-drop may.frame.out (frame_of may.frame) in
    let m = length-drop may.frame.out (frame_of seen) in
    let same = frame_length-seen zeros_for zeros-keep may.frame.version may.frame.tariff may.frame.head in
    let fits = may.fits in
    record {
      frame = seen;
      sends = record {
        unbroken = may.sends.unbroken;
        is = sending-seen zeros_for l ∙ ap (option_map (seen_sending zeros_for)) frame;
      };
      some = may.some;
      fits = omega (arith, n, m, same, fits);
    }
may-seen l Faulted own may = absurd own

module _ {life : ℕ} {rates : List Rate} (s : State) (sound : Sound life rates s.live) (version : s.live.version ≡ Two)
    (below : s.live.counts.events < max_life) (e : Event) (may : MayCome s.live e) (own : IsBookEvent s.live e) where
  event_made : (kind : Kind) → event_of (state_for kind s).live (event_line (event_for kind e)) ≡ Ok (event_for kind e)
  event_made Whole = event_spelled s.live below e own
  event_made Lengths =
      event_spelled (seen_link zeros_for s.live) below (seen_event zeros_for e) (own-seen s.live e own)

  -- the line of an event is the next one of the book
  pub line-read : (kind : Kind) → next_event kind (state_for kind s).live (line_for kind e) ≡ Ok (event_for kind e)
  unfolding next_event
  line-read kind = ap (event_by (state_for kind s).live) (reads s.live sound version kind e may own) ∙ event_made kind

  pub event-may : (kind : Kind) → MayCome (state_for kind s).live (event_for kind e)
  event-may Whole = may
  event-may Lengths = may-seen s.live e own may
