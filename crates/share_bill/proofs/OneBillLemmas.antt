-- A text falls into lines in one way, so it has one bill, and no line of a bill is wrong.
use Rattle.std.specs.Prelude.{◌≡◌, ◌≤◌, ◌+◌, ◌&&◌, ℕ, Bool, true, false, List, [], ◌∷◌, ◌++◌, flat_map, length}
use Rattle.std.specs.Prelude.{get_or, nat_le, take, drop, codes, decimal, Option, None, Some, Result, Ok, Err}
use Rattle.std.specs.Prelude.{if◌then◌else◌}
use Rattle.std.specs.List.{slice_split, join_with_byte}
use Rattle.std.specs.Str.{bytes_eq}
use mathlib.Core.List.{append_assoc}
use Rattle.std.proofs.Common.{suc, refl, ap, sym, ◌∙◌, subst, arith, inl, inr}
use Rattle.std.proofs.Math.Seq.{drop-append_seam, get_or-append_seam}
use Rattle.std.proofs.lemmas.List.{length-append, length-drop}
use Rattle.std.proofs.lemmas.List.Elements.{All-from_recursion}
use Rattle.std.proofs.lemmas.List.Splits.{slice_split_at, join_with_byte-slice_split}
use Rattle.std.proofs.lemmas.Option.{same_Some}
use Rattle.share_base.specs.declared.command.Command.TheVariants.{MakeTicket}
use Rattle.share_base.specs.declared.command.Event.{Event}
use Rattle.share_base.specs.declared.refusal.Refusal.{Refusal}
use Rattle.share_base.specs.declared.version.Version.TheVariants.{Two}
use Rattle.share_model.specs.declared.line.Line.{Line}
use Rattle.share_model.specs.declared.line.Line.TheVariants.{Change}
use Rattle.share_model.specs.declared.rates.Rate.{Rate}
use Rattle.share_model.specs.link.Live.{Live}
use Rattle.share_model.specs.lists.Each.{Each}
use Rattle.share_model.specs.run.Fold.{State, empty_state, step, state_after, run}
use Rattle.share_model.specs.text.Lines.{IsName, IsNumber, name_of, number_of, with_rest, words_of}
use Rattle.share_model.specs.text.Talk.{is_feed}
use Rattle.share_model.proofs.lemmas.text.AuditLemmas.{line-short}
use Rattle.share_model.proofs.lemmas.text.LineLemmas.{reading-spelling_of}
use Rattle.share_model.proofs.lemmas.text.WordLemmas.{name_of-only, number_of-only}
use Rattle.share_text.specs.Lengths.{length_of, length_by, length_for}
use Rattle.share_script.specs.Script.{NoFeed}
use Rattle.share_text.specs.Words.{last}
use Rattle.share_text.specs.declared.lengths.Length.{Length}
use Rattle.share_bill.specs.declared.bill.kind.Kind.{Kind}
use Rattle.share_bill.specs.declared.bill.kind.Kind.TheVariants.{Whole, Lengths}
use Rattle.share_bill.specs.declared.bill.line.Wrong.{Wrong}
use Rattle.share_bill.specs.declared.bill.running.TenantBill.{TenantBill}
use Rattle.share_bill.specs.Bills.{AreEvents, rows_of}
use Rattle.share_bill.specs.BookLines.{first_line, kind_of, after_send, packet_by, measured_by, book_reading}
use Rattle.share_bill.specs.BookLines.{event_by, next_event}
use Rattle.share_bill.specs.Texts.{fed, text_of, next_number, cut_of, BeginsAsBook, IsBook, IsWrongText, IsNoFirst}
use Rattle.share_bill.specs.Texts.{other_first, first_long, no_first, IsLongNext, IsNext, IsWrongNext}
use Rattle.share_bill.proofs.TextLemmas.{no_feed_at}

-- ---- The first line of a text

first_of : List (List ℕ) → List ℕ
first_of [] = []
first_of (x ∷ xs) = x

cut_at : (line rest : List ℕ) → NoFeed line → slice_split is_feed (line ++ 10 ∷ rest) ≡ line ∷ slice_split is_feed rest
cut_at line rest clean = slice_split_at is_feed line 10 rest clean refl

-- two ways to cut the first line are one
same_line : (one other x y : List ℕ) → NoFeed one → NoFeed other → one ++ 10 ∷ x ≡ other ++ 10 ∷ y → one ≡ other
unfolding first_of
same_line one other x y clean both same =
    ap first_of (sym (cut_at one x clean) ∙ (ap (slice_split is_feed) same ∙ cut_at other y both))

same_rest : (one other x y : List ℕ) → one ≡ other → one ++ 10 ∷ x ≡ other ++ 10 ∷ y → x ≡ y
same_rest one other x y is same =
    let here : one ++ 10 ∷ x ≡ one ++ 10 ∷ y = same ∙ ap (λ l. l ++ 10 ∷ y) (sym is) in
    ap (drop 1)
    (sym (drop-append_seam one (10 ∷ x)) ∙ (ap (drop (length one)) here ∙ drop-append_seam one (10 ∷ y)))

-- bytes without a line feed have no line
no_line : (line x rest : List ℕ) → NoFeed rest → rest ≡ line ++ 10 ∷ x → ⊥
no_line line x rest clean is =
    let n = ap length is ∙ length-append line (10 ∷ x) in
    no_feed_at rest (length line) clean (omega (arith, n))
    (ap (λ bs. get_or bs (length line) 0) is ∙ get_or-append_seam line 10 x 0)

-- lines and what is after them
fed_first : (line x : List ℕ) → fed line ++ x ≡ line ++ 10 ∷ x
fed_first line x = append_assoc line (10 ∷ []) x

lines_first : (line : List ℕ) (lines : List (List ℕ)) (rest : List ℕ)
    → flat_map fed (line ∷ lines) ++ rest ≡ line ++ 10 ∷ (flat_map fed lines ++ rest)
lines_first line lines rest =
    append_assoc (fed line) (flat_map fed lines) rest ∙ fed_first line (flat_map fed lines ++ rest)

text_first : (kind : Kind) (lines : List (List ℕ)) (rest : List ℕ)
    → text_of kind lines ++ rest ≡ first_line kind ++ 10 ∷ (flat_map fed lines ++ rest)
text_first kind lines rest =
    append_assoc (fed (first_line kind)) (flat_map fed lines) rest
    ∙ fed_first (first_line kind) (flat_map fed lines ++ rest)

clean_first : (kind : Kind) → NoFeed (first_line kind)
clean_first Whole = All-from_recursion (λ b. is_feed b ≡ false) (codes "audit 2")
    (refl, (refl, (refl, (refl, (refl, (refl, (refl, tt)))))))
clean_first Lengths = All-from_recursion (λ b. is_feed b ≡ false) (codes "lengths 2")
    (refl, (refl, (refl, (refl, (refl, (refl, (refl, (refl, (refl, tt)))))))))

kind_first : (kind : Kind) → kind_of (first_line kind) ≡ Some kind
kind_first Whole = refl
kind_first Lengths = refl

short_first : (kind : Kind) → length (first_line kind) ≤ 20480
short_first Whole = omega arith
short_first Lengths = omega arith

-- ---- The lengths of the lines of a book

after_by : (b : Bool) (bs rest : List ℕ) → (if b then Some (drop 5 bs) else None) ≡ Some rest → drop 5 bs ≡ rest
after_by true bs rest is = same_Some (drop 5 bs) rest is
after_by false bs rest is = cc

after_few : (bs rest : List ℕ) → after_send bs ≡ Some rest → length bs ≤ length rest + 5
after_few bs rest is =
    let n = length-drop 5 bs in
    let same = ap length
    (after_by (nat_le 5 (length bs) && bytes_eq (take 5 bs) (codes "send ")) bs rest is) in
    omega (arith, n, same)

-- the line of a ticket is one byte longer
packet_few : (name : List ℕ) (count : ℕ) → IsName name → IsNumber count
    → length name + length (decimal count) ≤ 20473
packet_few name count is_name is_number =
    let short = line-short Two (Change (MakeTicket count name)) (is_number, is_name) refl in
    let all = length-append (decimal count) (32 ∷ name) in
    omega (arith, short, all)

module _ (found : Length) where
  count_few : (name w : List ℕ) (o : Option ℕ) → IsName name → number_of w ≡ o → length_for name o ≡ Some found
      → length name + length w ≤ 20473
  count_few name w None is_name reads is = cc
  count_few name w (Some n) is_name reads is =
      let only = number_of-only w n reads in
      subst (λ v. length name + length v ≤ 20473) (sym only.1) (packet_few name n is_name only.0)

  last_few : (name w : List ℕ) (ws : List (List ℕ)) → IsName name → length_for name (last number_of ws) ≡ Some found
      → length (join_with_byte 32 (name ∷ ws)) ≤ 20474
  last_few name w [] is_name is = cc
  last_few name w (v ∷ []) is_name is =
      let few = count_few name v (number_of v) is_name refl is in
      let all = length-append name (32 ∷ v) in
      omega (arith, few, all)
  last_few name w (v ∷ u ∷ ws) is_name is = cc

  name_few : (w : List ℕ) (ws : List (List ℕ)) (o : Option (List ℕ)) → name_of w ≡ o
      → length_by (with_rest ws o) ≡ Some found → length (join_with_byte 32 (w ∷ ws)) ≤ 20474
  name_few w ws None reads is = cc
  name_few w ws (Some name) reads is =
      let only = name_of-only w name reads in
      subst (λ v. length (join_with_byte 32 (v ∷ ws)) ≤ 20474) (sym only.1) (last_few name w ws only.0 is)

  words_few : (ws : List (List ℕ)) → length_of ws ≡ Some found → length (join_with_byte 32 ws) ≤ 20474
  words_few [] is = cc
  words_few (w ∷ ws) is = name_few w ws (name_of w) refl is

packet_read : (o : Option Length) (line : Line) → packet_by o ≡ Ok line → (found : Length) × (o ≡ Some found)
packet_read None line is = cc
packet_read (Some found) line is = (found, refl)

whole_few : (bs : List ℕ) (line : Line) → book_reading Whole bs ≡ Ok line → length bs ≤ 20480
whole_few bs line is =
    let reads = reading-spelling_of Two bs line is in
    subst (λ w. length w ≤ 20480) reads.spells reads.line.short

measured_few : (bs : List ℕ) (o : Option (List ℕ)) (line : Line) → after_send bs ≡ o → measured_by bs o ≡ Ok line
    → length bs ≤ 20480
measured_few bs None line after is = whole_few bs line is
measured_few bs (Some rest) line after is =
    let packet = packet_read (length_of (words_of rest)) line is in
    let few = words_few packet.0 (words_of rest) packet.1 in
    let same = ap length (join_with_byte-slice_split 32 rest) in
    let all = after_few bs rest after in
    omega (arith, few, same, all)

reading_few : (kind : Kind) (bs : List ℕ) (line : Line) → book_reading kind bs ≡ Ok line → length bs ≤ 20480
reading_few Whole bs line is = whole_few bs line is
reading_few Lengths bs line is = measured_few bs (after_send bs) line refl is

event_few : (kind : Kind) (l : Live) (bs : List ℕ) (r : Result Line Refusal) (e : Event) → book_reading kind bs ≡ r
    → event_by l r ≡ Ok e → length bs ≤ 20480
event_few kind l bs (Ok line) e reads is = reading_few kind bs line reads
event_few kind l bs (Err why) e reads is = cc

line_few : (kind : Kind) (l : Live) (bs : List ℕ) (e : Event) → next_event kind l bs ≡ Ok e → length bs ≤ 20480
unfolding next_event
line_few kind l bs e is = event_few kind l bs (book_reading kind bs) e refl is

-- ---- One run

made_in : Event → Result Event Wrong → Event
made_in e (Ok found) = found
made_in e (Err why) = e

ok_event : (one other : Event) (r : Result Event Wrong) → r ≡ Ok one → r ≡ Ok other → one ≡ other
unfolding made_in
ok_event one other r is also = ap (made_in one) (sym is ∙ also)

pub record AreSame (lines others : List (List ℕ)) (events also : List Event) (rest left : List ℕ) : Type 0 where
  pub lines_are : lines ≡ others
  pub events_are : events ≡ also
  pub rest_is : rest ≡ left

module _ (kind : Kind) (rates : List Rate) where
  same_run : (s : State) (lines others : List (List ℕ)) (events also : List Event) (rest left : List ℕ)
      → Each NoFeed lines → Each NoFeed others → NoFeed rest → NoFeed left
      → AreEvents kind rates s lines events → AreEvents kind rates s others also
      → flat_map fed lines ++ rest ≡ flat_map fed others ++ left → AreSame lines others events also rest left
  unfolding AreEvents
  same_run s [] [] [] [] rest left clean both end ends are same text =
      record { lines_are = refl; events_are = refl; rest_is = text }
  same_run s [] (m ∷ ms) [] (f ∷ fs) rest left clean both end ends are same text =
      absurd (no_line m (flat_map fed ms ++ left) rest end (text ∙ lines_first m ms left))
  same_run s (l ∷ ls) [] (e ∷ es) [] rest left clean both end ends are same text =
      absurd (no_line l (flat_map fed ls ++ rest) left ends (sym text ∙ lines_first l ls rest))
  same_run s (l ∷ ls) (m ∷ ms) (e ∷ es) (f ∷ fs) rest left clean both end ends are same text =
      let whole = sym (lines_first l ls rest) ∙ (text ∙ lines_first m ms left) in
      let line = same_line l m (flat_map fed ls ++ rest) (flat_map fed ms ++ left) clean.0 both.0 whole in
      let event = ok_event e f (next_event kind s.live l) are.0 (ap (next_event kind s.live) line ∙ same.0) in
      let later = same_run (step rates s e) ls ms es fs rest left clean.1 both.1 end ends are.1
      (subst (λ (g : Event). AreEvents kind rates (step rates s g) ms fs) (sym event) same.1)
      (same_rest l m (flat_map fed ls ++ rest) (flat_map fed ms ++ left) line whole) in
      record {
        lines_are = ap (λ k. k ∷ ls) line ∙ ap (λ ks. m ∷ ks) later.lines_are;
        events_are = ap (λ g. g ∷ es) event ∙ ap (λ gs. f ∷ gs) later.events_are;
        rest_is = later.rest_is;
      }
  same_run s [] others (e ∷ es) also rest left clean both end ends are same text = absurd are
  same_run s (l ∷ ls) others [] also rest left clean both end ends are same text = absurd are
  same_run s lines [] events (f ∷ fs) rest left clean both end ends are same text = absurd same
  same_run s lines (m ∷ ms) events [] rest left clean both end ends are same text = absurd same

-- ---- Two books of one text

same_kind : (one other : Kind) → first_line one ≡ first_line other → one ≡ other
same_kind one other same =
    same_Some one other (sym (kind_first one) ∙ (ap kind_of same ∙ kind_first other))

module _ (rates : List Rate) (bytes : List ℕ) where
  kind_same : (kind other : Kind) (lines others : List (List ℕ)) (rest left : List ℕ)
      → bytes ≡ text_of kind lines ++ rest → bytes ≡ text_of other others ++ left → kind ≡ other
  kind_same kind other lines others rest left text also =
      same_kind kind other
      (same_line (first_line kind) (first_line other) (flat_map fed lines ++ rest) (flat_map fed others ++ left)
      (clean_first kind) (clean_first other)
      (sym (text_first kind lines rest) ∙ (sym text ∙ (also ∙ text_first other others left))))

  lines_same : (kind : Kind) (lines others : List (List ℕ)) (rest left : List ℕ) → bytes ≡ text_of kind lines ++ rest
      → bytes ≡ text_of kind others ++ left → flat_map fed lines ++ rest ≡ flat_map fed others ++ left
  lines_same kind lines others rest left text also =
      same_rest (first_line kind) (first_line kind) (flat_map fed lines ++ rest) (flat_map fed others ++ left) refl
      (sym (text_first kind lines rest) ∙ (sym text ∙ (also ∙ text_first kind others left)))

  -- two beginnings of one text
  module _ (kind other : Kind) (is : BeginsAsBook rates bytes kind) (book : BeginsAsBook rates bytes other) where
    begun_kind : kind ≡ other
    begun_kind = kind_same kind other is.lines book.lines is.rest book.rest is.text book.text

    begun_are : AreEvents other rates (empty_state Two) is.lines is.events
    begun_are = subst (λ k. AreEvents k rates (empty_state Two) is.lines is.events) begun_kind is.are

    begun_text : flat_map fed is.lines ++ is.rest ≡ flat_map fed book.lines ++ book.rest
    begun_text =
        lines_same other is.lines book.lines is.rest book.rest
        (is.text ∙ ap (λ k. text_of k is.lines ++ is.rest) begun_kind) book.text

    begun_same : NoFeed is.rest → NoFeed book.rest
        → AreSame is.lines book.lines is.events book.events is.rest book.rest
    begun_same end ends =
        same_run other rates (empty_state Two) is.lines book.lines is.events book.events is.rest book.rest is.clean
        book.clean end ends begun_are book.are begun_text

  module _ (kind other : Kind) (rows others : List TenantBill) (cut left : Option ℕ)
      (is : IsBook rates bytes kind rows cut) (also : IsBook rates bytes other others left) where
    one_run : AreSame is.book.lines also.book.lines is.book.events also.book.events is.book.rest also.book.rest
    one_run = begun_same kind other is.book also.book is.clean also.clean

    pub one-bill : (kind ≡ other) × (rows ≡ others) × (cut ≡ left)
    one-bill = (
      begun_kind kind other is.book also.book,
      is.rows_are ∙ (ap (rows_of rates) one_run.events_are ∙ sym also.rows_are),
      is.cut_is
          ∙ (ap (λ ls. cut_of (next_number ls) is.book.rest) one_run.lines_are
          ∙ (ap (cut_of (next_number also.book.lines)) one_run.rest_is ∙ sym also.cut_is)),
    )

    pub one-run : is.book.events ≡ also.book.events
    one-run = one_run.events_are

-- ---- No line of a book is wrong

no_error : (e : Event) (wrong : Wrong) (r : Result Event Wrong) → r ≡ Ok e → r ≡ Err wrong → ⊥
no_error e wrong (Ok found) is not = cc
no_error e wrong (Err found) is not = cc

-- a line that comes, and one that is too long
next_line : (line rest left other : List ℕ) → NoFeed line → left ≡ line ++ 10 ∷ rest → (next : IsNext left other)
    → line ≡ other
next_line line rest left other clean text next =
    same_line line other rest next.more clean next.clean (sym text ∙ (next.is ∙ fed_first other next.more))

long_line : (line rest left : List ℕ) → NoFeed line → left ≡ line ++ 10 ∷ rest → (long : IsLongNext left)
    → line ≡ long.long
long_line line rest left clean text long =
    same_line line long.long rest long.more clean long.clean (sym text ∙ (long.is ∙ fed_first long.long long.more))

not_long : (line rest left : List ℕ) → NoFeed line → length line ≤ 20480 → left ≡ line ++ 10 ∷ rest → IsLongNext left
    → ⊥
not_long line rest left clean few text long =
    let n = ap length (long_line line rest left clean text long) in
    let many = long.many in
    omega (arith, n, few, many)

module _ (kind : Kind) (l : Live) (wrong : Wrong) where
  -- no fault comes if no line comes
  end_right : (left : List ℕ) → NoFeed left → IsWrongNext kind l left wrong → ⊥
  end_right left clean not = elim not [
    | inl long ↦ no_line long.0.long long.0.more left clean (long.0.is ∙ fed_first long.0.long long.0.more)
    | inr next ↦ no_line next.0 next.1.more left clean (next.1.is ∙ fed_first next.0 next.1.more)
  ]

  -- or if the next event comes
  next_right : (line : List ℕ) (rest left : List ℕ) (e : Event) → NoFeed line → next_event kind l line ≡ Ok e
      → left ≡ line ++ 10 ∷ rest → IsWrongNext kind l left wrong → ⊥
  next_right line rest left e clean is text not = elim not [
    | inl long ↦ not_long line rest left clean (line_few kind l line e is) text long.0
    | inr next ↦
        no_error e wrong (next_event kind l line) is
        (ap (next_event kind l) (next_line line rest left next.0 clean text next.1) ∙ next.2)
  ]

module _ (kind : Kind) (rates : List Rate) (wrong : Wrong) where
  none_wrong : (s : State) (lines others : List (List ℕ)) (events also : List Event) (rest left : List ℕ)
      → Each NoFeed lines → Each NoFeed others → NoFeed rest → AreEvents kind rates s lines events
      → AreEvents kind rates s others also → flat_map fed lines ++ rest ≡ flat_map fed others ++ left
      → IsWrongNext kind (state_after rates s also).live left wrong → ⊥
  unfolding AreEvents state_after
  none_wrong s [] [] [] [] rest left clean both end are same text not =
      end_right kind s.live wrong rest end (subst (λ bs. IsWrongNext kind s.live bs wrong) (sym text) not)
  none_wrong s [] (m ∷ ms) [] (f ∷ fs) rest left clean both end are same text not =
      no_line m (flat_map fed ms ++ left) rest end (text ∙ lines_first m ms left)
  none_wrong s (l ∷ ls) [] (e ∷ es) [] rest left clean both end are same text not =
      next_right kind s.live wrong l (flat_map fed ls ++ rest) left e clean.0 are.0 (sym text ∙ lines_first l ls rest)
      not
  none_wrong s (l ∷ ls) (m ∷ ms) (e ∷ es) (f ∷ fs) rest left clean both end are same text not =
      let whole = sym (lines_first l ls rest) ∙ (text ∙ lines_first m ms left) in
      let line = same_line l m (flat_map fed ls ++ rest) (flat_map fed ms ++ left) clean.0 both.0 whole in
      let event = ok_event e f (next_event kind s.live l) are.0 (ap (next_event kind s.live) line ∙ same.0) in
      none_wrong (step rates s f) ls ms es fs rest left clean.1 both.1 end
      (subst (λ (g : Event). AreEvents kind rates (step rates s g) ls es) event are.1) same.1
      (same_rest l m (flat_map fed ls ++ rest) (flat_map fed ms ++ left) line whole) not
  none_wrong s [] others (e ∷ es) also rest left clean both end are same text not = absurd are
  none_wrong s (l ∷ ls) others [] also rest left clean both end are same text not = absurd are
  none_wrong s lines [] events (f ∷ fs) rest left clean both end are same text not = absurd same
  none_wrong s lines (m ∷ ms) events [] rest left clean both end are same text not = absurd same

-- ---- One wrong line

wrong_in : Wrong → Result Event Wrong → Wrong
wrong_in wrong (Ok e) = wrong
wrong_in wrong (Err why) = why

error_is : (one other : Wrong) (r : Result Event Wrong) → r ≡ Err one → r ≡ Err other → one ≡ other
unfolding wrong_in
error_is one other r is also = ap (wrong_in one) (sym is ∙ also)

pub record AreBothWrong (lines others : List (List ℕ)) (one other : Wrong) : Type 0 where
  pub number_is : length lines ≡ length others
  pub wrong_is : one ≡ other

module _ (kind : Kind) (rates : List Rate) (one other : Wrong) where
  -- a fault comes in one way
  wrong_next : (l : Live) (left : List ℕ) → IsWrongNext kind l left one → IsWrongNext kind l left other → one ≡ other
  wrong_next l left is also = elim is [
    | inl long ↦ elim also [
      | inl too ↦ long.1 ∙ sym too.1
      | inr next ↦
          absurd (not_long next.0 next.1.more left next.1.clean next.1.few
          (next.1.is ∙ fed_first next.0 next.1.more) long.0)
    ]
    | inr next ↦ elim also [
      | inl long ↦
          absurd (not_long next.0 next.1.more left next.1.clean next.1.few
          (next.1.is ∙ fed_first next.0 next.1.more) long.0)
      | inr too ↦
          error_is one other (next_event kind l next.0) next.2
          (ap (next_event kind l)
          (next_line next.0 next.1.more left too.0 next.1.clean (next.1.is ∙ fed_first next.0 next.1.more) too.1)
          ∙ too.2)
    ]
  ]

  same_wrong : (s : State) (lines others : List (List ℕ)) (events also : List Event) (rest left : List ℕ)
      → Each NoFeed lines → Each NoFeed others → AreEvents kind rates s lines events
      → AreEvents kind rates s others also → flat_map fed lines ++ rest ≡ flat_map fed others ++ left
      → IsWrongNext kind (state_after rates s events).live rest one
      → IsWrongNext kind (state_after rates s also).live left other → AreBothWrong lines others one other
  unfolding AreEvents state_after
  same_wrong s [] [] [] [] rest left clean both are same text is not =
      record {
        number_is = refl;
        wrong_is = wrong_next s.live left (subst (λ bs. IsWrongNext kind s.live bs one) text is) not;
      }
  same_wrong s [] (m ∷ ms) [] (f ∷ fs) rest left clean both are same text is not =
      absurd
      (next_right kind s.live one m (flat_map fed ms ++ left) rest f both.0 same.0 (text ∙ lines_first m ms left) is)
  same_wrong s (l ∷ ls) [] (e ∷ es) [] rest left clean both are same text is not =
      absurd
      (next_right kind s.live other l (flat_map fed ls ++ rest) left e clean.0 are.0 (sym text ∙ lines_first l ls rest)
      not)
  same_wrong s (l ∷ ls) (m ∷ ms) (e ∷ es) (f ∷ fs) rest left clean both are same text is not =
      let whole = sym (lines_first l ls rest) ∙ (text ∙ lines_first m ms left) in
      let line = same_line l m (flat_map fed ls ++ rest) (flat_map fed ms ++ left) clean.0 both.0 whole in
      let event = ok_event e f (next_event kind s.live l) are.0 (ap (next_event kind s.live) line ∙ same.0) in
      let later = same_wrong (step rates s f) ls ms es fs rest left clean.1 both.1
      (subst (λ (g : Event). AreEvents kind rates (step rates s g) ls es) event are.1) same.1
      (same_rest l m (flat_map fed ls ++ rest) (flat_map fed ms ++ left) line whole)
      (subst (λ (g : Event). IsWrongNext kind (state_after rates (step rates s g) es).live rest one) event is) not in
      record { number_is = ap suc later.number_is; wrong_is = later.wrong_is }
  same_wrong s [] others (e ∷ es) also rest left clean both are same text is not = absurd are
  same_wrong s (l ∷ ls) others [] also rest left clean both are same text is not = absurd are
  same_wrong s lines [] events (f ∷ fs) rest left clean both are same text is not = absurd same
  same_wrong s lines (m ∷ ms) events [] rest left clean both are same text is not = absurd same

-- the first line is one of a book
first_right : (kind : Kind) (bytes rest : List ℕ) → bytes ≡ first_line kind ++ 10 ∷ rest → IsNoFirst bytes → ⊥
first_right kind bytes rest text (other_first line next none) =
    let same = same_line (first_line kind) line rest next.more (clean_first kind) next.clean
    (sym text ∙ (next.is ∙ fed_first line next.more)) in
    let some : kind_of line ≡ Some kind = ap kind_of (sym same) ∙ kind_first kind in
    let both : None ≡ Some kind = sym none ∙ some in cc
first_right kind bytes rest text (first_long long) =
    not_long (first_line kind) rest bytes (clean_first kind) (short_first kind) text long
first_right kind bytes rest text (no_first clean) = no_line (first_line kind) rest bytes clean text

module _ (rates : List Rate) (bytes : List ℕ) where
  -- of a text that begins as a book
  begun_right : (kind : Kind) (book : BeginsAsBook rates bytes kind) → IsNoFirst bytes → ⊥
  begun_right kind book not =
      first_right kind bytes (flat_map fed book.lines ++ book.rest)
      (book.text ∙ text_first kind book.lines book.rest) not

  pub none-wrong : (kind : Kind) (rows : List TenantBill) (cut : Option ℕ) (number : ℕ) (wrong : Wrong)
      → IsBook rates bytes kind rows cut → IsWrongText rates bytes number wrong → ⊥
  none-wrong kind rows cut number wrong is not = elim not [
    | inl first ↦ begun_right kind is.book first.0
    | inr after ↦
        none_wrong after.kind rates wrong (empty_state Two) is.book.lines after.book.lines is.book.events
        after.book.events is.book.rest after.book.rest is.book.clean after.book.clean is.clean
        (begun_are rates bytes kind after.kind is.book after.book) after.book.are
        (begun_text rates bytes kind after.kind is.book after.book) after.next_is
  ]

  both_wrong : (kind other : Kind) (is : BeginsAsBook rates bytes kind) (book : BeginsAsBook rates bytes other)
      (wrong also : Wrong) → IsWrongNext kind (run Two rates is.events).live is.rest wrong
      → IsWrongNext other (run Two rates book.events).live book.rest also
      → AreBothWrong is.lines book.lines wrong also
  both_wrong kind other is book wrong also first not =
      same_wrong other rates wrong also (empty_state Two) is.lines book.lines is.events book.events is.rest book.rest
      is.clean book.clean (begun_are rates bytes kind other is book) book.are
      (begun_text rates bytes kind other is book)
      (subst (λ k. IsWrongNext k (run Two rates is.events).live is.rest wrong)
      (begun_kind rates bytes kind other is book) first) not

  pub one-wrong : (number other : ℕ) (wrong also : Wrong) → IsWrongText rates bytes number wrong
      → IsWrongText rates bytes other also → (number ≡ other) × (wrong ≡ also)
  one-wrong number other wrong also is not = elim is [
    | inl first ↦ elim not [
      | inl too ↦ (first.1 ∙ sym too.1, first.2 ∙ sym too.2)
      | inr after ↦ absurd (begun_right after.kind after.book first.0)
    ]
    | inr after ↦ elim not [
      | inl first ↦ absurd (begun_right after.kind after.book first.0)
      | inr too ↦
          let both = both_wrong after.kind too.kind after.book too.book wrong also after.next_is too.next_is in (
            after.number_is ∙ (ap (λ n. n + 2) both.number_is ∙ sym too.number_is),
            both.wrong_is,
          )
    ]
  ]
