-- Spellings are read, and nothing else is.
use Rattle.std.specs.Prelude.{◌≡◌, ◌≢◌, ◌≤◌, ℕ, Bool, true, false, List, [], ◌∷◌}
use Rattle.std.specs.Prelude.{length, nat_lt, codes, decimal, Option, None, Some, Ok, Err, refl}
use Rattle.std.specs.List.{join_with_byte, AllByRecursion}
use Rattle.std.proofs.Common.{arith, sym, ◌∙◌, ap, cond, subst}
use Rattle.std.proofs.lemmas.List.Splits.{slice_split_at, slice_split_none, join_with_byte-slice_split}
use Rattle.std.proofs.lemmas.List.Elements.{All-from_recursion}
use Rattle.std.proofs.lemmas.Bool.Decides.{nat_tests}
use Rattle.share_base.specs.Body.{BodyView, IsUnstamped}
use Rattle.share_base.specs.declared.refusal.Refusal.{Refusal}
use Rattle.share_base.specs.declared.refusal.Refusal.TheVariants.{Syntax, Range}
use Rattle.share_base.specs.declared.command.Command.{Command}
use Rattle.share_base.specs.declared.command.Command.TheVariants.{MakeCurrency, RemoveCurrency, MakeTicket}
use Rattle.share_base.specs.declared.command.Command.TheVariants.{RemoveTicket, FundCurrency, FundFlow, Unfund}
use Rattle.share_base.specs.declared.command.Command.TheVariants.{OpenFlow, CloseFlow, Hold, Resume, Amend}
use Rattle.share_base.specs.declared.version.Version.{Version}
use Rattle.share_base.specs.declared.version.Version.TheVariants.{One, Two}
use Rattle.share_model.specs.declared.line.Line.{Line}
use Rattle.share_model.specs.declared.line.Line.TheVariants.{Change, Send, Turn, Torn, Report, Audit}
use Rattle.share_model.specs.text.Lines.{hex, words, spelling_of}
use Rattle.share_model.specs.text.Lines.{IsName, IsNumber, IsPayload, HasFields, IsLine, is_in_range, is_space}
use Rattle.share_model.specs.text.Lines.{words_of, named_of, numbered_of, mktkt_of, amend_of, fund_of, open_of}
use Rattle.share_model.specs.text.Lines.{send_of, turn_of, line_by, line_of}
use Rattle.share_model.specs.text.Lines.{line_or_refusal, reading, IsReading, IsUnread}
use Rattle.share_model.proofs.lemmas.text.WordLemmas.{NoSpace, no_space-name_bytes, no_space-name, no_space-decimal}
use Rattle.share_model.proofs.lemmas.text.WordLemmas.{no_space-hex}
use Rattle.share_model.proofs.lemmas.text.SpellingLemmas.{line_of-only}
use Rattle.share_model.proofs.lemmas.text.WordLemmas.{name_of-name, payload_of-hex}
pub use Rattle.share_model.proofs.lemmas.text.WordLemmas.{number_of-decimal, number_of-only, payload_of-only}
pub use Rattle.share_model.proofs.lemmas.text.WordLemmas.{hex-from_pairs}

-- Words that are joined by one space are read as these words

words_of-join : (w : List ℕ) (ws : List (List ℕ)) → NoSpace w → AllByRecursion NoSpace ws
    → words_of (join_with_byte 32 (w ∷ ws)) ≡ w ∷ ws
words_of-join w [] h hs = slice_split_none is_space w (All-from_recursion _ w h)
words_of-join w (v ∷ vs) h hs =
    slice_split_at is_space w 32 _ (All-from_recursion _ w h) refl ∙ ap (λ r. w ∷ r) (words_of-join v vs hs.0 hs.1)

join-words_of : (bs : List ℕ) → join_with_byte 32 (words_of bs) ≡ bs
join-words_of bs = join_with_byte-slice_split 32 bs

-- Each line is read from its words

named_of-words : (command : List ℕ → Command) (name : List ℕ) → IsName name
    → named_of command (name ∷ []) ≡ Some (Change (command name))
named_of-words command name n = rw (name_of-name name n) refl

numbered_of-words : (command : ℕ → Command) (number : ℕ) → IsNumber number
    → numbered_of command (decimal number ∷ []) ≡ Some (Change (command number))
numbered_of-words command number n = rw (number_of-decimal number n) refl

open_of-words : (name : List ℕ) (limit tariff : ℕ) → IsName name → IsNumber limit → IsNumber tariff
    → open_of (name ∷ decimal limit ∷ decimal tariff ∷ []) ≡ Some (Change (OpenFlow name limit tariff))
open_of-words name limit tariff n l t =
    rw (name_of-name name n, number_of-decimal limit l, number_of-decimal tariff t) refl

mktkt_of-words : (amount : ℕ) (currency : List ℕ) → IsNumber amount → IsName currency
    → mktkt_of (decimal amount ∷ currency ∷ []) ≡ Some (Change (MakeTicket amount currency))
mktkt_of-words amount currency a c = rw (number_of-decimal amount a, name_of-name currency c) refl

amend_of-words : (ticket amount : ℕ) → IsNumber ticket → IsNumber amount
    → amend_of (decimal ticket ∷ decimal amount ∷ []) ≡ Some (Change (Amend ticket amount))
amend_of-words ticket amount t a = rw (number_of-decimal ticket t, number_of-decimal amount a) refl

fund_of-currency : (ticket : ℕ) (currency : List ℕ) → IsNumber ticket → IsName currency
    → fund_of (decimal ticket ∷ codes "cur" ∷ currency ∷ []) ≡ Some (Change (FundCurrency ticket currency))
fund_of-currency ticket currency t c = rw (number_of-decimal ticket t, name_of-name currency c) refl

fund_of-flow : (ticket : ℕ) (flow : List ℕ) → IsNumber ticket → IsName flow
    → fund_of (decimal ticket ∷ codes "flow" ∷ flow ∷ []) ≡ Some (Change (FundFlow ticket flow))
fund_of-flow ticket flow t f = rw (number_of-decimal ticket t, name_of-name flow f) refl

send_of-words : (flow : List ℕ) (body : BodyView) → IsName flow → IsPayload body.payload → IsUnstamped body
    → send_of (flow ∷ hex body.payload ∷ []) ≡ Some (Send flow body)
send_of-words flow body f p none =
    rw (name_of-name flow f, payload_of-hex body.payload p)
    (ap (λ (stamped : List ℕ). Some (Send flow (record { stamped = stamped; payload = body.payload }))) (sym none))

turn_of-words : (most : ℕ) → IsNumber most → turn_of (decimal most ∷ []) ≡ Some (Turn most)
turn_of-words most m = rw (number_of-decimal most m) refl

line_of-words : (l : Line) → HasFields l → line_of (words l) ≡ Some l
unfolding line_by
line_of-words (Change (MakeCurrency name)) h = named_of-words MakeCurrency name h
line_of-words (Change (RemoveCurrency name)) h = named_of-words RemoveCurrency name h
line_of-words (Change (MakeTicket amount currency)) h = mktkt_of-words amount currency h.0 h.1
line_of-words (Change (RemoveTicket ticket)) h = numbered_of-words RemoveTicket ticket h
line_of-words (Change (FundCurrency ticket currency)) h = fund_of-currency ticket currency h.0 h.1
line_of-words (Change (FundFlow ticket flow)) h = fund_of-flow ticket flow h.0 h.1
line_of-words (Change (Unfund ticket)) h = numbered_of-words Unfund ticket h
line_of-words (Change (OpenFlow name limit tariff)) h = open_of-words name limit tariff h.0 h.1 h.2
line_of-words (Change (CloseFlow name)) h = named_of-words CloseFlow name h
line_of-words (Change (Hold name)) h = named_of-words Hold name h
line_of-words (Change (Resume name)) h = named_of-words Resume name h
line_of-words (Change (Amend ticket amount)) h = amend_of-words ticket amount h.0 h.1
line_of-words (Send flow body) h = send_of-words flow body h.0 h.1 h.2
line_of-words (Turn most) h = turn_of-words most h
line_of-words Torn h = refl
line_of-words Report h = refl
line_of-words (Audit One) h = refl
line_of-words (Audit Two) h = refl

words_of-spelling_of : (l : Line) → HasFields l → words_of (spelling_of l) ≡ words l
words_of-spelling_of (Change (MakeCurrency name)) h =
    words_of-join _ _ (no_space-name_bytes (codes "mkcur") refl) (no_space-name _ h, tt)
words_of-spelling_of (Change (RemoveCurrency name)) h =
    words_of-join _ _ (no_space-name_bytes (codes "rmcur") refl) (no_space-name _ h, tt)
words_of-spelling_of (Change (RemoveTicket ticket)) h =
    words_of-join _ _ (no_space-name_bytes (codes "rmtkt") refl) (no_space-decimal _ h, tt)
words_of-spelling_of (Change (FundCurrency ticket currency)) h =
    words_of-join _ _ (no_space-name_bytes (codes "fund") refl)
    (no_space-decimal _ h.0, (no_space-name_bytes (codes "cur") refl, (no_space-name _ h.1, tt)))
words_of-spelling_of (Change (Unfund ticket)) h =
    words_of-join _ _ (no_space-name_bytes (codes "unfund") refl) (no_space-decimal _ h, tt)
words_of-spelling_of (Change (OpenFlow name limit tariff)) h =
    words_of-join _ _ (no_space-name_bytes (codes "open") refl)
    (no_space-name _ h.0, (no_space-decimal _ h.1, (no_space-decimal _ h.2, tt)))
words_of-spelling_of (Change (MakeTicket amount currency)) h =
    words_of-join _ _ (no_space-name_bytes (codes "mktkt") refl) (no_space-decimal _ h.0, (no_space-name _ h.1, tt))
words_of-spelling_of (Change (FundFlow ticket flow)) h =
    words_of-join _ _ (no_space-name_bytes (codes "fund") refl)
    (no_space-decimal _ h.0, (no_space-name_bytes (codes "flow") refl, (no_space-name _ h.1, tt)))
words_of-spelling_of (Change (CloseFlow name)) h =
    words_of-join _ _ (no_space-name_bytes (codes "close") refl) (no_space-name _ h, tt)
words_of-spelling_of (Change (Hold name)) h =
    words_of-join _ _ (no_space-name_bytes (codes "hold") refl) (no_space-name _ h, tt)
words_of-spelling_of (Change (Resume name)) h =
    words_of-join _ _ (no_space-name_bytes (codes "resume") refl) (no_space-name _ h, tt)
words_of-spelling_of (Change (Amend ticket amount)) h =
    words_of-join _ _ (no_space-name_bytes (codes "amend") refl) (no_space-decimal _ h.0, (no_space-decimal _ h.1, tt))
words_of-spelling_of (Send flow body) h =
    words_of-join _ _ (no_space-name_bytes (codes "send") refl) (no_space-name _ h.0, (no_space-hex body.payload, tt))
words_of-spelling_of (Turn most) h = words_of-join _ _ (no_space-name_bytes (codes "turn") refl)
    (no_space-decimal _ h, tt)
words_of-spelling_of Torn h = words_of-join _ _ (no_space-name_bytes (codes "torn") refl) tt
words_of-spelling_of Report h = words_of-join _ _ (no_space-name_bytes (codes "report") refl) tt
words_of-spelling_of (Audit One) h =
    words_of-join _ _ (no_space-name_bytes (codes "audit") refl) (no_space-name_bytes (codes "1") refl, tt)
words_of-spelling_of (Audit Two) h =
    words_of-join _ _ (no_space-name_bytes (codes "audit") refl) (no_space-name_bytes (codes "2") refl, tt)

short-test : (n : ℕ) → n ≤ 20480 → nat_lt 20480 n ≡ false
short-test n h = grind (arith, nat_tests)

-- a line is read from its spelling; the answer is Range if it is out of range
pub reading-line : (version : Version) (l : Line) → IsLine l
    → reading version (spelling_of l) ≡ line_or_refusal version (Some l)
unfolding reading
reading-line version l h = rw (short-test _ h.short, words_of-spelling_of l h.fields, line_of-words l h.fields) refl

-- The answer of a reading

long-test : (n : ℕ) → nat_lt 20480 n ≡ false → n ≤ 20480
long-test n h = grind (arith, nat_tests)

-- bytes that are read as a line are those of its spelling
spelled_of : (bs : List ℕ) (l : Line) → nat_lt 20480 (length bs) ≡ false → line_of (words_of bs) ≡ Some l
    → IsLine l × (spelling_of l ≡ bs)
spelled_of bs l short e =
    let s = line_of-only _ _ e in
    let same : spelling_of l ≡ bs = ap (join_with_byte 32) s.0 ∙ join-words_of bs in
    (record { fields = s.1; short = rw same (long-test _ short) }, same)

reading_by : (version : Version) (bs : List ℕ) (l m : Line) → IsLine m → spelling_of m ≡ bs → (b : Bool)
    → is_in_range version m ≡ b
    → cond b (Ok m) (Err Range) ≡ Ok l → IsReading version bs l
reading_by version bs l m line same true r e =
    let q : m ≡ l = cc in
    let P : Line → Type 0 = λ x. IsReading version bs x in
    subst P q (record { line = line; in_range = r; spells = same })
reading_by version bs l m line same false r e = cc

spells_by : (version : Version) (bs : List ℕ) (l : Line) (long : Bool) (o : Option Line)
    → nat_lt 20480 (length bs) ≡ long
    → line_of (words_of bs) ≡ o → cond long (Err Syntax) (line_or_refusal version o) ≡ Ok l → IsReading version bs l
spells_by version bs l true o hl ho e = cc
spells_by version bs l false None hl ho e = cc
spells_by version bs l false (Some m) hl ho e =
    let s = spelled_of bs m hl ho in reading_by version bs l m s.0 s.1 _ refl e

-- a line is read only from its spelling, and only in range
pub reading-spelling_of : (version : Version) (bs : List ℕ) (l : Line) → reading version bs ≡ Ok l
    → IsReading version bs l
unfolding reading
reading-spelling_of version bs l e = spells_by version bs l _ _ refl refl e

-- Syntax, or Range of a line that is out of range
data Unread (version : Version) (bs : List ℕ) (e : Refusal) : Type 0 where
  syntax_fault : e ≡ Syntax → Unread version bs e
  range_fault : e ≡ Range → (l : Line) × IsLine l × (is_in_range version l ≡ false) × (spelling_of l ≡ bs)
      → Unread version bs e

unranged_by : (version : Version) (bs : List ℕ) (m : Line) (r : Refusal) → IsLine m → spelling_of m ≡ bs
    → (b : Bool) → is_in_range version m ≡ b
    → cond b (Ok m) (Err Range) ≡ Err r → Unread version bs r
unranged_by version bs m r line same true q e = cc
unranged_by version bs m r line same false q e = range_fault (cc) (m, line, q, same)

unread_by : (version : Version) (bs : List ℕ) (r : Refusal) (long : Bool) (o : Option Line)
    → nat_lt 20480 (length bs) ≡ long
    → line_of (words_of bs) ≡ o → cond long (Err Syntax) (line_or_refusal version o) ≡ Err r → Unread version bs r
unread_by version bs r true o hl ho e = syntax_fault cc
unread_by version bs r false None hl ho e = syntax_fault cc
unread_by version bs r false (Some m) hl ho e =
    let s = spelled_of bs m hl ho in unranged_by version bs m r s.0 s.1 _ refl e

unread : (version : Version) (bs : List ℕ) (r : Refusal) → reading version bs ≡ Err r → Unread version bs r
unfolding reading
unread version bs r e = unread_by version bs r _ _ refl refl e

not_syntax : (version : Version) (l : Line) (b : Bool) → is_in_range version l ≡ b
    → cond b (Ok l) (Err Range) ≡ Err Syntax → ⊥
not_syntax version l true r e = cc
not_syntax version l false r e = cc

no_line : (version : Version) (bs : List ℕ) → reading version bs ≡ Err Syntax → (l : Line) → IsLine l
    → spelling_of l ≢ bs
no_line version bs e l line same =
    let given : line_or_refusal version (Some l) ≡ Err Syntax =
    sym (reading-line version l line) ∙ ap (reading version) same ∙ e in
    not_syntax version l _ refl given

-- Syntax if and only if no line is spelled by these bytes, Range if a line out of range is
pub reading-refused : (version : Version) (bs : List ℕ) (r : Refusal) → reading version bs ≡ Err r
    → IsUnread version bs r
reading-refused version bs r e = elim (unread version bs r e) [
  | syntax_fault q ↦
      let P : Refusal → Type 0 = λ x. IsUnread version bs x in subst P (sym q) (no_line version bs (e ∙ ap Err q))
  | range_fault q found ↦ let P : Refusal → Type 0 = λ x. IsUnread version bs x in subst P (sym q) found
]
