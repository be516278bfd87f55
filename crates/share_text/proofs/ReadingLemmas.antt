-- The steps by which a line is read.
use Rattle.std.proofs.Common.{if◌then◌else◌, ◌≡◌, ◌<◌, ◌≤◌, ◌*◌, inl, inr, ℕ, Bool, true, false, ◌&&◌, nat_le, nat_lt}
use Rattle.std.proofs.Common.{List, [], ◌∷◌, length, take, Option, None, Some, Result, Ok, Err, IfOk, IfErr, codes}
use Rattle.std.proofs.Common.{arith}
use Rattle.std.proofs.Common.{sym, ◌∙◌, ap, subst, refl}
use Rattle.std.specs.Str.{bytes_eq}
use Rattle.std.specs.List.{join_with_byte}
use Rattle.std.proofs.lemmas.List.{take_all}
use Rattle.std.proofs.lemmas.List.Splits.{slice_split_none, join_with_byte-slice_split}
use Rattle.std.proofs.lemmas.List.Elements.{All-from_recursion}
use Rattle.std.proofs.lemmas.Bool.Decides.{nat_tests}
use Rattle.std.proofs.lemmas.Bool.{and_parts}
use Rattle.share_base.specs.Body.{BodyView, unstamped}
use Rattle.share_base.specs.declared.version.Version.{Version}
use Rattle.share_base.specs.declared.version.Version.TheVariants.{One, Two}
use Rattle.share_base.specs.Version.{max_payload}
use Rattle.share_base.specs.declared.refusal.Refusal.{Refusal}
use Rattle.share_base.specs.declared.refusal.Refusal.TheVariants.{NoMemory, Syntax, Range}
use Rattle.share_model.specs.declared.line.Line.{Line}
use Rattle.share_model.specs.declared.line.Line.TheVariants.{Send, Turn}
use Rattle.share_model.specs.text.Lines.{is_pairs, from_pairs, name_of, payload_of, field, words_of, send_of, line_by}
use Rattle.share_model.specs.text.Lines.{is_space, number_of, turn_of}
use Rattle.share_model.specs.text.Lines.{line_of, line_or_refusal, reading, ReadsLine, IsReading, IsUnread}
use Rattle.share_model.proofs.lemmas.text.WordLemmas.{payload_of-only, number_of-only, hex-from_pairs}
use Rattle.share_model.proofs.lemmas.text.WordLemmas.{NoSpace, no_space-decimal, no_space-hex}
use Rattle.share_model.proofs.lemmas.text.LineLemmas.{reading-spelling_of, reading-refused}
use Rattle.share_text.specs.Words.{last, short_line_by, line_sent_by, ReadsRanged}

-- Packets

-- the digits are too many
long_payload : (version : Version) (flow digits : List ℕ) → 2 * max_payload version < length digits
    → (nat_le 2 (length digits) && is_pairs digits) ≡ true
    → Err Range ≡ line_or_refusal version (line_sent_by flow (payload_of digits))
long_payload version flow digits long good =
    let both : (nat_le 2 (length digits) ≡ true) × (is_pairs digits ≡ true) = and_parts _ _ good in
    let h = hex-from_pairs digits both.1 in
    let out : nat_le (length (from_pairs digits)) (max_payload version) ≡ false = over _ _ _ h.2 long in
    rw (both.0, both.1, out) refl
  where
    over : (m n most : ℕ) → 2 * m ≡ n → 2 * most < n → nat_le m most ≡ false
    over m n most e h = grind (arith, nat_tests)

bad_payload : (version : Version) (flow digits : List ℕ) → (nat_le 2 (length digits) && is_pairs digits) ≡ false
    → Err Syntax ≡ line_or_refusal version (line_sent_by flow (payload_of digits))
bad_payload version flow digits bad = rw bad refl

half_few : (m n most : ℕ) → 2 * m ≡ n → n ≤ 2 * most → nat_le m most ≡ true
half_few m n most e h = grind (arith, nat_tests)

-- memory was refused for a short payload
unheld_sent : (version : Version) (flow digits : List ℕ) → length digits ≤ 2 * max_payload version
    → (nat_le 2 (length digits) && is_pairs digits) ≡ true
    → ReadsRanged version (line_sent_by flow (payload_of digits)) (Err NoMemory)
unheld_sent version flow digits few good =
    let is : payload_of digits ≡ Some (from_pairs digits) = rw good refl in
    let half : 2 * length (from_pairs digits) ≡ length digits = (hex-from_pairs digits (and_parts _ _ good).1).2 in
    let short = half_few (length (from_pairs digits)) (length digits) (max_payload version) half few in
    inr (refl, (Send flow (unstamped (from_pairs digits)), ap (line_sent_by flow) is, short, refl))

-- why digits were not read: they are too many
pub unread_long : (version : Version) (flow digits : List ℕ) (r : Refusal)
    → 2 * max_payload version < length digits
    → r ≡ (if nat_le 2 (length digits) && is_pairs digits then Range else Syntax)
    → ReadsRanged version (line_sent_by flow (payload_of digits)) (Err r)
unread_long version flow digits r long is = by _ refl is
  where
    by : (b : Bool) → (nat_le 2 (length digits) && is_pairs digits) ≡ b → r ≡ (if b then Range else Syntax)
        → ReadsRanged version (line_sent_by flow (payload_of digits)) (Err r)
    by true good e = inl (ap Err e ∙ long_payload version flow digits long good)
    by false bad e = inl (ap Err e ∙ bad_payload version flow digits bad)

-- or memory was refused for them
pub unread_unheld : (version : Version) (flow digits : List ℕ) (r : Refusal)
    → length digits ≤ 2 * max_payload version
    → r ≡ (if nat_le 2 (length digits) && is_pairs digits then NoMemory else Syntax)
    → ReadsRanged version (line_sent_by flow (payload_of digits)) (Err r)
unread_unheld version flow digits r few is = by _ refl is
  where
    by : (b : Bool) → (nat_le 2 (length digits) && is_pairs digits) ≡ b → r ≡ (if b then NoMemory else Syntax)
        → ReadsRanged version (line_sent_by flow (payload_of digits)) (Err r)
    by true good e =
        let P : Refusal → Type 0 = λ x. ReadsRanged version (line_sent_by flow (payload_of digits)) (Err x) in
        subst P (sym e) (unheld_sent version flow digits few good)
    by false bad e = inl (ap Err e ∙ bad_payload version flow digits bad)

-- the digits of a payload that frames of the version carry
pub sent_whole : (version : Version) (flow digits bytes : List ℕ) (count : ℕ)
    → payload_of digits ≡ Some (take count bytes) → 2 * count ≡ length digits → length bytes ≡ count
    → length digits ≤ 2 * max_payload version
    → ReadsRanged version (line_sent_by flow (payload_of digits)) (Ok (Send flow (unstamped bytes)))
sent_whole version flow digits bytes count is half all few =
    let whole : take count bytes ≡ bytes = take_all count bytes (omega (arith, all)) in
    let short = half_few (length bytes) (length digits) (max_payload version) (omega (arith, half, all)) few in
    inl (rw (is, whole, short) refl)

-- The last field

-- bytes without a space are one word
one_word : (w : List ℕ) → NoSpace w → words_of w ≡ w ∷ []
one_word w clear = slice_split_none is_space w (All-from_recursion _ w clear)

one_word-only : (w bs : List ℕ) → words_of bs ≡ w ∷ [] → w ≡ bs
one_word-only w bs one = ap (join_with_byte 32) (sym one) ∙ join_with_byte-slice_split 32 bs

-- a field that no bytes with a space spell is the last word if and only if all bytes spell it
last_is_all : {A : Type 0} (f : List ℕ → Option A) (bs : List ℕ) → ((x : A) → f bs ≡ Some x → NoSpace bs)
    → last f (words_of bs) ≡ f bs
last_is_all {A} f bs clear = by (f bs) refl (words_of bs) refl
  where
    by : (o : Option A) → f bs ≡ o → (ws : List (List ℕ)) → words_of bs ≡ ws → last f ws ≡ o
    by (Some x) e ws h = let one : ws ≡ bs ∷ [] = sym h ∙ one_word bs (clear x e) in rw one e
    by None e [] h = refl
    by None e (w ∷ []) h = ap f (one_word-only w bs h) ∙ e
    by None e (w ∷ v ∷ ws) h = refl

pub last_number : (bs : List ℕ) → last number_of (words_of bs) ≡ number_of bs
last_number bs = last_is_all number_of bs (λ n e. let only = number_of-only bs n e in
    subst NoSpace (sym only.1) (no_space-decimal n only.0))

last_payload : (bs : List ℕ) → last payload_of (words_of bs) ≡ payload_of bs
last_payload bs = last_is_all payload_of bs (λ p e. let only = payload_of-only bs p e in
    subst NoSpace (sym only.1) (no_space-hex p))

-- the words of a packet
send_of-last : (ws : List (List ℕ)) (flow : List ℕ) (rest : List (List ℕ)) → field name_of ws ≡ Some (flow, rest)
    → send_of ws ≡ line_sent_by flow (last payload_of rest)
send_of-last ws flow [] n = rw n refl
send_of-last ws flow (w ∷ left) n = by (payload_of w) refl left n
  where
    by : (o : Option (List ℕ)) → payload_of w ≡ o → (vs : List (List ℕ)) → field name_of ws ≡ Some (flow, w ∷ vs)
        → send_of ws ≡ line_sent_by flow (last payload_of (w ∷ vs))
    by None e [] h = rw (h, e) refl
    by None e (v ∷ vs) h = rw (h, e) refl
    by (Some p) e [] h = rw (h, e) refl
    by (Some p) e (v ∷ vs) h = rw (h, e) refl

pub send_ends : (ws : List (List ℕ)) (flow digits : List ℕ) (rest : List (List ℕ)) → field name_of ws
    ≡ Some (flow, rest) → rest ≡ words_of digits → send_of ws ≡ line_sent_by flow (payload_of digits)
send_ends ws flow digits rest n d = send_of-last ws flow rest n ∙ ap (line_sent_by flow) (ap (last payload_of) d
    ∙ last_payload digits)

pub reads_same : (version : Version) (o p : Option Line) (r : Result Line Refusal) → o ≡ p → ReadsRanged version p r
    → ReadsRanged version o r
reads_same version o p r e h = rw e h

-- Whole lines

pub line_by-send : (w : List ℕ) (ws : List (List ℕ)) → bytes_eq w (codes "send") ≡ true → line_by w ws ≡ send_of ws
unfolding line_by
line_by-send w ws e = rw e refl

pub line_by-short : (w : List ℕ) (ws : List (List ℕ)) → bytes_eq w (codes "send") ≡ false → line_by w ws
    ≡ short_line_by w ws
unfolding line_by
line_by-short w ws e = rw e refl

pub line_by-turn : (ws : List (List ℕ)) → line_by (codes "turn") ws ≡ turn_of ws
unfolding line_by
line_by-turn ws = refl

pub too_long : (version : Version) (bs : List ℕ) → 20480 < length bs → Err Syntax ≡ reading version bs
unfolding reading
too_long version bs h = let t : nat_lt 20480 (length bs) ≡ true = grind (arith, nat_tests) in rw t refl

short_reading : (version : Version) (bs : List ℕ) → length bs ≤ 20480
    → reading version bs ≡ line_or_refusal version (line_of (words_of bs))
unfolding reading
short_reading version bs h =
    let t : nat_lt 20480 (length bs) ≡ false = grind (arith, nat_tests) in rw t refl

pub no_words : (version : Version) (bs : List ℕ) → length bs ≤ 20480 → words_of bs ≡ []
    → Err Syntax ≡ reading version bs
no_words version bs h e = sym (short_reading version bs h ∙ ap (λ ws. line_or_refusal version (line_of ws)) e)

pub reads : (version : Version) (bs w : List ℕ) (ws : List (List ℕ)) (r : Result Line Refusal) → length bs ≤ 20480
    → words_of bs ≡ w ∷ ws → ReadsRanged version (line_by w ws) r → ReadsLine version bs r
reads version bs w ws r h e (inl q) =
    inl (q ∙ sym (short_reading version bs h ∙ ap (λ vs. line_or_refusal version (line_of vs)) e))
reads version bs w ws r h e (inr none) =
    inr (
      none.0,
      (
        none.1.0,
        short_reading version bs h ∙ ap (λ vs. line_or_refusal version (line_of vs)) e
            ∙ rw (none.1.1, none.1.2) refl,
        none.1.3,
      ),
    )

-- The readable clauses

pub reads-spelled : (version : Version) (bs : List ℕ) (r : Result Line Refusal) → ReadsLine version bs r
    → IfOk r (λ l. IsReading version bs l)
reads-spelled version bs (Ok l) (inl e) = reading-spelling_of version bs l (sym e)
reads-spelled version bs (Ok l) (inr none) = let q : Ok l ≡ Err NoMemory = none.0 in cc
reads-spelled version bs (Err e) h = tt

pub reads-refused : (version : Version) (bs : List ℕ) (r : Result Line Refusal) → ReadsLine version bs r
    → IfErr r (λ e. IsUnread version bs e)
reads-refused version bs (Ok l) h = tt
reads-refused version bs (Err e) (inl q) = reading-refused version bs e (sym q)
reads-refused version bs (Err e) (inr none) =
    let q : NoMemory ≡ e = cc in
    let P : Refusal → Type 0 = λ x. IsUnread version bs x in
    subst P q (none.1.0, reading-spelling_of version bs none.1.0 none.1.1, none.1.2)

-- A turn

turn_of-last : (ws : List (List ℕ)) (most : ℕ) → last number_of ws ≡ Some most → turn_of ws ≡ Some (Turn most)
turn_of-last [] most e = let q : None ≡ Some most = e in cc
turn_of-last (w ∷ []) most e = rw e refl
turn_of-last (w ∷ v ∷ ws) most e = let q : None ≡ Some most = e in cc

-- the words of a turn in range were read
pub turn_read : (version : Version) (bs : List ℕ) (ws : List (List ℕ)) (most : ℕ) → length bs ≤ 20480
    → words_of bs ≡ codes "turn" ∷ ws → last number_of ws ≡ Some most → 1 ≤ most → most ≤ 65535
    → ReadsLine version bs (Ok (Turn most))
turn_read version bs ws most short begins is some few =
    let lower : nat_le 1 most ≡ true = grind (arith, nat_tests) in
    let upper : nat_le most 65535 ≡ true = grind (arith, nat_tests) in
    let line : line_by (codes "turn") ws ≡ Some (Turn most) = line_by-turn ws ∙ turn_of-last ws most is in
    reads version bs (codes "turn") ws _ short begins (inl (rw (line, lower, upper) refl))

-- A packet whose payload needs no memory

few_in : (version : Version) (n : ℕ) → n ≤ 16 → nat_le n (max_payload version) ≡ true
few_in One n h = grind (arith, nat_tests)
few_in Two n h = grind (arith, nat_tests)

pub in_place_read : (version : Version) (flow digits payload : List ℕ) (body : BodyView)
    → payload_of digits ≡ Some payload → body ≡ unstamped payload → length payload ≤ 16
    → Ok (Send flow body) ≡ line_or_refusal version (line_sent_by flow (payload_of digits))
in_place_read version flow digits payload body is plain few =
    let short : nat_le (length payload) (max_payload version) ≡ true = few_in version (length payload) few in
    rw (is, plain, short) refl

pub packet_read : (version : Version) (bs : List ℕ) (ws : List (List ℕ)) (flow digits payload : List ℕ)
    (rest : List (List ℕ)) (body : BodyView)
    → length bs ≤ 20480 → words_of bs ≡ codes "send" ∷ ws → field name_of ws ≡ Some (flow, rest)
    → rest ≡ words_of digits → payload_of digits ≡ Some payload → body ≡ unstamped payload → length payload ≤ 16
    → ReadsLine version bs (Ok (Send flow body))
packet_read version bs ws flow digits payload rest body short begins named left is plain few =
    reads version bs (codes "send") ws _ short begins
    (reads_same version _ _ _ (line_by-send (codes "send") ws refl ∙ send_ends ws flow digits rest named left)
    (inl (in_place_read version flow digits payload body is plain few)))
