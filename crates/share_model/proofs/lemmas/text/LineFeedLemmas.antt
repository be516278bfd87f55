-- The spelling of a line holds no line feed, so that lines which are written one after the other are these lines.
use Rattle.std.specs.Prelude.{◌≡◌, ◌<◌, ◌≤◌, ◌/◌, ◌%◌, ℕ, Bool, true, false, List, [], ◌∷◌, ◌++◌}
use Rattle.std.specs.Prelude.{length, map, flat_map, nat_lt, codes, decimal, refl}
use Rattle.std.specs.List.{slice_split, list_all, All, AllByRecursion}
use Rattle.std.specs.Str.Parse.{AllDigits}
use Rattle.std.proofs.Common.{ap, ◌∙◌, arith, append_assoc}
use Rattle.std.proofs.lemmas.Fmt.{decimal_is_IsNumeral}
use Rattle.std.proofs.lemmas.Str.Parse.{digit_from_value}
use Rattle.std.proofs.lemmas.List.Elements.{All-from_recursion}
use Rattle.std.proofs.lemmas.List.Folds.{list_all-append}
use Rattle.std.proofs.lemmas.List.Splits.{slice_split_at, length-slice_split}
use Rattle.std.proofs.lemmas.Bool.Decides.{nat_tests}
use Rattle.std.proofs.lemmas.Bool.{and_parts}
use Rattle.share_base.specs.Name.{is_name_byte}
use Rattle.share_base.specs.declared.command.Command.TheVariants.{MakeCurrency, RemoveCurrency, MakeTicket}
use Rattle.share_base.specs.declared.command.Command.TheVariants.{RemoveTicket, FundCurrency, FundFlow, Unfund}
use Rattle.share_base.specs.declared.command.Command.TheVariants.{OpenFlow, CloseFlow, Hold, Resume, Amend}
use Rattle.share_base.specs.declared.version.Version.TheVariants.{One, Two}
use Rattle.share_model.specs.declared.line.Line.{Line}
use Rattle.share_model.specs.declared.line.Line.TheVariants.{Change, Send, Turn, Torn, Report, Audit}
use Rattle.share_model.specs.lists.Each.{Each}
use Rattle.share_model.specs.text.Audit.{written_line}
use Rattle.share_model.specs.text.Lines.{hex, spelling_of, IsName, IsNumber, HasFields}
use Rattle.share_model.specs.text.Talk.{is_feed, without_empty_end, lines_of}
use Rattle.share_model.proofs.lemmas.text.WordLemmas.{high_hex_digit}

-- Bytes from the space on

is_seen : ℕ → Bool
is_seen b = nat_lt 31 b

IsSeen : List ℕ → Type 0
IsSeen w = list_all is_seen w ≡ true

seen-more : (v w : List ℕ) → IsSeen v → IsSeen w → IsSeen (v ++ w)
unfolding IsSeen
seen-more v w h k = list_all-append is_seen v w ∙ rw (h, k) refl

seen-name_byte : (b : ℕ) → is_name_byte b ≡ true → is_seen b ≡ true
unfolding is_seen
seen-name_byte b h = grind (arith, nat_tests)

seen-name_bytes : (w : List ℕ) → list_all is_name_byte w ≡ true → IsSeen w
unfolding IsSeen
seen-name_bytes [] h = refl
seen-name_bytes (b ∷ bs) h =
    let p : (is_name_byte b ≡ true) × (list_all is_name_byte bs ≡ true) = and_parts _ _ h in
    rw (seen-name_byte b p.0, seen-name_bytes bs p.1) refl

seen-name : (w : List ℕ) → IsName w → IsSeen w
seen-name w h = seen-name_bytes w (and_parts _ _ h).1

seen-digit : (b : ℕ) → 48 ≤ b → is_seen b ≡ true
unfolding is_seen
seen-digit b h = grind (arith, nat_tests)

seen-digits : (ds : List ℕ) → AllDigits 10 ds → IsSeen ds
unfolding IsSeen
seen-digits [] h = refl
seen-digits (d ∷ ds) h = rw (seen-digit d (digit_from_value d h.0).0, seen-digits ds h.1) refl

seen-decimal : (n : ℕ) → IsNumber n → IsSeen (decimal n)
seen-decimal n h = seen-digits _ (decimal_is_IsNumeral n h).0.1

seen-hex : (bs : List ℕ) → IsSeen (hex bs)
unfolding IsSeen
seen-hex [] = refl
seen-hex (b ∷ bs) =
    rw (seen-digit _ (high_hex_digit (b / 16)), seen-digit _ (high_hex_digit (b % 16)), seen-hex bs) refl

seen-spelling_of : (l : Line) → HasFields l → IsSeen (spelling_of l)
unfolding IsSeen is_seen
seen-spelling_of (Change (MakeCurrency name)) h = seen-name name h
seen-spelling_of (Change (RemoveCurrency name)) h = seen-name name h
seen-spelling_of (Change (MakeTicket amount currency)) h =
    seen-more (decimal amount) (32 ∷ currency) (seen-decimal amount h.0) (seen-name currency h.1)
seen-spelling_of (Change (RemoveTicket ticket)) h = seen-decimal ticket h
seen-spelling_of (Change (FundCurrency ticket currency)) h =
    seen-more (decimal ticket) (codes " cur " ++ currency) (seen-decimal ticket h.0) (seen-name currency h.1)
seen-spelling_of (Change (FundFlow ticket flow)) h =
    seen-more (decimal ticket) (codes " flow " ++ flow) (seen-decimal ticket h.0) (seen-name flow h.1)
seen-spelling_of (Change (Unfund ticket)) h = seen-decimal ticket h
seen-spelling_of (Change (OpenFlow name limit tariff)) h =
    seen-more name (32 ∷ (decimal limit ++ 32 ∷ decimal tariff)) (seen-name name h.0)
    (seen-more (decimal limit) (32 ∷ decimal tariff) (seen-decimal limit h.1) (seen-decimal tariff h.2))
seen-spelling_of (Change (CloseFlow name)) h = seen-name name h
seen-spelling_of (Change (Hold name)) h = seen-name name h
seen-spelling_of (Change (Resume name)) h = seen-name name h
seen-spelling_of (Change (Amend ticket amount)) h =
    seen-more (decimal ticket) (32 ∷ decimal amount) (seen-decimal ticket h.0) (seen-decimal amount h.1)
seen-spelling_of (Send flow body) h =
    seen-more flow (32 ∷ hex body.payload) (seen-name flow h.0) (seen-hex body.payload)
seen-spelling_of (Turn most) h = seen-decimal most h
seen-spelling_of Torn h = refl
seen-spelling_of Report h = refl
seen-spelling_of (Audit One) h = refl
seen-spelling_of (Audit Two) h = refl

-- Lines that are written

not_feed : (b : ℕ) → is_seen b ≡ true → is_feed b ≡ false
unfolding is_seen
not_feed b h = grind (arith, nat_tests)

no_feeds : (w : List ℕ) → IsSeen w → AllByRecursion (λ b. is_feed b ≡ false) w
unfolding IsSeen
no_feeds [] h = tt
no_feeds (b ∷ bs) h =
    let p : (is_seen b ≡ true) × (list_all is_seen bs ≡ true) = and_parts _ _ h in (not_feed b p.0, no_feeds bs p.1)

pub without_empty_end-cons : (l : List ℕ) (ls : List (List ℕ)) → 0 < length ls → without_empty_end (l ∷ ls) ≡ l
    ∷ without_empty_end ls
without_empty_end-cons l [] h = absurd (omega arith)
without_empty_end-cons l (m ∷ ms) h = refl

-- a text without a line feed is a line if a line feed follows it, whatever comes after that
pub lines-feed : (bs rest : List ℕ) → All (λ b. is_feed b ≡ false) bs → lines_of (bs ++ 10 ∷ rest) ≡ bs ∷ lines_of rest
lines-feed bs rest clean =
    ap without_empty_end (slice_split_at is_feed bs 10 rest clean refl)
    ∙ without_empty_end-cons bs (slice_split is_feed rest) (omega (arith, length-slice_split is_feed rest))

-- a line that is written is a line of its own, whatever follows
pub lines-written : (l : Line) (rest : List ℕ) → HasFields l
    → lines_of (written_line l ++ rest) ≡ spelling_of l ∷ lines_of rest
lines-written l rest h =
    let clean = All-from_recursion _ (spelling_of l) (no_feeds (spelling_of l) (seen-spelling_of l h)) in
    ap lines_of (append_assoc (spelling_of l) (codes "\n") rest) ∙ lines-feed (spelling_of l) rest clean

-- lines that are written one after the other are these lines
pub lines-all : (ls : List Line) → Each HasFields ls → lines_of (flat_map written_line ls) ≡ map spelling_of ls
lines-all [] h = refl
lines-all (l ∷ ls) h =
    lines-written l (flat_map written_line ls) h.0 ∙ ap (λ r. spelling_of l ∷ r) (lines-all ls h.1)
