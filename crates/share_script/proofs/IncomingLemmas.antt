-- The lines of a connection: what is kept of one, which is the next, and that they are those of all that comes.
use Rattle.std.proofs.Common.{◌≡◌, ◌<◌, ◌≤◌, ℕ, Bool, true, false, List, [], ◌∷◌, ◌++◌, ◌+◌, length, take}
use Rattle.std.proofs.Common.{drop, map, get_or, if◌then◌else◌, Option, inl, inr, Some, None, arith, sym, ◌∙◌, ap}
use Rattle.std.proofs.Common.{subst, refl, length-take}
use mathlib.Core.List.{append_assoc}
use Rattle.memchr.specs.Find.{IsFirstByte}
use Rattle.std.proofs.lemmas.List.{append-nil, take_all, take_more, take-append-drop}
use Rattle.std.proofs.lemmas.List.Elements.{All-append}
use Rattle.std.proofs.lemmas.Bool.Decides.{nat_tests}
use Rattle.share_model.specs.declared.reader.Got.{Got}
use Rattle.share_model.specs.text.Talk.{is_feed}
use Rattle.share_model.proofs.lemmas.text.LineFeedLemmas.{lines-feed}
use Rattle.share_script.specs.Script.{NoFeed}
use Rattle.share_script.specs.Lines.{FirstLine, IsUnfinished, IsNextLine, IsPieceKept, unless_long, incoming_lines}
use Rattle.share_script.specs.Lines.{given_by}
use Rattle.share_script.specs.Lines.{Took, took_nothing, took_next, took_read, Connection, connection}
use Rattle.share_script.specs.Lines.{ReadCall, Came}
use Rattle.share_script.specs.declared.lines.Incoming.{Incoming}
use Rattle.share_script.specs.declared.lines.Incoming.TheVariants.{Line, OverLong, Unfinished}
use Rattle.share_script.proofs.ChunkLemmas.{feed_byte}
use Rattle.share_script.proofs.LineLemmas.{SameLines, clean_cut, cut_or_long}
use Rattle.share_text.proofs.WordLemmas.{passes_before}

-- Lines of all that comes

long_none : (line : List ℕ) → 20480 < length line → unless_long line ≡ None
long_none line h = grind (arith, nat_tests)

whole_some : (line : List ℕ) → length line ≤ 20480 → unless_long line ≡ Some line
whole_some line h = grind (arith, nat_tests)

incoming_first : (bytes line rest more : List ℕ) → FirstLine bytes line rest
    → incoming_lines (bytes ++ more) ≡ unless_long line ∷ incoming_lines (rest ++ more)
incoming_first bytes line rest more first =
    ap (λ b. incoming_lines (b ++ more)) first.whole
    ∙ ap incoming_lines (append_assoc line (10 ∷ rest) more)
    ∙ ap (map unless_long) (lines-feed line (rest ++ more) first.clean)

incoming_long : (xs ys : List ℕ) → SameLines xs ys → incoming_lines xs ≡ incoming_lines ys
incoming_long xs ys e =
    ap (map unless_long) e.xs_are
    ∙ ap (λ l. l ∷ map unless_long e.rest) (long_none e.first e.first_long ∙ sym (long_none e.other e.other_long))
    ∙ sym (ap (map unless_long) e.ys_are)

incoming_cut : (bs more : List ℕ) → NoFeed bs → incoming_lines (bs ++ more) ≡ incoming_lines (take 20481 bs ++ more)
incoming_cut bs more clean = elim (cut_or_long bs more clean) [
  | inl e ↦ ap (λ b. incoming_lines (b ++ more)) e
  | inr e ↦ incoming_long _ _ e
]

-- the lines of what was ahead are the one that was given, and those of what is ahead after it
next_lines : (ahead : List ℕ) (found : Incoming) (line rest more : List ℕ) → IsNextLine ahead found line rest
    → incoming_lines (ahead ++ more) ≡ given_by found line ++ incoming_lines (rest ++ more)
next_lines ahead Line line rest more next =
    incoming_first ahead line rest more next.0
    ∙ ap (λ l. l ∷ incoming_lines (rest ++ more)) (whole_some line next.1)
next_lines ahead OverLong line rest more next =
    incoming_first ahead next.1.0 rest more next.1.1
    ∙ ap (λ l. l ∷ incoming_lines (rest ++ more)) (long_none next.1.0 next.1.2)
next_lines ahead Unfinished line rest more next =
    incoming_cut ahead more next.1
    ∙ ap (λ b. incoming_lines (b ++ more)) (sym next.3)

-- the lines of the whole text are those that were given, and those of what is ahead
pub took_lines : (text : List ℕ) (given : List (Option (List ℕ))) (ahead : List ℕ) → Took text given ahead
    → (more : List ℕ) → incoming_lines (text ++ more) ≡ given ++ incoming_lines (ahead ++ more)
took_lines _ _ _ took_nothing more = refl
took_lines _ _ _ (took_next text given ahead found line rest took next) more =
    took_lines text given ahead took more
    ∙ ap (λ l. given ++ l) (next_lines ahead found line rest more next)
    ∙ sym (append_assoc given (given_by found line) (incoming_lines (rest ++ more)))
took_lines _ _ _ (took_read text given ahead came took) more =
    ap incoming_lines (append_assoc text came more)
    ∙ took_lines text given ahead took (came ++ more)
    ∙ ap (λ b. given ++ incoming_lines b) (sym (append_assoc ahead came more))

-- The part of a line that is kept

first_line : (bytes : List ℕ) (count : ℕ) → IsFirstByte is_feed bytes (Some count)
    → FirstLine bytes (take count bytes) (drop (count + 1) bytes)
first_line bytes count first =
    let feed : get_or bytes count 0 ≡ 10 = feed_byte _ first.1 in
    let line : take (count + 1) bytes ≡ take count bytes ++ 10 ∷ [] =
    take_more bytes count 0 first.0.high ∙ ap (λ b. take count bytes ++ b ∷ []) feed in
    record {
      whole = sym (take-append-drop (count + 1) bytes)
          ∙ ap (λ r. r ++ drop (count + 1) bytes) line
          ∙ append_assoc (take count bytes) (10 ∷ []) (drop (count + 1) bytes);
      clean = passes_before is_feed bytes count first;
    }

-- if a line was given, nothing of the next one is kept
left_by : (kept : List ℕ) (is_given : Bool) → NoFeed kept → NoFeed (if is_given then [] else kept)
left_by kept true clean = λ k d z. absurd (omega arith)
left_by kept false clean = clean

pub left_clean : (kept left : List ℕ) (is_given : Bool) → left ≡ (if is_given then [] else kept) → NoFeed kept
    → NoFeed left
left_clean kept left is_given is clean = subst NoFeed (sym is) (left_by kept is_given clean)

pub kept_piece : (kept chunk bytes now rest : List ℕ) (count : ℕ) → bytes ≡ chunk
    → IsFirstByte is_feed bytes (Some count) → now ≡ take 20481 (kept ++ take count bytes)
    → rest ≡ drop (count + 1) chunk → IsPieceKept kept chunk true now rest
kept_piece kept chunk bytes now rest count same first kept_is rest_is =
    let behind : rest ≡ drop (count + 1) bytes = rest_is ∙ ap (λ r. drop (count + 1) r) (sym same) in
    let P : List ℕ → Type 0 = λ r. FirstLine bytes (take count bytes) r in
    let Q : List ℕ → Type 0 = λ r. FirstLine r (take count bytes) rest in
    (take count bytes, subst Q same (subst P (sym behind) (first_line bytes count first)), kept_is)

behind_kept : (kept chunk piece rest : List ℕ) → NoFeed kept → FirstLine chunk piece rest
    → FirstLine (kept ++ chunk) (kept ++ piece) rest
behind_kept kept chunk piece rest clean first = record {
  whole = ap (λ r. kept ++ r) first.whole ∙ sym (append_assoc kept piece (10 ∷ rest));
  clean = All-append (λ b. is_feed b ≡ false) kept piece clean first.clean;
}

pub next_whole : (kept chunk now rest : List ℕ) → NoFeed kept → IsPieceKept kept chunk true now rest
    → length now ≤ 20480 → IsNextLine (kept ++ chunk) Line now rest
next_whole kept chunk now rest clean did few =
    let all : List ℕ = kept ++ did.0 in
    let short : length (take 20481 all) ≤ 20480 = subst (λ r. length r ≤ 20480) did.2 few in
    let same : take 20481 all ≡ all = take_all 20481 all (omega (arith, short, length-take 20481 all)) in
    let P : List ℕ → Type 0 = λ r. FirstLine (kept ++ chunk) r rest in
    (subst P (sym (did.2 ∙ same)) (behind_kept kept chunk did.0 rest clean did.1), few)

pub next_long : (kept chunk now rest : List ℕ) → NoFeed kept → IsPieceKept kept chunk true now rest
    → 20480 < length now → IsNextLine (kept ++ chunk) OverLong [] rest
next_long kept chunk now rest clean did many =
    let all : List ℕ = kept ++ did.0 in
    let long : 20480 < length (take 20481 all) = subst (λ r. 20480 < length r) did.2 many in
    (refl, (all, behind_kept kept chunk did.0 rest clean did.1, omega (arith, long, length-take 20481 all)))

pub next_unfinished : (kept chunk now rest : List ℕ) → NoFeed kept → IsPieceKept kept chunk false now rest
    → IsNextLine (kept ++ chunk) Unfinished [] (now ++ rest)
next_unfinished kept chunk now rest clean did =
    let all : List ℕ = kept ++ chunk in
    let none = All-append (λ b. is_feed b ≡ false) kept chunk clean did.0 in
    let ahead : now ++ rest ≡ take 20481 all = ap (λ r. now ++ r) did.1 ∙ append-nil now ∙ did.2 in
    let P : List ℕ → Type 0 = λ r. IsUnfinished r in
    (refl, none, subst P (sym ahead) (clean_cut all none, omega (arith, length-take 20481 all)), ahead)

-- the part that is kept has no line feed
pub kept_clean : (kept chunk now rest : List ℕ) (ended : Bool) → NoFeed kept → IsPieceKept kept chunk ended now rest
    → NoFeed now
kept_clean kept chunk now rest true clean did =
    subst NoFeed (sym did.2)
    (clean_cut (kept ++ did.0) (All-append (λ b. is_feed b ≡ false) kept did.0 clean did.1.clean))
kept_clean kept chunk now rest false clean did =
    subst NoFeed (sym did.2) (clean_cut (kept ++ chunk) (All-append (λ b. is_feed b ≡ false) kept chunk clean did.0))

-- The state after a call

pub next_as : {R : Type 0} (before : Connection R) (reader : R) (kept chunk left : List ℕ) (is_given : Bool)
    (found : Incoming) (line rest : List ℕ)
    → connection reader kept chunk is_given ≡ before → left ≡ (if is_given then [] else kept)
    → IsNextLine (left ++ chunk) found line rest → IsNextLine before.ahead found line rest
next_as {R = R} before reader kept chunk left is_given found line rest is left_is next =
    subst (λ a. IsNextLine a found line rest)
    (ap (λ r. r ++ chunk) left_is ∙ ap (λ (l : Connection R). l.ahead) is) next

pub kept_by : (left kept piece chunk now : List ℕ) → left ≡ kept → piece ≡ chunk → now ≡ take 20481 (left ++ piece)
    → now ≡ take 20481 (kept ++ chunk)
kept_by left kept piece chunk now left_is piece_is is =
    is ∙ ap (λ r. take 20481 (r ++ piece)) left_is ∙ ap (λ r. take 20481 (kept ++ r)) piece_is

read_unfinished : (kept chunk now : List ℕ) (is_given : Bool) (ahead : List ℕ)
    → (if is_given then [] else kept) ++ chunk ≡ ahead → IsUnfinished ahead
    → now ≡ take 20481 ((if is_given then [] else kept) ++ chunk) → now ≡ ahead
read_unfinished kept chunk now is_given ahead is unfinished kept_is =
    kept_is ∙ ap (λ r. take 20481 r) is ∙ take_all 20481 ahead unfinished.1

pub came_behind : {R : Type 0} (left : R → Option (List ℕ)) (gives : R → List ℕ → Got → R → Type 0)
    (before : Connection R) (reader : R) (kept chunk : List ℕ) (is_given : Bool) (got : Got) (after : R)
    (now came : List ℕ)
    → connection reader kept chunk is_given ≡ before → IsUnfinished before.ahead
    → now ≡ take 20481 ((if is_given then [] else kept) ++ chunk) → ReadCall left gives reader got after came
    → Came left gives before got (connection after now came false)
came_behind {R = R} left gives before reader kept chunk is_given got after now came is unfinished kept_is call =
    let ahead_is = ap (λ (l : Connection R). l.ahead) is in
    record {
      came = came;
      call = subst (λ r. ReadCall left gives r got after came) (ap (λ (l : Connection R). l.reader) is) call;
      ahead = ap (λ r. r ++ came)
          (read_unfinished kept chunk now is_given before.ahead ahead_is unfinished kept_is);
      no_line = refl;
    }

pub clean_behind : {R : Type 0} (before : Connection R) (reader : R) (kept chunk : List ℕ) (is_given : Bool)
    (now : List ℕ)
    → connection reader kept chunk is_given ≡ before → IsUnfinished before.ahead
    → now ≡ take 20481 ((if is_given then [] else kept) ++ chunk) → NoFeed now
clean_behind {R = R} before reader kept chunk is_given now is unfinished kept_is =
    subst NoFeed
    (sym (read_unfinished kept chunk now is_given before.ahead (ap (λ (l : Connection R). l.ahead) is) unfinished
    kept_is))
    unfinished.0
