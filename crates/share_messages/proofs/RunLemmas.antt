-- The lines that are printed of those that come one after the other.
use Rattle.std.proofs.Common.{◌≡◌, ◌<◌, ◌≤◌, ◌+◌, ◌-◌, ◌^◌, ◌&&◌, ℕ, suc, Bool, true, false, List, [], ◌∷◌, length}
use Rattle.std.proofs.Common.{refl, sym, ap, subst, ◌∙◌, arith}
use Rattle.std.specs.Prelude.{◌==◌, not, if◌then◌else◌}
use Rattle.std.specs.List.{list_all}
use Rattle.std.proofs.lemmas.Bool.{and_parts}
use Rattle.std.proofs.lemmas.Bool.Decides.{nat_tests}
use Rattle.std.proofs.lemmas.List.{get_or-set_other, get_or-set_same, length-set}
use Rattle.share_timing.specs.Limiter.{LimiterView, after_message, after_second, new_limiter, printing_of}
use Rattle.share_messages.specs.Kinds.{index_of, is_limited_kind, is_quiet_kind}
use Rattle.share_messages.specs.Limits.{MessagesView, after_line, decision_of, is_silent, limited, limiter_of}
use Rattle.share_messages.specs.Limits.{new_messages}
use Rattle.share_messages.specs.Limits.{prints, with_limiter}
use Rattle.share_messages.specs.Runs.{after_lines, count_of, is_of, one_if, printed_of, reported_of}
use Rattle.share_messages.specs.declared.kind.Kind.{Kind}
use Rattle.share_messages.specs.declared.messages.Decision.{Decision}
use Rattle.share_messages.proofs.KindLemmas.{few_kinds, new_is_empty, same_kind, unlimited_is_quiet}

equal : (a b : ℕ) → (a == b) ≡ true → a ≡ b
equal a b e = grind (arith, nat_tests)

apart : (a b : ℕ) → (a == b) ≡ false → ¬ (b ≡ a)
apart a b e same = grind (arith, nat_tests)

-- the messages after a line, if it is limited and after one that is not

abbrev chosen : Bool → Kind → LimiterView → MessagesView → MessagesView
chosen is kind l m = if is then with_limiter kind l m else m

abbrev next_limiter : Kind → ℕ → MessagesView → LimiterView
next_limiter kind second m = after_message (after_second second (limiter_of kind m)).1

chosen_size : (is : Bool) (kind : Kind) (l : LimiterView) (m : MessagesView)
    → length (chosen is kind l m).limiters ≡ length m.limiters
chosen_size true kind l m = length-set m.limiters (index_of kind) l
chosen_size false kind l m = refl

chosen_quiet : (is : Bool) (kind : Kind) (l : LimiterView) (m : MessagesView)
    → (chosen is kind l m).is_quiet ≡ m.is_quiet
chosen_quiet true kind l m = refl
chosen_quiet false kind l m = refl

chosen_other : (is : Bool) (kind other : Kind) (l : LimiterView) (m : MessagesView) → ¬ (index_of kind ≡ index_of other)
    → limiter_of kind (chosen is other l m) ≡ limiter_of kind m
chosen_other true kind other l m far = get_or-set_other m.limiters (index_of other) (index_of kind) l new_limiter far
chosen_other false kind other l m far = refl

chosen_same : (is : Bool) (kind : Kind) (l : LimiterView) (m : MessagesView) → is ≡ true → length m.limiters ≡ 18
    → limiter_of kind (chosen is kind l m) ≡ l
chosen_same true kind l m e size =
    let few = few_kinds kind in
    get_or-set_same m.limiters (index_of kind) l new_limiter (omega (arith, few, size))
chosen_same false kind l m e size = absurd (cc)

abbrev is_counted : Kind → MessagesView → Bool
is_counted kind m = is_limited_kind kind && not (is_silent kind m)

same_size : (kind : Kind) (second : ℕ) (m : MessagesView)
    → length (after_line kind second m).limiters ≡ length m.limiters
same_size kind second m = chosen_size (is_counted kind m) kind (next_limiter kind second m) m

same_quiet : (kind : Kind) (second : ℕ) (m : MessagesView) → (after_line kind second m).is_quiet ≡ m.is_quiet
same_quiet kind second m = chosen_quiet (is_counted kind m) kind (next_limiter kind second m) m

other_limiter : (kind other : Kind) (second : ℕ) (m : MessagesView) → ¬ (index_of kind ≡ index_of other)
    → limiter_of kind (after_line other second m) ≡ limiter_of kind m
other_limiter kind other second m far = chosen_other (is_counted other m) kind other (next_limiter other second m) m far

both : (a b : Bool) → a ≡ true → b ≡ false → (a && not b) ≡ true
both true false e f = refl
both true true e f = absurd (cc)
both false b e f = absurd (cc)

same_limiter : (kind : Kind) (second : ℕ) (m : MessagesView) → length m.limiters ≡ 18 → is_limited_kind kind ≡ true
    → is_silent kind m ≡ false → limiter_of kind (after_line kind second m) ≡ next_limiter kind second m
same_limiter kind second m size is loud =
    let is_chosen = both (is_limited_kind kind) (is_silent kind m) is loud in
    chosen_same (is_counted kind m) kind (next_limiter kind second m) m is_chosen size

-- the decision on a line

abbrev decided : Bool → Bool → Decision → Decision
decided silent is d =
    if silent then record { left_out = 0; is_printed = false }
    else (if is then d else record { left_out = 0; is_printed = true })

decided_limited : (silent is : Bool) (d : Decision) → silent ≡ false → is ≡ true → decided silent is d ≡ d
decided_limited false true d e f = refl
decided_limited false false d e f = absurd (cc)
decided_limited true is d e f = absurd (cc)

decided_unlimited : (silent is : Bool) (d : Decision) → silent ≡ false → is ≡ false
    → (decided silent is d).is_printed ≡ true
decided_unlimited false false d e f = refl
decided_unlimited false true d e f = absurd (cc)
decided_unlimited true is d e f = absurd (cc)

decided_silent : (silent is : Bool) (d : Decision) → silent ≡ true → (decided silent is d).is_printed ≡ false
decided_silent true is d e = refl
decided_silent false is d e = absurd (cc)

limited_decision : (kind : Kind) (second : ℕ) (m : MessagesView) → is_limited_kind kind ≡ true
    → is_silent kind m ≡ false
    → decision_of kind second m ≡ limited (after_second second (limiter_of kind m))
limited_decision kind second m is loud =
    let made : Decision = limited (after_second second (limiter_of kind m)) in
    decided_limited (is_silent kind m) (is_limited_kind kind) made loud is

-- each line is counted

counted_once : (second : ℕ) (l : LimiterView) → l.left_out + 1 < 2 ^ 64
    → one_if (prints (printing_of (after_second second l).1)) + (after_second second l).0
    + (after_message (after_second second l).1).left_out ≡ l.left_out + 1
counted_once second l few = grind (arith, nat_tests)

abbrev waiting : Kind → MessagesView → ℕ
waiting kind m = (limiter_of kind m).left_out

abbrev Counts : Kind → Kind → ℕ → MessagesView → Type 0
Counts kind other second m =
    one_if (decision_of other second m).is_printed + (decision_of other second m).left_out
    + waiting kind (after_line other second m) ≡ waiting kind m + 1

counted_at_kind : (kind : Kind) (second : ℕ) (m : MessagesView) → length m.limiters ≡ 18 → is_limited_kind kind ≡ true
    → is_silent kind m ≡ false → waiting kind m + 1 < 2 ^ 64 → Counts kind kind second m
counted_at_kind kind second m size is loud few =
    let l : LimiterView = limiter_of kind m in
    let after : LimiterView = limiter_of kind (after_line kind second m) in
    let made : Decision = limited (after_second second l) in
    let ByDecision : Decision → Type 0 = λ d. one_if d.is_printed + d.left_out + after.left_out ≡ l.left_out + 1 in
    let ByLimiter : LimiterView → Type 0 = λ x. one_if made.is_printed + made.left_out + x.left_out ≡ l.left_out + 1 in
    subst ByDecision (sym (limited_decision kind second m is loud))
    (subst ByLimiter (sym (same_limiter kind second m size is loud)) (counted_once second l few))

zero_more : (a b : ℕ) → a ≡ b → 0 + 0 + a ≡ b + 0
zero_more a b e = omega (arith, e)

counted_by : (is : Bool) (kind : Kind) (line : Kind × ℕ) (m : MessagesView) → is_of kind line ≡ is
    → length m.limiters ≡ 18 → is_limited_kind kind ≡ true → is_silent kind m ≡ false → waiting kind m + 1 < 2 ^ 64
    → one_if (is && (decision_of line.0 line.1 m).is_printed)
    + (if is then (decision_of line.0 line.1 m).left_out else 0)
    + waiting kind (after_line line.0 line.1 m) ≡ waiting kind m + one_if is
counted_by true kind line m e size limits loud few =
    let same : kind ≡ line.0 = sym (same_kind line.0 kind (equal _ _ e)) in
    let At : Kind → Type 0 = λ other. Counts kind other line.1 m in
    subst At same (counted_at_kind kind line.1 m size limits loud few)
counted_by false kind line m e size limits loud few =
    let same = ap (λ l. l.left_out) (other_limiter kind line.0 line.1 m (apart _ _ e)) in
    zero_more _ _ same

add_up : (p1 t1 w w1 c1 p t c w2 : ℕ) → p1 + t1 + w1 ≡ w + c1 → p + t + w2 ≡ w1 + c
    → (p1 + p) + (t1 + t) + w2 ≡ w + (c1 + c)
add_up p1 t1 w w1 c1 p t c w2 e f = omega (arith, e, f)

still_few : (p t w w1 n : ℕ) (is : Bool) → p + t + w1 ≡ w + one_if is → w + suc n < 2 ^ 64 → w1 + n < 2 ^ 64
still_few p t w w1 n true e few = omega (arith, e, few)
still_few p t w w1 n false e few = omega (arith, e, few)

one_fits : (w n : ℕ) → w + suc n < 2 ^ 64 → w + 1 < 2 ^ 64
one_fits w n few = omega (arith, few)

nothing_yet : (w : ℕ) → 0 + 0 + w ≡ w + 0
nothing_yet w = omega arith

counted : (kind : Kind) (lines : List (Kind × ℕ)) (m : MessagesView) → length m.limiters ≡ 18
    → is_limited_kind kind ≡ true → is_silent kind m ≡ false → waiting kind m + length lines < 2 ^ 64
    → printed_of kind m lines + reported_of kind m lines + waiting kind (after_lines m lines)
    ≡ waiting kind m + count_of kind lines
unfolding printed_of reported_of after_lines count_of
counted kind [] m size limits loud few = nothing_yet (waiting kind m)
counted kind (line ∷ lines) m size limits loud few =
    let next : MessagesView = after_line line.0 line.1 m in
    let step = counted_by (is_of kind line) kind line m refl size limits loud (one_fits _ _ few) in
    let quiet = ap (λ q. q && not (is_quiet_kind kind)) (same_quiet line.0 line.1 m) ∙ loud in
    let rest = counted kind lines next (same_size line.0 line.1 m ∙ size) limits quiet
    (still_few _ _ _ _ (length lines) (is_of kind line) step few) in
    add_up _ _ _ _ _ _ _ _ _ step rest

-- ten lines a second

-- the number of lines that may still be printed in a second
abbrev room : ℕ → LimiterView → ℕ
room second l = if second == l.second then 10 - l.printed else 10

less_room : (second : ℕ) (l : LimiterView)
    → one_if (prints (printing_of (after_second second l).1)) + room second (after_message (after_second second l).1)
    ≤ room second l
less_room second l = grind (arith, nat_tests)

ten_at_most : (second : ℕ) (l : LimiterView) → room second l ≤ 10
ten_at_most second l = grind (arith, nat_tests)

abbrev TakesRoom : Kind → Kind → ℕ → MessagesView → Type 0
TakesRoom kind other second m =
    one_if (decision_of other second m).is_printed + room second (limiter_of kind (after_line other second m))
    ≤ room second (limiter_of kind m)

room_at_loud : (kind : Kind) (second : ℕ) (m : MessagesView) → length m.limiters ≡ 18 → is_limited_kind kind ≡ true
    → is_silent kind m ≡ false → TakesRoom kind kind second m
room_at_loud kind second m size is loud =
    let l : LimiterView = limiter_of kind m in
    let after : LimiterView = limiter_of kind (after_line kind second m) in
    let made : Decision = limited (after_second second l) in
    let ByDecision : Decision → Type 0 = λ d. one_if d.is_printed + room second after ≤ room second l in
    let ByLimiter : LimiterView → Type 0 = λ x. one_if made.is_printed + room second x ≤ room second l in
    subst ByDecision (sym (limited_decision kind second m is loud))
    (subst ByLimiter (sym (same_limiter kind second m size is loud)) (less_room second l))

neither : (a b : Bool) → b ≡ true → (a && not b) ≡ false
neither true true e = refl
neither false true e = refl
neither a false e = absurd (cc)

chosen_none : (is : Bool) (kind : Kind) (l : LimiterView) (m : MessagesView) → is ≡ false → chosen is kind l m ≡ m
chosen_none false kind l m e = refl
chosen_none true kind l m e = absurd (cc)

no_more : (is : Bool) (a b : ℕ) → is ≡ false → a ≡ b → one_if is + a ≤ b
no_more false a b e f = omega (arith, f)
no_more true a b e f = absurd (cc)

room_at_silent : (kind : Kind) (second : ℕ) (m : MessagesView) → is_silent kind m ≡ true → TakesRoom kind kind second m
room_at_silent kind second m silent =
    let made : Decision = limited (after_second second (limiter_of kind m)) in
    let none = decided_silent (is_silent kind m) (is_limited_kind kind) made silent in
    let is_same = neither (is_limited_kind kind) (is_silent kind m) silent in
    let same = chosen_none (is_counted kind m) kind (next_limiter kind second m) m is_same in
    no_more _ _ _ none (ap (λ x. room second (limiter_of kind x)) same)

room_at_kind : (silent : Bool) (kind : Kind) (second : ℕ) (m : MessagesView) → is_silent kind m ≡ silent
    → length m.limiters ≡ 18 → is_limited_kind kind ≡ true → TakesRoom kind kind second m
room_at_kind true kind second m e size is = room_at_silent kind second m e
room_at_kind false kind second m e size is = room_at_loud kind second m size is e

room_by : (is : Bool) (kind other : Kind) (second : ℕ) (m : MessagesView) → (index_of other == index_of kind) ≡ is
    → length m.limiters ≡ 18 → is_limited_kind kind ≡ true
    → one_if (is && (decision_of other second m).is_printed) + room second (limiter_of kind (after_line other second m))
    ≤ room second (limiter_of kind m)
room_by true kind other second m e size limits =
    let same : kind ≡ other = sym (same_kind other kind (equal _ _ e)) in
    let At : Kind → Type 0 = λ other. TakesRoom kind other second m in
    subst At same (room_at_kind (is_silent kind m) kind second m refl size limits)
room_by false kind other second m e size limits =
    no_more false _ _ refl (ap (room second) (other_limiter kind other second m (apart _ _ e)))

room_for_both : (a b r r1 : ℕ) → a + r1 ≤ r → b ≤ r1 → a + b ≤ r
room_for_both a b r r1 e f = omega (arith, e, f)

room_left : (kind : Kind) (second : ℕ) (lines : List (Kind × ℕ)) (m : MessagesView) → length m.limiters ≡ 18
    → is_limited_kind kind ≡ true → list_all (λ l. l.1 == second) lines ≡ true
    → printed_of kind m lines ≤ room second (limiter_of kind m)
unfolding printed_of
room_left kind second [] m size limits same = omega arith
room_left kind second (line ∷ lines) m size limits same =
    let parts = and_parts _ _ same in
    let now : second ≡ line.1 = sym (equal _ _ parts.0) in
    let next : MessagesView = after_line line.0 line.1 m in
    let At : ℕ → Type 0 = λ s.
    one_if (is_of kind line && (decision_of line.0 s m).is_printed)
    + room second (limiter_of kind (after_line line.0 s m))
    ≤ room second (limiter_of kind m) in
    let step = subst At now (room_by (is_of kind line) kind line.0 second m refl size limits) in
    room_for_both _ _ _ _ step (room_left kind second lines next (same_size line.0 line.1 m ∙ size) limits parts.1)

-- lines that are never left out

printed_by : (is : Bool) (kind other : Kind) (second : ℕ) (m : MessagesView) → (index_of other == index_of kind) ≡ is
    → is_limited_kind kind ≡ false → one_if (is && (decision_of other second m).is_printed) ≡ one_if is
printed_by true kind other second m e free =
    let same : kind ≡ other = sym (same_kind other kind (equal _ _ e)) in
    let At : Kind → Type 0 = λ k. one_if (decision_of k second m).is_printed ≡ 1 in
    let loud = neither m.is_quiet (is_quiet_kind kind) (unlimited_is_quiet kind free) in
    let other_way : Decision = limited (after_second second (limiter_of kind m)) in
    let made = decided_unlimited (is_silent kind m) (is_limited_kind kind) other_way loud free in
    subst At same (ap one_if made)
printed_by false kind other second m e free = refl

sum_same : (a b c d : ℕ) → a ≡ b → c ≡ d → a + c ≡ b + d
sum_same a b c d e f = omega (arith, e, f)

all_printed : (kind : Kind) (lines : List (Kind × ℕ)) (m : MessagesView) → is_limited_kind kind ≡ false
    → printed_of kind m lines ≡ count_of kind lines
unfolding printed_of count_of
all_printed kind [] m free = refl
all_printed kind (line ∷ lines) m free =
    let step = printed_by (is_of kind line) kind line.0 line.1 m refl free in
    let rest = all_printed kind lines (after_line line.0 line.1 m) free in
    sum_same _ _ _ _ step rest

-- from the beginning on

after_size : (lines : List (Kind × ℕ)) (m : MessagesView) → length (after_lines m lines).limiters ≡ length m.limiters
unfolding after_lines
after_size [] m = refl
after_size (line ∷ lines) m = after_size lines (after_line line.0 line.1 m) ∙ same_size line.0 line.1 m

below : (a b c : ℕ) → a ≤ b → b ≤ c → a ≤ c
below a b c e f = omega (arith, e, f)

from_zero : (a w c : ℕ) → w ≡ 0 → a ≡ w + c → a ≡ c
from_zero a w c e f = omega (arith, e, f)

fits_from_zero : (w n : ℕ) → w ≡ 0 → n < 2 ^ 64 → w + n < 2 ^ 64
fits_from_zero w n e few = omega (arith, e, few)

pub ten_a_second : (is_quiet : Bool) (kind : Kind) (second : ℕ) (before lines : List (Kind × ℕ))
    → is_limited_kind kind ≡ true
    → list_all (λ l. l.1 == second) lines ≡ true
    → printed_of kind (after_lines (new_messages is_quiet) before) lines ≤ 10
ten_a_second is_quiet kind second before lines limits same =
    let m : MessagesView = after_lines (new_messages is_quiet) before in
    let left = room_left kind second lines m (after_size before (new_messages is_quiet)) limits same in
    let most = ten_at_most second (limiter_of kind m) in
    below _ _ _ left most

pub all_counted : (is_quiet : Bool) (kind : Kind) (lines : List (Kind × ℕ)) → length lines < 2 ^ 64
    → is_limited_kind kind ≡ true → is_silent kind (new_messages is_quiet) ≡ false
    → printed_of kind (new_messages is_quiet) lines + reported_of kind (new_messages is_quiet) lines
    + (limiter_of kind (after_lines (new_messages is_quiet) lines)).left_out ≡ count_of kind lines
all_counted is_quiet kind lines few limits loud =
    let empty = new_is_empty kind is_quiet in
    from_zero _ _ _ empty (counted kind lines (new_messages is_quiet) refl limits loud (fits_from_zero _ _ empty few))

pub never_left_out : (is_quiet : Bool) (kind : Kind) (lines : List (Kind × ℕ)) → is_limited_kind kind ≡ false
    → printed_of kind (new_messages is_quiet) lines ≡ count_of kind lines
never_left_out is_quiet kind lines free = all_printed kind lines (new_messages is_quiet) free
