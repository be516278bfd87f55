-- Lines that come one after the other.
use Rattle.std.specs.Prelude.{ℕ, ◌+◌, ◌==◌, Bool, ◌&&◌, List, [], ◌∷◌, if◌then◌else◌}
use Rattle.share_messages.specs.Kinds.{index_of}
use Rattle.share_messages.specs.Limits.{MessagesView, after_line, decision_of}
use Rattle.share_messages.specs.declared.kind.Kind.{Kind}

-- a line is its kind, and the second in which it comes: whether it is of a kind
abbrev pub is_of : Kind → Kind × ℕ → Bool
is_of kind line = index_of line.0 == index_of kind

abbrev pub one_if : Bool → ℕ
one_if is = if is then 1 else 0

-- the number of lines of a kind that come
unfoldable pub count_of : Kind → List (Kind × ℕ) → ℕ
count_of kind [] = 0
count_of kind (l ∷ ls) = one_if (is_of kind l) + count_of kind ls

-- the number of lines of a kind that are printed
unfoldable pub printed_of : Kind → MessagesView → List (Kind × ℕ) → ℕ
printed_of kind m [] = 0
printed_of kind m (l ∷ ls) =
    one_if (is_of kind l && (decision_of l.0 l.1 m).is_printed) + printed_of kind (after_line l.0 l.1 m) ls

-- the number of lines of a kind that are reported as left out
unfoldable pub reported_of : Kind → MessagesView → List (Kind × ℕ) → ℕ
reported_of kind m [] = 0
reported_of kind m (l ∷ ls) =
    (if is_of kind l then (decision_of l.0 l.1 m).left_out else 0) + reported_of kind (after_line l.0 l.1 m) ls

unfoldable pub after_lines : MessagesView → List (Kind × ℕ) → MessagesView
after_lines m [] = m
after_lines m (l ∷ ls) = after_lines (after_line l.0 l.1 m) ls
