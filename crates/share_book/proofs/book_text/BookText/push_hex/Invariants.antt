use Rattle.std.proofs.Common.{◌≡◌, ◌≤◌, ◌-◌, length, take}
use Rattle.share_model.specs.text.Lines.{hex}
use Rattle.share_book.specs.Texts.{with_bytes}
use Rattle.share_book.proofs.book_text.BookText.push_hex.Given as goal

abbrev pub invariant-pieces : goal.invariant-pieces
invariant-pieces l =
    (l.at ≤ length l.bytes) × (l.self ≡ with_bytes l.initial.self (hex (take l.at l.bytes)))

abbrev pub decreases-pieces : goal.decreases-pieces
decreases-pieces l = length l.bytes - l.at
