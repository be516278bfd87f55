use Rattle.std.proofs.Common.{◌≤◌, ◌+◌, ◌-◌, ◌*◌, ◌∙◌, ap, arith, length, take, drop, subst, sym}
use Rattle.share_model.specs.text.Lines.{hex}
use Rattle.share_book.specs.Texts.{TextView, text_room, with_bytes}
use Rattle.share_book.proofs.HexLemmas.{piece-room, piece-digits, piece-long, with-piece}
use Rattle.share_book.proofs.book_text.BookText.push_hex.Goals as goal

pub push-requires : goal.push-requires
push-requires c =
    let inside : c.pieces.at + c.min-count.result ≤ length c.args.bytes.now = omega arith in
    let long = piece-long c.args.bytes.now c.spell.new.text c.pieces.at c.min-count.result inside c.spell.ensures in
    let room = piece-room c.args.self.now c.args.bytes.now c.pieces.at c.min-count.result inside c.requires in
    subst (λ (t : TextView). length (take (2 * c.min-count.result) c.spell.new.text) ≤ text_room t)
    (sym c.pieces.invariant.1) (omega (arith, long, room))

pub pieces-preserved : goal.pieces-preserved
pieces-preserved c =
    let inside : c.pieces.at + c.min-count.result ≤ length c.args.bytes.now = omega arith in (
      inside,
      c.push.ensures
          ∙ ap (with_bytes c.pieces.self)
          (piece-digits c.args.bytes.now c.spell.new.text c.pieces.at c.min-count.result inside c.spell.ensures)
          ∙ ap (λ (t : TextView). with_bytes t (hex (take (c.pieces.at + c.min-count.result - c.pieces.at)
          (drop c.pieces.at c.args.bytes.now)))) c.pieces.invariant.1
          ∙ with-piece c.args.self.now c.args.bytes.now c.pieces.at c.min-count.result,
    )
