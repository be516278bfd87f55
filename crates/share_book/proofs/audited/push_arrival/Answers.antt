use Rattle.std.proofs.Common.{◌≤◌, ap, arith, length, subst}
use Rattle.share_book.specs.Texts.{longest_line, text_room}
use Rattle.share_book.specs.declared.book_text.TextKind.{TextKind}
use Rattle.share_book.proofs.HexLemmas.{feed-room}
use Rattle.share_book.proofs.audited.push_arrival.Goals as goal

pub push-requires-in-Whole : goal.push-requires-in-Whole
push-requires-in-Whole c =
    let room = subst (λ (kind : TextKind). longest_line kind ≤ text_room c.args.text.now) c.in-Whole.is c.requires in
    let head = ap length c.as_bytes.ensures in
    let few = c.spelled_send.ensures.few in
    let payload = ap length c.as_slice.ensures.value in
    let short = c.as_slice.ensures.few in
    feed-room c.args.text.now c.push.new.self c.push_hex.new.self c.as_bytes.result.now c.as_slice.result.now
    c.push.ensures c.push_hex.ensures (omega (arith, room, head, few, payload, short))
