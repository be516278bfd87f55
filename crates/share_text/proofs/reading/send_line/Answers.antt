use Rattle.std.proofs.Common.{◌≡◌, ◌≤◌, ◌++◌, ◌∙◌, take, drop, length, arith}
use Rattle.std.proofs.lemmas.List.{length-drop, take-append-le, take_all}
use Rattle.share_base.specs.declared.version.TheConstants.{HEADER_ROOM}
use Rattle.share_text.proofs.ReadingLemmas.{sent_whole, unread_long, unread_unheld}
use Rattle.share_text.proofs.reading.send_line.Goals as goal

pub returns-then-digits-payload : goal.returns-then-digits-payload
returns-then-digits-payload c =
    unread_long c.args.version c.args.flow c.args.digits.now c.unread.result (omega (arith, c.payload.ensures))
    c.unread.ensures

pub returns-in_default : goal.returns-in_default
returns-in_default c =
    unread_unheld c.args.version c.args.flow c.args.digits.now c.unread-in_default.result
    (omega (arith, c.payload.ensures)) c.unread-in_default.ensures

pub returns-in-Some : goal.returns-in-Some
returns-in-Some c =
    let bytes = c.decode_behind.new.bytes in
    let long : c.in-Ok.bytes.len ≤ length bytes = omega (arith, c.in-Some.ensures.long) in
    let short : length bytes ≤ c.in-Ok.bytes.len = omega (arith, c.in-Some.ensures.long) in
    let kept : take c.in-Ok.bytes.len (bytes ++ drop (length bytes) c.in-Ok.bytes.items) ≡ bytes =
    take-append-le c.in-Ok.bytes.len bytes _ long ∙ take_all c.in-Ok.bytes.len bytes short in
    rw (c.from_vec.ensures, kept)
    (sent_whole c.args.version c.args.flow c.args.digits.now _ _ c.in-Some.ensures.payload c.in-Some.ensures.half
    (omega (arith, length-drop HEADER_ROOM bytes, c.in-Some.ensures.half)) (omega (arith, c.payload.ensures)))
