use Rattle.std.proofs.Common.{inl, codes, refl, sym, ap, ◌∙◌, arith}
use Rattle.share_model.specs.text.Lines.{send_of, turn_of, line_or_refusal}
use Rattle.share_text.proofs.ReadingLemmas.{too_long, reads, reads_same, line_by-send, line_by-turn}
use Rattle.share_text.proofs.reading.read_bytes.Goals as goal

pub returns-then-bytes-gt-MAX_LINE : goal.returns-then-bytes-gt-MAX_LINE
returns-then-bytes-gt-MAX_LINE c = inl (too_long c.args.version c.args.bytes.now (omega arith))

pub returns-in-Some : goal.returns-in-Some
returns-in-Some c =
    reads c.args.version c.args.bytes.now (codes "send") _ _ (omega arith) c.in-Some.ensures
    (reads_same _ _ _ _ (line_by-send (codes "send") _ refl ∙ ap send_of (sym c.of.ensures)) c.send.ensures)

pub returns-in-Some-after_turn : goal.returns-in-Some-after_turn
returns-in-Some-after_turn c =
    reads c.args.version c.args.bytes.now (codes "turn") _ _ (omega arith) c.in-Some-after_turn.ensures
    (reads_same _ _ _ _ (line_by-turn _)
    (inl (c.line_or_refusal.ensures ∙ ap (line_or_refusal c.args.version) (c.turn.ensures
    ∙ ap turn_of c.of-in-Some-after_turn.ensures))))
