use Rattle.std.proofs.Common.{◌∙◌, sym, ap, arith}
use Rattle.share_model.specs.text.Lines.{words_of, number_of}
use Rattle.share_text.specs.Words.{last}
use Rattle.share_text.proofs.ReadingLemmas.{turn_read, reads-spelled}
use Rattle.share_text.proofs.reading.read_turn.Goals as goal

pub returns-then-most-le65535-clause-reads : goal.returns-then-most-le65535-clause-reads
returns-then-most-le65535-clause-reads c version =
    turn_read version c.args.bytes.now (words_of c.in_ok-after_turn.field-0.now) c.in_ok-most.most
    (omega (arith, c.if-bytes-gt-MAX_LINE.false)) c.in_ok-after_turn.ensures
    (ap (last number_of) (sym c.of.ensures) ∙ sym c.last_number.ensures ∙ c.in_ok-most.was)
    c.if-most-ge1.true c.if-most-le65535.true

pub returns-then-most-le65535-clause-spelled : goal.returns-then-most-le65535-clause-spelled
returns-then-most-le65535-clause-spelled c version =
    reads-spelled version c.args.bytes.now _ (returns-then-most-le65535-clause-reads c version)
