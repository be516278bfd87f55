use Rattle.std.proofs.Common.{◌∙◌, sym, ap, arith}
use Rattle.share_model.specs.text.Lines.{words_of, field, name_of}
use Rattle.share_text.proofs.ReadingLemmas.{packet_read, reads-spelled}
use Rattle.share_text.proofs.reading.read_packet.Goals as goal

pub returns-clause-reads : goal.returns-clause-reads
returns-clause-reads c version =
    packet_read version c.args.bytes.now (words_of c.in_ok-after_send.field-0.now) c.in_ok-flow.flow
    c.in_ok-digits.digits.now _ _ _ (omega (arith, c.if-bytes-gt-MAX_SHORT_PACKET.false))
    c.in_ok-after_send.ensures (ap (field name_of) (sym c.of-words.ensures) ∙ c.in_ok-flow.ensures)
    c.in_ok-digits.ensures c.in_ok-body.ensures.0 c.in_ok-body.ensures.1 c.in_ok-body.ensures.2

pub returns-clause-spelled : goal.returns-clause-spelled
returns-clause-spelled c version =
    reads-spelled version c.args.bytes.now _ (returns-clause-reads c version)
