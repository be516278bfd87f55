use Rattle.std.proofs.Common.{◌+◌, ℕ, arith, sym, ap, ◌∙◌}
use Rattle.share_downlink.proofs.DatagramLemmas.{no_frame, not_frame, other_length, one_frame}
use Rattle.share_downlink.proofs.datagrams.whole_frame.Goals as goal

pub returns-in-More : goal.returns-in-More
returns-in-More c = record {
  frame = tt;
  long = tt;
  other = λ _. no_frame c.args.bytes.now c.read_frame2.result c.read_frame2.ensures.frame (not_frame _ c.in-More.is);
}

pub returns-then-bytes-from-clause-frame : goal.returns-then-bytes-from-clause-frame
returns-then-bytes-from-clause-frame c =
    one_frame c.args.bytes.now c.in-Frame.flow c.in-Frame.seq c.in-Frame.tariff c.in-Frame.len
    ((c.read_frame2.ensures.frame c.in-Frame.flow c.in-Frame.seq c.in-Frame.tariff c.in-Frame.len).0 c.in-Frame.is)
    (omega (arith, c.if-bytes-from.true, c.from.ensures))

pub returns-else-bytes-from-clause-other : goal.returns-else-bytes-from-clause-other
returns-else-bytes-from-clause-other c = λ _.
    other_length c.args.bytes.now c.in-Frame.flow c.in-Frame.seq c.in-Frame.tariff c.in-Frame.len c.read_frame2.result
    c.in-Frame.is c.read_frame2.ensures.frame
    (λ same. c.if-bytes-from.false (same ∙ ap (λ (n : ℕ). 17 + n) (sym c.from.ensures)))
