use Rattle.std.proofs.Common.{sym}
use Rattle.share_text.proofs.DigitLemmas.{even_payload, no_payload}
use Rattle.share_text.proofs.payload.is_payload.Goals as goal

pub returns-then-not-has_pairs : goal.returns-then-not-has_pairs
returns-then-not-has_pairs c = sym (no_payload c.args.word.now (sym c.if-not-has_pairs.ensures))

pub returns : goal.returns
returns c = even_payload c.args.word.now c.has_digits.result c.has_digits.ensures (sym c.if-not-has_pairs.ensures)
