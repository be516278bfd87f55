use Rattle.std.proofs.Common.{◌≡◌, ◌∙◌, sym, bit_and, nat_eq, not, ap, arith}
use Rattle.share_ledger.specs.Arrays.{flags_of}
use Rattle.share_ledger.proofs.FundingSourceLemmas.{none-touched}
use Rattle.share_ledger.proofs.stale.touches.Goals as goal

pub returns-else-sources-moved-ne0 : goal.returns-else-sources-moved-ne0
returns-else-sources-moved-ne0 c =
    let apart : bit_and c.sources.result c.args.moved.now.bits ≡ 0 = omega (arith, c.if-sources-moved-ne0.false) in
    ap (λ n. not (nat_eq n 0)) apart
    ∙ sym (none-touched c.sources.result c.args.moved.now.bits (flags_of c.args.moved.now.flags) c.args.holder.now apart
    c.requires.bits c.requires.within c.sources.ensures)
