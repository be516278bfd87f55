use Rattle.std.proofs.Common.{inl, inr, arith}
use Rattle.std.proofs.lemmas.Bool.{leb-true, ltb-true}
use Rattle.share_ledger.specs.Arrays.{flags_of}
use Rattle.share_ledger.proofs.StretchLemmas.{sources-more, untouched-stretch}
use Rattle.share_ledger.proofs.stale.are_untouched.Goals as goal

pub loop-i-preserved : goal.loop-i-preserved
loop-i-preserved c =
    sources-more c.args.funding.now c.args.from c.loop-i.i c.loop-i.sources c.sources-sources.result
    c.index-funding-from.result c.loop-i.invariant c.index-funding-from.is
    (omega (arith, c.requires.stretch, c.requires.places, c.loop-i-test.true)) c.sources-sources.ensures

pub returns-then-changed-from : goal.returns-then-changed-from
returns-then-changed-from c = λ active before.
    untouched-stretch c.args.funding.now (flags_of c.args.moved.now.flags) c.loop-i.sources c.args.moved.now.bits
    c.args.changed c.args.from c.requires.within c.requires.bits c.if-sources-moved-eq0.true
    (omega (arith, c.requires.stretch)) (inl (ltb-true _ _ before))
    (λ k lt. c.loop-i.invariant k (omega (arith, lt, c.loop-i-test.false))) active

pub returns-else-changed-from : goal.returns-else-changed-from
returns-else-changed-from c = λ active after.
    untouched-stretch c.args.funding.now (flags_of c.args.moved.now.flags) c.loop-i.sources c.args.moved.now.bits
    c.args.changed c.args.from c.requires.within c.requires.bits c.if-sources-moved-eq0.true
    (omega (arith, c.requires.stretch)) (inr (leb-true _ _ after))
    (λ k lt. c.loop-i.invariant k (omega (arith, lt, c.loop-i-test.false))) active
