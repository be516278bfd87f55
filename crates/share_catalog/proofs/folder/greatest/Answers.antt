use Rattle.std.proofs.Common.{◌≡◌, ◌+◌, take, arith}
use Rattle.share_catalog.specs.Folder.{greatest}
use Rattle.share_catalog.proofs.NameLemmas.{greatest_more}
use Rattle.share_catalog.proofs.folder.greatest.Goals as goal

pub loop-number-preserved : goal.loop-number-preserved
loop-number-preserved c =
    let more = greatest_more c.args.numbers.now c.loop-number.number-index c.loop-number-test.true in
    let next : c.larger-most.result ≡ greatest (take (c.loop-number.number-index + 1) c.args.numbers.now) =
    omega (arith, c.larger-most.ensures, c.loop-number.invariant, more) in
    next
