use Rattle.std.proofs.Common.{◌≡◌, take}
use Rattle.share_catalog.specs.Folder.{greatest}
use Rattle.share_catalog.proofs.folder.greatest.Given as goal

abbrev pub invariant-loop-number : goal.invariant-loop-number
invariant-loop-number l = l.most ≡ greatest (take l.number-index l.numbers)
