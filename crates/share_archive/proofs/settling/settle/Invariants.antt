use Rattle.share_archive.proofs.SettleLemmas.{HasMade}
use Rattle.share_archive.proofs.settling.settle.Given as goal

abbrev pub invariant-loop-looks : goal.invariant-loop-looks
invariant-loop-looks g l = HasMade (g.B.BookFiles.known l.initial.files) (g.B.BookFiles.known l.files) l.looks
