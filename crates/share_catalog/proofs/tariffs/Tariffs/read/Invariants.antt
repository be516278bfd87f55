use Rattle.std.proofs.Common.{◌≡◌, ◌++◌, length, map}
use Rattle.share_catalog.specs.Pieces.{pieces_of}
use Rattle.share_catalog.specs.Texts.{tariff_text, AreTariffs}
use Rattle.share_catalog.proofs.tariffs.Tariffs.read.Given as goal

abbrev pub invariant-loop-piece : goal.invariant-loop-piece
invariant-loop-piece l = AreTariffs l.tariffs × (pieces_of 32 l.word ≡ map tariff_text l.tariffs ++ l.pieces)

abbrev pub decreases-loop-piece : goal.decreases-loop-piece
decreases-loop-piece l = length l.pieces
