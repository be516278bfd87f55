use Rattle.std.proofs.Common.{◌≡◌, ◌∙◌}
use Rattle.std.proofs.lemmas.List.{get_or_default}
use Rattle.share_stride.specs.Seating.{no_entry, entry_in_seat}
use Rattle.share_stride.proofs.SeatLemmas.{Swaps-swap}
use Rattle.share_stride.proofs.seating.Seating.swap.Goals as goal

pub returns : goal.returns
returns c =
    let is : c.index-entry.result.now ≡ entry_in_seat c.args.self.now.entries.items c.args.a =
    c.index-entry.ensures ∙ get_or_default _ _ _ no_entry c.requires.first in
    rw (c.place.ensures.entries, c.place.ensures.seats, c.fill.ensures.entries, c.fill.ensures.seats, is)
    (Swaps-swap _ _ _ _ c.requires.seated c.requires.first c.requires.second)
