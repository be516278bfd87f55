use Rattle.share_stride.specs.Seating.{HoleSinks, FitsBelow}
use Rattle.share_stride.proofs.SeatingLemmas.{Sifts-place, HoleSinks-risen}
use Rattle.share_stride.proofs.seating.Seating.sift.Goals as goal
use Rattle.share_stride.proofs.seating.Seating.sift.Goals.{in-None, in-Some}

-- upward and downward, the open seat is where the entry belongs
moved : (c : goal.After-place)
    → HoleSinks c.args.count c.args.self.now.entries.items c.args.self.now.seats.items
    c.match-rising_from.self.entries.items c.match-rising_from.self.seats.items c.match-rising_from.seat c.args.entry
    × FitsBelow c.args.count c.match-rising_from.self.entries.items c.match-rising_from.seat c.args.entry
moved c =
    elim c.match-rising_from.branch [
      | in-None w ↦ rw (w.self-is, w.seat-is) (w.sink-seat.ensures.sinks, w.sink-seat.ensures.fits)
      | in-Some w ↦
          rw (w.self-is, w.seat-is)
          (HoleSinks-risen _ _ _ _ _ _ _ _ _ c.requires.is_open w.in-Some.ensures.past w.rise-seat.ensures.rises
          w.rise-seat.ensures.fits)
    ]

pub returns : goal.returns
returns c =
    let after = moved c in
    rw (c.place.ensures.entries, c.place.ensures.seats) (Sifts-place _ _ _ _ _ _ _ after.0 after.1)
