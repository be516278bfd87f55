use Rattle.std.proofs.Common.{◌≡◌, false}
use Rattle.share_doors.specs.Fills.{Fills}
use Rattle.share_doors.specs.Takes.{can_take}
use Rattle.share_doors.proofs.door.Door.fill.Given as goal

abbrev pub invariant-packets : goal.invariant-packets
invariant-packets g l = Fills l.initial.self l.initial.book.audited l.self l.book.audited
    × (l.book.plan ≡ l.initial.book.plan)
    × (can_take l.initial.book.audited l.initial.self.tenant ≡ false
    → (l.self ≡ l.initial.self) × (l.book.audited ≡ l.initial.book.audited))
