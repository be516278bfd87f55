use Rattle.std.proofs.Common.{refl}
use Rattle.share_doors.proofs.RecordLemmas.{cuts_first, ends_bad, ends_with, holds_part, holds_same, holds_then}
use Rattle.share_doors.proofs.RecordLemmas.{part_fed, part_same}
use Rattle.share_doors.proofs.sender.Sender.find_record.Goals as goal

pub pieces-init : goal.pieces-init
pieces-init c = holds_same _ _ refl

pub pieces-preserved : goal.pieces-preserved
pieces-preserved c =
    holds_then _ _ _ (holds_part _ _ _ c.pieces.invariant c.in-More.ensures).holds c.read.ensures.more

pub read-requires : goal.read-requires
read-requires c = (holds_part _ _ _ c.pieces.invariant c.in-More.ensures).part

pub returns-in-Item : goal.returns-in-Item
returns-in-Item c = cuts_first _ c.pieces.self.records _ c.payload.result.now c.payload.ensures c.pieces.invariant
    c.in-Item.ensures

pub returns-in-Bad : goal.returns-in-Bad
returns-in-Bad c = ends_bad _ _ _ c.pieces.invariant c.in-Bad.ensures

pub returns-in-Ok-Waits : goal.returns-in-Ok-Waits
returns-in-Ok-Waits c =
    let fed = rw c.in-Ok-Waits.field-0-is at c.in-Ok-Waits.ensures.fed in
    part_fed _ _ _ (holds_part _ _ _ c.pieces.invariant c.in-More.ensures) fed

pub returns-in-Ok-Over : goal.returns-in-Ok-Over
returns-in-Ok-Over c =
    let fed = rw c.in-Ok-Over.field-0-is at c.in-Ok-Over.ensures.fed in
    ends_with c.why_ended.result _ _
    (part_fed _ _ _ (holds_part _ _ _ c.pieces.invariant c.in-More.ensures) fed) c.why_ended.ensures

pub returns-in-Err : goal.returns-in-Err
returns-in-Err c =
    part_same _ _ _ (holds_part _ _ _ c.pieces.invariant c.in-More.ensures) c.in-Err.ensures.same
