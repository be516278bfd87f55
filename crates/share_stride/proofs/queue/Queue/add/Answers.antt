use Rattle.std.proofs.Common.{ap, ◌∙◌, arith}
use Rattle.share_model.specs.stride.Moves.{Stride}
use Rattle.std.specs.FinMap.{get}
use Rattle.share_stride.proofs.SoundQueueLemmas.{IsInStep-added}
use Rattle.share_stride.proofs.queue.Queue.add.Goals as goal

pub add-requires-clause-room : goal.add-requires-clause-room
add-requires-clause-room c =
    let room = c.if-len-ge-MAX_CLIENTS.false in
    let len = c.len.ensures in
    omega arith

pub invariant_of-self : goal.invariant_of-self
invariant_of-self c =
    let room = c.if-len-ge-MAX_CLIENTS.false in
    let len = c.len.ensures in
    rw (c.add.ensures, c.new_client.ensures)
    (IsInStep-added _ _ c.args.flow c.self.invariant
    (ap (λ (s : Stride). get s.clients c.args.flow) c.self.view_is ∙ c.requires) (omega arith))
