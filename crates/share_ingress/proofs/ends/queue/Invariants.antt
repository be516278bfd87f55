use Rattle.std.proofs.Common.{◌≡◌, []}
use Rattle.std.specs.Arc.{arc_value}
use Rattle.crossbeam_queue.specs.Passes.{view, IsPassOf, ruled_capacity}
use Rattle.share_model.specs.ingress.Queue.{an_intake}
use Rattle.share_ingress.specs.Ends.{new_ends}
use Rattle.share_ingress.proofs.ends.queue.Given as goal

abbrev pub invariant-loop-made : goal.invariant-loop-made
invariant-loop-made l = record {
  ends : l.ends.items ≡ new_ends l.token.table_id l.fn.capacity l.made;
  queue : IsPassOf (arc_value l.queue) l.token;
  known : view l.token ≡ an_intake l.made [] [] [];
  capacity : ruled_capacity (arc_value l.queue) ≡ l.fn.capacity;
}
