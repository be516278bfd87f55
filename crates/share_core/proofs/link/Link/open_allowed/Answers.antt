use Rattle.std.proofs.Common.{◌≡◌, ◌∙◌, None, ap, refl, sym, subst, arith}
use Rattle.std.specs.FinMap.{get}
use Rattle.share_model.specs.link.Buffers.{buffer_of}
use Rattle.share_model.proofs.lemmas.run.SoundCommandLemmas.{sound-open_flow}
use Rattle.share_core.proofs.ArrivalLemmas.{book_count}
use Rattle.share_core.proofs.LifeLemmas.{living}
use Rattle.share_core.proofs.OpeningLemmas.{added, next-unjoined, next-unbuffered, open_in-found, close_in-open_in}
use Rattle.share_core.proofs.OpeningLemmas.{found_none}
use Rattle.share_core.proofs.OpeningLemmas.{can-open, allowed-room, queue-room, allowed_of}
use Rattle.share_core.proofs.link.Link.open_allowed.Goals as goal

pub open-requires : goal.open-requires
open-requires g c =
    ap (buffer_of c.self.inside.buffers) c.next_flow.ensures ∙ next-unbuffered c.self.invariant.1

pub close-requires : goal.close-requires
close-requires g c =
    let none = ap (buffer_of c.self.inside.buffers) c.next_flow.ensures ∙ next-unbuffered c.self.invariant.1 in
    rw (c.in-Ok.ensures.ok.0) (open_in-found c.self.inside.buffers c.next_flow.result c.args.limit none)

pub invariant_of-self-in-Err : goal.invariant_of-self-in-Err
invariant_of-self-in-Err g c =
    let none = ap (buffer_of c.self.inside.buffers) c.next_flow.ensures ∙ next-unbuffered c.self.invariant.1 in
    rw (
      c.in-Err.ensures.refused.1,
      c.close.ensures.after,
      c.in-Ok.ensures.ok.0,
      close_in-open_in c.self.inside.buffers c.next_flow.result c.args.limit none,
    )
    c.self.invariant

pub add-requires : goal.add-requires
add-requires g c =
    let flow = c.in-Ok-add_flow.ensures.done.1 in
    subst (λ n. get c.self.inside.queue.clients n ≡ None) (sym flow) (next-unjoined c.self.invariant.1)

pub open-requires-in-Ok-add_flow : goal.open-requires-in-Ok-add_flow
open-requires-in-Ok-add_flow g c =
    let allowed = allowed_of _ _ c.args.name c.args.limit c.args.tariff c.self.view_is c.requires.allowed in
    let room = allowed-room c.self.invariant.1 c.args.name c.args.limit c.args.tariff allowed in
    omega (arith, room, book_count c.self.invariant.1)

pub level_from_scratch-requires : goal.level_from_scratch-requires
level_from_scratch-requires g c =
    let sound = c.self.invariant.1 in
    let allowed = allowed_of _ _ c.args.name c.args.limit c.args.tariff c.self.view_is c.requires.allowed in
    let room = allowed-room c.self.invariant.1 c.args.name c.args.limit c.args.tariff allowed in
    let joined = added _ _ _ _ c.add.ensures.ok c.add.ensures.refused
    (queue-room sound c.args.name c.args.limit c.args.tariff allowed) in
    rw (joined, c.in-Ok-add_flow.ensures.done.1, c.in-Ok-add_flow.ensures.done.2)
    (can-open sound room c.args.name)

pub invariant_of-self-in-Ok-add_flow : goal.invariant_of-self-in-Ok-add_flow
invariant_of-self-in-Ok-add_flow g c =
    let sound = c.self.invariant.1 in
    let allowed = allowed_of _ _ c.args.name c.args.limit c.args.tariff c.self.view_is c.requires.allowed in
    let joined = added _ _ _ _ c.add.ensures.ok c.add.ensures.refused
    (queue-room sound c.args.name c.args.limit c.args.tariff allowed) in (
      (c.self.invariant.0.0, c.level_from_scratch.ensures.levelled_with),
      rw (
        c.level_from_scratch.ensures.queue,
        joined,
        c.open-in-Ok-add_flow.ensures,
        c.in-Ok.ensures.ok.0,
        c.next_flow.ensures,
        c.in-Ok-add_flow.ensures.done.1,
        c.in-Ok-add_flow.ensures.done.2,
      )
          (sound-open_flow sound (living _ _ c.self.view_is c.requires.living sound) c.args.name c.args.limit
          c.args.tariff allowed),
    )

pub returns-in-Err : goal.returns-in-Err
returns-in-Err g c =
    let none = ap (buffer_of c.self.inside.buffers) c.next_flow.ensures ∙ next-unbuffered c.self.invariant.1 in
    found_none _ _ _ c.args.name c.args.limit c.args.tariff c.self.view_is
    (rw (
      c.in-Err.ensures.refused.1,
      c.close.ensures.after,
      c.in-Ok.ensures.ok.0,
      close_in-open_in c.self.inside.buffers c.next_flow.result c.args.limit none,
    ) refl)
    c.requires.living c.requires.allowed
