use Rattle.std.proofs.Common.{sym, ap, subst, ◌∙◌, ◌^◌, set}
use Rattle.share_stride.specs.declared.table.ClientSlot.{ClientSlot}
use Rattle.share_model.specs.declared.stride.Client.{Client}
use Rattle.share_model.specs.stride.Moves.{after_leave}
use Rattle.std.specs.Prelude.{pos, ◌-ℤ◌}
use Rattle.share_stride.specs.Fits.{IsWithin}
use Rattle.share_stride.specs.Table.{with_client_at}
use Rattle.share_stride.proofs.RankLemmas.{entry_of-idle}
use Rattle.share_stride.proofs.ClientKeyLemmas.{place_filled, client_is_at, view_written, IsWellFormed-written}
use Rattle.share_stride.proofs.ClientKeyLemmas.{stood_as}
use Rattle.share_stride.proofs.table.Table.leave.Goals as goal

pub after_leave-slot-requires-clause-distance : goal.after_leave-slot-requires-clause-distance
after_leave-slot-requires-clause-distance c =
    subst (λ (k : Client). IsWithin (k.pass -ℤ pos c.args.global_pass) (2 ^ 81))
    (sym (client_is_at _ _ _ c.self.invariant.indexed c.self.view_is c.args.client_key c.requires.client_key _
    c.in-Some.ensures.value)) c.requires.distance

pub invariant_of-self : goal.invariant_of-self
invariant_of-self c =
    let slot : ClientSlot = record { flow = c.in-Some.slot.now.flow; client = c.after_leave-slot.result } in
    IsWellFormed-written _ _ _ _ c.self.invariant c.self.view_is c.args.client_key c.requires.client_key _
    c.in-Some.ensures.value c.after_leave-slot.result _
    (c.leave.ensures
    ∙ ap (set c.self.inside.heap c.args.client_key.key)
    (sym (entry_of-idle c.args.client_key.key slot (ap (λ (k : Client). k.competes) c.after_leave-slot.ensures))))

pub unreachable-requires : goal.unreachable-requires
unreachable-requires c =
    place_filled _ _ _ c.self.invariant.indexed c.self.view_is c.args.client_key c.requires.client_key
    c.in-None.ensures.value

pub returns-clause-tickets : goal.returns-clause-tickets
returns-clause-tickets c =
    let is = client_is_at _ _ _ c.self.invariant.indexed c.self.view_is c.args.client_key c.requires.client_key _
    c.in-Some.ensures.value in
    ap (λ (k : Client). k.tickets) c.after_leave-slot.ensures ∙ ap (λ (k : Client). k.tickets) is

pub returns-clause-left : goal.returns-clause-left
returns-clause-left c =
    let is = client_is_at _ _ _ c.self.invariant.indexed c.self.view_is c.args.client_key c.requires.client_key _
    c.in-Some.ensures.value in
    (view_written _ _ _ c.self.invariant.indexed c.self.view_is c.args.client_key c.requires.client_key _
    c.in-Some.ensures.value c.after_leave-slot.result
    ∙ ap (with_client_at c.args.self.now c.args.client_key)
    (c.after_leave-slot.ensures ∙ ap (after_leave c.args.global_pass) is))

pub leave-requires : goal.leave-requires
leave-requires c =
    stood_as _ _ _ _ c.self.invariant c.self.view_is c.args.client_key c.requires.client_key _ c.in-Some.ensures.value
    ∙ c.requires.competes
