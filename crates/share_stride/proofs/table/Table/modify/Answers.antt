use Rattle.std.proofs.Common.{◌≡◌, sym, ap, subst, ◌∙◌, ◌*◌, ◌^◌, arith}
use Rattle.share_model.specs.declared.stride.Client.{Client}
use Rattle.share_model.specs.stride.Moves.{stride_of, after_join, after_leave}
use Rattle.std.specs.Prelude.{pos, ◌-ℤ◌}
use Rattle.share_model.proofs.lemmas.stride.DivisionLemmas.{stride_of-le}
use Rattle.share_stride.specs.Fits.{IsWithin}
use Rattle.share_stride.specs.Table.{with_client_at}
use Rattle.share_stride.proofs.ClientKeyLemmas.{place_filled, client_is_at, view_written, IsWellFormed-written}
use Rattle.share_stride.proofs.ClientKeyLemmas.{place_fits}
use Rattle.share_stride.proofs.ClientKeyLemmas.{stood_as}
use Rattle.share_stride.proofs.table.Table.modify.Goals as goal

pub after_leave-client-requires-clause-distance : goal.after_leave-client-requires-clause-distance
after_leave-client-requires-clause-distance c =
    let is = client_is_at _ _ _ c.self.invariant.indexed c.self.view_is c.args.client_key c.requires.client_key _
    c.in-Some.ensures.value in
    let stride = subst (λ (k : Client). k.stride ≡ stride_of k.tickets) (sym is) c.requires.stride in
    let distance =
    subst (λ (k : Client). IsWithin (k.pass -ℤ pos c.args.global_pass) (k.stride * 2 ^ 41)) (sym is)
    c.requires.distance in
    let small = stride_of-le c.in-Some.slot.now.client.tickets in
    record { below = omega (arith, distance.below); above = omega (arith, distance.above) }

pub after_join-slot-requires-clause-stride : goal.after_join-slot-requires-clause-stride
after_join-slot-requires-clause-stride c =
    rw c.after_leave-client.ensures
    (subst (λ (k : Client). k.stride ≡ stride_of k.tickets)
    (sym (client_is_at _ _ _ c.self.invariant.indexed c.self.view_is c.args.client_key c.requires.client_key _
    c.in-Some.ensures.value)) c.requires.stride)

pub after_join-slot-requires-clause-remain : goal.after_join-slot-requires-clause-remain
after_join-slot-requires-clause-remain c =
    rw c.after_leave-client.ensures
    (subst (λ (k : Client). IsWithin (k.pass -ℤ pos c.args.global_pass) (k.stride * 2 ^ 41))
    (sym (client_is_at _ _ _ c.self.invariant.indexed c.self.view_is c.args.client_key c.requires.client_key _
    c.in-Some.ensures.value)) c.requires.distance)

pub invariant_of-self : goal.invariant_of-self
invariant_of-self c =
    (IsWellFormed-written _ _ _ _ c.self.invariant c.self.view_is c.args.client_key c.requires.client_key _
    c.in-Some.ensures.value c.after_join-slot.result _
    (c.shift.ensures))

pub unreachable-requires : goal.unreachable-requires
unreachable-requires c =
    place_filled _ _ _ c.self.invariant.indexed c.self.view_is c.args.client_key c.requires.client_key
    c.in-None.ensures.value

pub returns-clause-tickets : goal.returns-clause-tickets
returns-clause-tickets c =
    let is = client_is_at _ _ _ c.self.invariant.indexed c.self.view_is c.args.client_key c.requires.client_key _
    c.in-Some.ensures.value in
    ap (λ (k : Client). k.tickets) is

pub returns-clause-modified : goal.returns-clause-modified
returns-clause-modified c =
    let is = client_is_at _ _ _ c.self.invariant.indexed c.self.view_is c.args.client_key c.requires.client_key _
    c.in-Some.ensures.value in
    (view_written _ _ _ c.self.invariant.indexed c.self.view_is c.args.client_key c.requires.client_key _
    c.in-Some.ensures.value c.after_join-slot.result
    ∙ ap (with_client_at c.args.self.now c.args.client_key)
    (c.after_join-slot.ensures
    ∙ ap (λ (k : Client). after_join c.args.global_pass k c.args.tickets) c.after_leave-client.ensures
    ∙ ap (λ (k : Client). after_join c.args.global_pass (after_leave c.args.global_pass k) c.args.tickets) is))

pub shift-requires-clause-key : goal.shift-requires-clause-key
shift-requires-clause-key c =
    place_fits _ _ _ _ c.self.invariant c.self.view_is c.args.client_key c.requires.client_key _ c.in-Some.ensures.value

pub shift-requires-clause-stands : goal.shift-requires-clause-stands
shift-requires-clause-stands c =
    stood_as _ _ _ _ c.self.invariant c.self.view_is c.args.client_key c.requires.client_key _ c.in-Some.ensures.value
    ∙ c.requires.competes
    ∙ sym (ap (λ (k : Client). k.competes) c.after_join-slot.ensures)
