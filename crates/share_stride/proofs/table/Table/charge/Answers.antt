use Rattle.std.proofs.Common.{sym, ap, subst, ◌∙◌, ◌≤◌, ◌^◌}
use Rattle.share_model.specs.declared.stride.Client.{Client}
use Rattle.share_model.specs.stride.Moves.{after_charge, position}
use Rattle.share_stride.specs.Fits.{IsWithin}
use Rattle.share_stride.specs.Table.{with_client_at}
use Rattle.share_stride.proofs.RankLemmas.{after_charge-competes}
use Rattle.share_stride.proofs.ClientKeyLemmas.{place_filled, client_is_at, view_written, IsWellFormed-written}
use Rattle.share_stride.proofs.ClientKeyLemmas.{place_fits}
use Rattle.share_stride.proofs.ClientKeyLemmas.{stood_as}
use Rattle.share_stride.proofs.table.Table.charge.Goals as goal

pub after_charge-slot-requires-clause-stride : goal.after_charge-slot-requires-clause-stride
after_charge-slot-requires-clause-stride c =
    subst (λ (k : Client). k.stride ≤ 2 ^ 40)
    (sym (client_is_at _ _ _ c.self.invariant.indexed c.self.view_is c.args.client_key c.requires.client_key _
    c.in-Some.ensures.value)) c.requires.stride

pub after_charge-slot-requires-clause-place : goal.after_charge-slot-requires-clause-place
after_charge-slot-requires-clause-place c =
    subst (λ (k : Client). IsWithin (position k).place (2 ^ 83))
    (sym (client_is_at _ _ _ c.self.invariant.indexed c.self.view_is c.args.client_key c.requires.client_key _
    c.in-Some.ensures.value)) c.requires.fits

pub invariant_of-self : goal.invariant_of-self
invariant_of-self c =
    (IsWellFormed-written _ _ _ _ c.self.invariant c.self.view_is c.args.client_key c.requires.client_key _
    c.in-Some.ensures.value c.after_charge-slot.result _
    (c.shift.ensures))

pub unreachable-requires : goal.unreachable-requires
unreachable-requires c = place_filled _ _ _ c.self.invariant.indexed c.self.view_is c.args.client_key
    c.requires.client_key
    c.in-None.ensures.value

pub returns : goal.returns
returns c =
    let is = client_is_at _ _ _ c.self.invariant.indexed c.self.view_is c.args.client_key c.requires.client_key _
    c.in-Some.ensures.value in
    (view_written _ _ _ c.self.invariant.indexed c.self.view_is c.args.client_key c.requires.client_key _
    c.in-Some.ensures.value c.after_charge-slot.result
    ∙ ap (with_client_at c.args.self.now c.args.client_key)
    (c.after_charge-slot.ensures ∙ ap (λ (k : Client). after_charge k c.args.units) is))

pub shift-requires-clause-key : goal.shift-requires-clause-key
shift-requires-clause-key c =
    place_fits _ _ _ _ c.self.invariant c.self.view_is c.args.client_key c.requires.client_key _ c.in-Some.ensures.value

pub shift-requires-clause-stands : goal.shift-requires-clause-stands
shift-requires-clause-stands c =
    stood_as _ _ _ _ c.self.invariant c.self.view_is c.args.client_key c.requires.client_key _ c.in-Some.ensures.value
    ∙ sym (ap (λ (k : Client). k.competes) (client_is_at _ _ _ c.self.invariant.indexed c.self.view_is c.args.client_key
    c.requires.client_key _ c.in-Some.ensures.value))
    ∙ sym (ap (λ (k : Client). k.competes) c.after_charge-slot.ensures ∙ after_charge-competes _ c.args.units)
