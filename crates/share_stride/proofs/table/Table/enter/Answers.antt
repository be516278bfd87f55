use Rattle.std.proofs.Common.{◌≡◌, sym, ap, subst, ◌∙◌, ◌*◌, ◌^◌, set, rules}
use Rattle.std.specs.Prelude.{FitsSigned}
use mir.Syntax.{w128}
use Rattle.share_stride.specs.declared.table.ClientSlot.{ClientSlot}
use Rattle.share_model.specs.declared.stride.Client.{Client}
use Rattle.share_model.specs.stride.Moves.{stride_of, after_join}
use Rattle.share_stride.specs.Fits.{IsWithin}
use Rattle.share_stride.specs.Table.{with_client_at}
use Rattle.share_stride.proofs.RankLemmas.{entry_of-read}
use Rattle.share_stride.proofs.ClientKeyLemmas.{place_filled, client_is_at, view_written, IsWellFormed-written}
use Rattle.share_stride.proofs.ClientKeyLemmas.{place_fits}
use Rattle.share_stride.proofs.ClientKeyLemmas.{stood_out}
use Rattle.share_stride.proofs.table.Table.enter.Goals as goal

pub after_join-slot-requires-clause-stride : goal.after_join-slot-requires-clause-stride
after_join-slot-requires-clause-stride c =
    subst (λ (k : Client). k.stride ≡ stride_of k.tickets)
    (sym (client_is_at _ _ _ c.self.invariant.indexed c.self.view_is c.args.client_key c.requires.client_key _
    c.in-Some.ensures.value)) c.requires.stride

pub after_join-slot-requires-clause-remain : goal.after_join-slot-requires-clause-remain
after_join-slot-requires-clause-remain c =
    subst (λ (k : Client). IsWithin k.remain (k.stride * 2 ^ 41))
    (sym (client_is_at _ _ _ c.self.invariant.indexed c.self.view_is c.args.client_key c.requires.client_key _
    c.in-Some.ensures.value)) c.requires.remain

pub invariant_of-self : goal.invariant_of-self
invariant_of-self c =
    let slot : ClientSlot = record { flow = c.in-Some.slot.now.flow; client = c.after_join-slot.result } in
    let fits : FitsSigned w128 c.after_join-slot.result.pass = search rules in
    IsWellFormed-written _ _ _ _ c.self.invariant c.self.view_is c.args.client_key c.requires.client_key _
    c.in-Some.ensures.value c.after_join-slot.result _
    (c.enter.ensures
    ∙ ap (set c.self.inside.heap c.args.client_key.key)
    (sym (entry_of-read c.args.client_key.key slot (ap (λ (k : Client). k.competes) c.after_join-slot.ensures) fits)))

pub unreachable-requires : goal.unreachable-requires
unreachable-requires c = place_filled _ _ _ c.self.invariant.indexed c.self.view_is c.args.client_key
    c.requires.client_key
    c.in-None.ensures.value

pub returns : goal.returns
returns c =
    let is = client_is_at _ _ _ c.self.invariant.indexed c.self.view_is c.args.client_key c.requires.client_key _
    c.in-Some.ensures.value in
    (view_written _ _ _ c.self.invariant.indexed c.self.view_is c.args.client_key c.requires.client_key _
    c.in-Some.ensures.value c.after_join-slot.result
    ∙ ap (with_client_at c.args.self.now c.args.client_key)
    (c.after_join-slot.ensures ∙ ap (λ (k : Client). after_join c.args.global_pass k c.args.tickets) is))

pub enter-requires-clause-key : goal.enter-requires-clause-key
enter-requires-clause-key c =
    place_fits _ _ _ _ c.self.invariant c.self.view_is c.args.client_key c.requires.client_key _ c.in-Some.ensures.value

pub enter-requires-clause-out : goal.enter-requires-clause-out
enter-requires-clause-out c =
    stood_out _ _ _ _ c.self.invariant c.self.view_is c.args.client_key c.requires.client_key _ c.in-Some.ensures.value
    c.requires.idle
