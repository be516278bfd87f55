use Rattle.std.proofs.Common.{sym, subst, arith, ap, ◌∙◌}
use Rattle.share_model.proofs.lemmas.stride.MoveLemmas.{is_there}
use Rattle.share_model.proofs.lemmas.stride.SoundQueueLemmas.{total_small, tickets_le_total}
use Rattle.share_stride.specs.Table.{client_at}
use Rattle.share_stride.specs.Queue.{AreInStep, state_of}
use Rattle.share_stride.proofs.SoundQueueLemmas.{AreInStep-after_update, IsInStep-modified, modified_is, updated_is}
use Rattle.share_stride.proofs.SoundQueueLemmas.{pass_fits}
use Rattle.share_stride.proofs.SoundQueueLemmas.{stride_is, pass_distance_fits}
use Rattle.share_stride.proofs.moves.modify.Goals as goal

pub modify-before-requires-clause-pass : goal.modify-before-requires-clause-pass
modify-before-requires-clause-pass c =
    let kept =
    subst (AreInStep c.args.clients.now) (sym c.update.ensures)
    (AreInStep-after_update c.args.clients.now c.args.global.now c.requires.kept) in
    let s = state_of c.args.clients.now c.update.new.global in
    pass_fits s kept.sound

pub modify-before-requires-clause-stride : goal.modify-before-requires-clause-stride
modify-before-requires-clause-stride c =
    let kept =
    subst (AreInStep c.args.clients.now) (sym c.update.ensures)
    (AreInStep-after_update c.args.clients.now c.args.global.now c.requires.kept) in
    let s = state_of c.args.clients.now c.update.new.global in
    stride_is s c.args.client_key.flow (client_at c.args.clients.now c.args.client_key) kept.sound
    (is_there s c.args.client_key.flow c.requires.there)

pub modify-before-requires-clause-distance : goal.modify-before-requires-clause-distance
modify-before-requires-clause-distance c =
    let kept =
    subst (AreInStep c.args.clients.now) (sym c.update.ensures)
    (AreInStep-after_update c.args.clients.now c.args.global.now c.requires.kept) in
    let s = state_of c.args.clients.now c.update.new.global in
    pass_distance_fits s c.args.client_key.flow (client_at c.args.clients.now c.args.client_key) kept.sound
    (is_there s c.args.client_key.flow c.requires.there) c.requires.competes

pub overflow_sub-global : goal.overflow_sub-global
overflow_sub-global c =
    let kept =
    subst (AreInStep c.args.clients.now) (sym c.update.ensures)
    (AreInStep-after_update c.args.clients.now c.args.global.now c.requires.kept) in
    let s = state_of c.args.clients.now c.update.new.global in
    let total = kept.total in
    let le = tickets_le_total s.clients c.args.client_key.flow (client_at c.args.clients.now c.args.client_key) (sym
    (is_there s c.args.client_key.flow c.requires.there))
    c.requires.competes in
    omega (arith, c.from.ensures, c.modify-before.ensures.tickets)

pub overflow_add-global : goal.overflow_add-global
overflow_add-global c =
    let kept =
    subst (AreInStep c.args.clients.now) (sym c.update.ensures)
    (AreInStep-after_update c.args.clients.now c.args.global.now c.requires.kept) in
    let s = state_of c.args.clients.now c.update.new.global in
    let total = kept.total in
    omega (arith, total_small s kept.sound, c.from-2.ensures, c.requires.few)

pub returns-clause-kept : goal.returns-clause-kept
returns-clause-kept c =
    let kept =
    subst (AreInStep c.args.clients.now) (sym c.update.ensures)
    (AreInStep-after_update c.args.clients.now c.args.global.now c.requires.kept) in
    let s = state_of c.args.clients.now c.update.new.global in
    rw (c.modify-before.ensures.modified, c.from.ensures, c.from-2.ensures, c.modify-before.ensures.tickets)
    (IsInStep-modified c.update.new.global.tickets s c.args.client_key.flow
    (client_at c.args.clients.now c.args.client_key) c.args.tickets kept
    (is_there s c.args.client_key.flow c.requires.there) c.requires.competes c.requires.some c.requires.few)

pub returns-clause-modified : goal.returns-clause-modified
returns-clause-modified c =
    rw c.modify-before.ensures.modified
    (modified_is (state_of c.args.clients.now c.args.global.now) (state_of c.args.clients.now c.update.new.global)
    c.args.client_key.flow c.args.tickets
    (ap (state_of c.args.clients.now) c.update.ensures
    ∙ updated_is c.args.clients.now c.args.global.now c.requires.kept))
