use Rattle.std.proofs.Common.{sym, subst, arith}
use Rattle.share_model.proofs.lemmas.stride.MoveLemmas.{is_there}
use Rattle.share_model.proofs.lemmas.stride.SoundQueueLemmas.{total_small}
use Rattle.share_stride.specs.Table.{client_at}
use Rattle.share_stride.specs.Queue.{AreInStep, state_of}
use Rattle.share_stride.proofs.SoundQueueLemmas.{AreInStep-after_update, IsInStep-after_join, pass_fits, stride_is}
use Rattle.share_stride.proofs.SoundQueueLemmas.{remain_fits}
use Rattle.share_stride.proofs.moves.join.Goals as goal

pub enter-requires-clause-pass : goal.enter-requires-clause-pass
enter-requires-clause-pass c =
    let kept =
    subst (AreInStep c.args.clients.now) (sym c.update.ensures)
    (AreInStep-after_update c.args.clients.now c.args.global.now c.requires.kept) in
    let s = state_of c.args.clients.now c.update.new.global in
    pass_fits s kept.sound

pub enter-requires-clause-stride : goal.enter-requires-clause-stride
enter-requires-clause-stride c =
    let kept =
    subst (AreInStep c.args.clients.now) (sym c.update.ensures)
    (AreInStep-after_update c.args.clients.now c.args.global.now c.requires.kept) in
    let s = state_of c.args.clients.now c.update.new.global in
    stride_is s c.args.client_key.flow (client_at c.args.clients.now c.args.client_key) kept.sound
    (is_there s c.args.client_key.flow c.requires.there)

pub enter-requires-clause-remain : goal.enter-requires-clause-remain
enter-requires-clause-remain c =
    let kept =
    subst (AreInStep c.args.clients.now) (sym c.update.ensures)
    (AreInStep-after_update c.args.clients.now c.args.global.now c.requires.kept) in
    let s = state_of c.args.clients.now c.update.new.global in
    remain_fits s c.args.client_key.flow (client_at c.args.clients.now c.args.client_key) kept.sound
    (is_there s c.args.client_key.flow c.requires.there) c.requires.idle

pub overflow_add-global : goal.overflow_add-global
overflow_add-global c =
    let kept =
    subst (AreInStep c.args.clients.now) (sym c.update.ensures)
    (AreInStep-after_update c.args.clients.now c.args.global.now c.requires.kept) in
    let s = state_of c.args.clients.now c.update.new.global in
    let total = kept.total in
    omega (arith, total_small s kept.sound, c.from.ensures, c.requires.few)

pub returns-clause-kept : goal.returns-clause-kept
returns-clause-kept c =
    let kept =
    subst (AreInStep c.args.clients.now) (sym c.update.ensures)
    (AreInStep-after_update c.args.clients.now c.args.global.now c.requires.kept) in
    let s = state_of c.args.clients.now c.update.new.global in
    rw (c.enter.ensures, c.from.ensures)
    (IsInStep-after_join c.update.new.global.tickets s c.args.client_key.flow
    (client_at c.args.clients.now c.args.client_key) c.args.tickets kept
    (is_there s c.args.client_key.flow c.requires.there) c.requires.idle c.requires.some c.requires.few)
