use Rattle.std.proofs.Common.{sym, subst, arith}
use Rattle.share_model.proofs.lemmas.stride.MoveLemmas.{is_there}
use Rattle.share_model.proofs.lemmas.stride.SoundQueueLemmas.{tickets_le_total}
use Rattle.share_stride.specs.Table.{client_at}
use Rattle.share_stride.specs.Queue.{AreInStep, state_of}
use Rattle.share_stride.proofs.SoundQueueLemmas.{AreInStep-after_update, IsInStep-after_leave, pass_fits, ahead_fits}
use Rattle.share_stride.proofs.moves.leave.Goals as goal

pub leave-requires-clause-pass : goal.leave-requires-clause-pass
leave-requires-clause-pass c =
    let kept =
    subst (AreInStep c.args.clients.now) (sym c.update.ensures)
    (AreInStep-after_update c.args.clients.now c.args.global.now c.requires.kept) in
    let s = state_of c.args.clients.now c.update.new.global in
    pass_fits s kept.sound

pub leave-requires-clause-distance : goal.leave-requires-clause-distance
leave-requires-clause-distance c =
    let kept =
    subst (AreInStep c.args.clients.now) (sym c.update.ensures)
    (AreInStep-after_update c.args.clients.now c.args.global.now c.requires.kept) in
    let s = state_of c.args.clients.now c.update.new.global in
    ahead_fits s c.args.client_key.flow (client_at c.args.clients.now c.args.client_key) kept.sound
    (is_there s c.args.client_key.flow c.requires.there) c.requires.competes

pub overflow_sub-global : goal.overflow_sub-global
overflow_sub-global c =
    let kept =
    subst (AreInStep c.args.clients.now) (sym c.update.ensures)
    (AreInStep-after_update c.args.clients.now c.args.global.now c.requires.kept) in
    let s = state_of c.args.clients.now c.update.new.global in
    let total = kept.total in
    let le = tickets_le_total s.clients c.args.client_key.flow (client_at c.args.clients.now c.args.client_key) (sym
    (is_there s c.args.client_key.flow c.requires.there))
    c.requires.competes in
    omega (arith, c.from.ensures, c.leave.ensures.tickets)

pub returns-clause-kept : goal.returns-clause-kept
returns-clause-kept c =
    let kept =
    subst (AreInStep c.args.clients.now) (sym c.update.ensures)
    (AreInStep-after_update c.args.clients.now c.args.global.now c.requires.kept) in
    let s = state_of c.args.clients.now c.update.new.global in
    rw (c.leave.ensures.left, c.from.ensures, c.leave.ensures.tickets)
    (IsInStep-after_leave c.update.new.global.tickets s c.args.client_key.flow
    (client_at c.args.clients.now c.args.client_key)
    kept
    (is_there s c.args.client_key.flow c.requires.there) c.requires.competes)
