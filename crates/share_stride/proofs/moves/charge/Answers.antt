use Rattle.share_model.proofs.lemmas.stride.MoveLemmas.{is_there}
use Rattle.share_stride.specs.Table.{client_at}
use Rattle.share_stride.specs.Queue.{state_of}
use Rattle.share_stride.proofs.SoundQueueLemmas.{IsInStep-charge, stride_fits, place_fits}
use Rattle.share_stride.proofs.moves.charge.Goals as goal

pub charge-requires-clause-stride : goal.charge-requires-clause-stride
charge-requires-clause-stride c =
    let s = state_of c.args.clients.now c.args.global.now in
    stride_fits s c.args.client_key.flow (client_at c.args.clients.now c.args.client_key) c.requires.kept.sound
    (is_there s c.args.client_key.flow c.requires.there)

pub charge-requires-clause-fits : goal.charge-requires-clause-fits
charge-requires-clause-fits c =
    let s = state_of c.args.clients.now c.args.global.now in
    place_fits s c.args.client_key.flow (client_at c.args.clients.now c.args.client_key) c.requires.kept.sound
    (is_there s c.args.client_key.flow c.requires.there)

pub returns-clause-kept : goal.returns-clause-kept
returns-clause-kept c =
    rw c.charge.ensures
    (IsInStep-charge c.args.global.now.tickets (state_of c.args.clients.now c.args.global.now) c.args.client_key.flow
    c.args.units c.requires.kept c.requires.there c.requires.clock)
