use Rattle.share_control.proofs.requests.obey_locked.Goals as goal

pub returns : goal.returns
returns g c = record {
  room = c.args.clerk.now.room;
  locked = c.deref_mut.result.now;
  left = c.obey.new.locked;
  obeyed = c.obey.ensures;
}
