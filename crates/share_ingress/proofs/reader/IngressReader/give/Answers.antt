use Rattle.std.proofs.Common.{◌+◌, length, refl}
use Rattle.share_ingress.proofs.ReaderLemmas.{answers_ended, no_memory, given_whole, takes_for_payload}
use Rattle.share_ingress.proofs.reader.IngressReader.give.Goals as goal

pub returns-in-Err : goal.returns-in-Err
returns-in-Err g c =
    let takes = takes_for_payload c.self.inside.buffered.items c.args.name c.self.inside.reads_left c.args.size
    (3 + length c.as_bytes.result.now) (rw (← c.self.view_is) at c.requires.whole) (rw c.as_bytes.ensures.value refl)
    _ (rw (← c.as_slice.ensures) refl) c.in-Err.ensures.in_place in
    answers_ended _ _ _ _ _ _ _ (no_memory _ _ _ (rw (← c.self.view_is) takes)) c.end.ensures.answer
    c.end.ensures.same

pub returns-in-Ok : goal.returns-in-Ok
returns-in-Ok g c =
    rw (← c.self.view_is)
    (given_whole g.R.TellingReader.gives g.R.TellingReader.left c.self.inside.reader c.self.inside.buffered.items
    c.args.name
    c.self.inside.reads_left c.args.size (3 + length c.as_bytes.result.now) c.self.inside.ended
    (rw (← c.self.view_is) at c.requires.whole) (rw (← c.self.view_is) at c.requires.still)
    (rw c.as_bytes.ensures.value refl) c.in-Ok.parcel (rw (← c.as_slice.ensures) c.in-Ok.ensures.ok.0) _
    c.advance.ensures.items)
