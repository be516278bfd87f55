use Rattle.std.proofs.Common.{◌∙◌, arith, inr}
use Rattle.share_ingress.proofs.ReaderLemmas.{bound_met, no_memory, bytes_read, interrupted, failed, ended_input}
use Rattle.share_ingress.proofs.ReaderLemmas.{read_whole}
use Rattle.share_ingress.proofs.reader.IngressReader.read.Goals as goal

pub end_of_input-requires : goal.end_of_input-requires
end_of_input-requires g c =
    rw (c.as_slice.ensures, c.reserve.ensures.items) (rw (← c.self.view_is) at c.requires.more)

pub returns-then-self-eq0-clause-read : goal.returns-then-self-eq0-clause-read
returns-then-self-eq0-clause-read g c = bound_met _ _ _ (rw (← c.self.view_is) c.if-self-eq0.true) c.requires.more

pub returns-then-is_err-clause-read : goal.returns-then-is_err-clause-read
returns-then-is_err-clause-read g c =
    rw (c.reserve.ensures.items, ← c.self.view_is)
    (no_memory _ _ _ (inr (omega (arith, c.if-self-eq0.false), rw (← c.self.view_is) at c.requires.more)))

pub returns-in-Bytes-clause-read : goal.returns-in-Bytes-clause-read
returns-in-Bytes-clause-read g c =
    let whole = read_whole _ _ _ _ c.deref.ensures.value
    (c.take_bytes.auto.buffer ∙ c.as_mut_slice.ensures.len) in
    rw (← c.self.view_is, c.extend_reserved.ensures.items, c.reserve.ensures.items, whole)
    (bytes_read g.R.TellingReader.gives g.R.TellingReader.left g.met.R.TellingReader.tells _ _ _ _ _ _ _
    c.if-self-eq0.false
    (rw (← c.self.view_is) at c.requires.still) c.in-Bytes.ensures)

pub returns-in-Interrupted-clause-read : goal.returns-in-Interrupted-clause-read
returns-in-Interrupted-clause-read g c =
    rw (← c.self.view_is, c.reserve.ensures.items)
    (interrupted g.R.TellingReader.gives g.R.TellingReader.left g.met.R.TellingReader.tells _ _ _ _ _ _
    c.if-self-eq0.false
    (rw (← c.self.view_is) at c.requires.still) c.in-Interrupted.ensures)

pub returns-in-End-clause-read : goal.returns-in-End-clause-read
returns-in-End-clause-read g c =
    rw (← c.self.view_is, c.reserve.ensures.items)
    (ended_input g.R.TellingReader.gives g.R.TellingReader.left g.met.R.TellingReader.tells _ _ _ _ _ _ _
    c.if-self-eq0.false
    (rw (← c.reserve.ensures.items, ← c.as_slice.ensures) c.end_of_input.ensures) c.in-End.ensures)

pub returns-in-Failed-clause-read : goal.returns-in-Failed-clause-read
returns-in-Failed-clause-read g c =
    rw (← c.self.view_is, c.reserve.ensures.items)
    (failed g.R.TellingReader.gives g.R.TellingReader.left g.met.R.TellingReader.tells _ _ _ _ _ _ c.if-self-eq0.false
    c.in-Failed.ensures)
