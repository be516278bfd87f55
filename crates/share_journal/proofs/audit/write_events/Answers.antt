use Rattle.std.proofs.Common.{◌≡◌, ◌∷◌}
use Rattle.std.proofs.lemmas.Result.{err_from_is_err_and}
use Rattle.share_model.specs.io.Calls.{no_offers}
use Rattle.share_model.proofs.lemmas.io.CallLemmas.{offers_more, refused_later}
use Rattle.share_journal.proofs.AuditLemmas.{written_none, written_more, written_part}
use Rattle.share_journal.proofs.audit.write_events.Goals as goal

pub loop-first-init : goal.loop-first-init
loop-first-init g c = (written_none _ _, no_offers)

pub loop-first-preserved : goal.loop-first-preserved
loop-first-preserved g c =
    let is : c.loop-first.rest.now ≡ c.in-Some.first.now ∷ c.in-Some.after.now = c.in-Some.ensures.cases.0 in (
      written_more _ _ _ c.args.entries.now c.loop-first.rest.now c.in-Some.after.now c.in-Some.first.now is
          c.loop-first.invariant.0 c.in_ok-write_event.ensures.written.0,
      offers_more c.loop-first.invariant.1 c.in_ok-write_event.ensures.written.1,
    )

pub returns-in_err-write_event : goal.returns-in_err-write_event
returns-in_err-write_event g c =
    let is : c.loop-first.rest.now ≡ c.in-Some.first.now ∷ c.in-Some.after.now = c.in-Some.ensures.cases.0 in
    let p = err_from_is_err_and c.from_residual.result c.from_residual.ensures.1 in
    rw p.1 (
      written_part _ _ _ c.args.entries.now c.loop-first.rest.now c.in-Some.after.now c.in-Some.first.now is
          c.loop-first.invariant.0 c.in_err-write_event.ensures.written.0,
      refused_later c.loop-first.invariant.1 c.in_err-write_event.ensures.written.1,
    )
