use Rattle.std.proofs.lemmas.Result.{err_from_is_err_and}
use Rattle.share_script.proofs.FeedLemmas.{up_to_none, up_to_more, up_to_broke, up_to_end}
use Rattle.share_script.proofs.StopLemmas.{wrote_none, wrote_more, stop_later}
use Rattle.share_script.proofs.script.feed.Goals as goal

pub loop-count-init : goal.loop-count-init
loop-count-init g c = (
  up_to_none _ _ _ c.args.session.now c.args.pending.now.carry c.args.chunk.now,
  wrote_none _ _ _ _,
)

pub loop-count-preserved : goal.loop-count-preserved
loop-count-preserved g c = (
  up_to_more _ _ _ _ _ _ _ c.args.session.now c.loop-count.session _ c.args.pending.now.carry
      c.loop-count.pending.carry _
      c.args.chunk.now c.loop-count.at c.in-Some.count
      c.loop-count.invariant.0 c.in-Some.ensures c.in_ok-end_line.ensures.printed c.in_ok-end_line.ensures.none,
  wrote_more c.loop-count.invariant.1 c.in_ok-end_line.ensures.calls,
)

pub returns-in_err-end_line-clause-fed : goal.returns-in_err-end_line-clause-fed
returns-in_err-end_line-clause-fed g c =
    let p = err_from_is_err_and c.from_residual.result c.from_residual.ensures.1 in
    rw p.1 (up_to_broke _ _ _ _ _ _ c.args.session.now c.loop-count.session c.args.pending.now.carry
    c.loop-count.pending.carry
    c.args.chunk.now c.loop-count.at c.in-Some.count
    c.loop-count.invariant.0 c.in-Some.ensures c.in_err-end_line.ensures.printed)

pub returns-in_err-end_line-clause-calls : goal.returns-in_err-end_line-clause-calls
returns-in_err-end_line-clause-calls g c =
    let p = err_from_is_err_and c.from_residual.result c.from_residual.ensures.1 in
    rw (p.1, p.2) (stop_later _ _ _ _ _ _ _ _ _ c.loop-count.invariant.1 c.in_err-end_line.ensures.calls)

pub returns-clause-fed : goal.returns-clause-fed
returns-clause-fed g c =
    up_to_end _ _ _ _ _ c.args.session.now c.loop-count.session c.args.pending.now.carry
    c.loop-count.pending.carry c.add.new.self
    c.args.chunk.now c.loop-count.at
    c.loop-count.invariant.0 c.in_default.ensures c.add.ensures
