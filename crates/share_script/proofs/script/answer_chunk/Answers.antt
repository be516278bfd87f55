use Rattle.std.proofs.lemmas.Result.{err_from_is_err_and}
use Rattle.share_script.proofs.FeedLemmas.{part_then, fed_then, fed_from, part_from}
use Rattle.share_script.proofs.StopLemmas.{wrote_offers, stop_refused}
use Rattle.share_script.proofs.script.answer_chunk.Goals as goal

pub returns-in_err-feed-clause-fed : goal.returns-in_err-feed-clause-fed
returns-in_err-feed-clause-fed g c =
    let p = err_from_is_err_and c.from_residual.result c.from_residual.ensures.1 in
    rw p.1 (part_from _ _ _ _ _ c.args.session.now _ _ c.requires.nothing c.in_err-feed.ensures.fed)

pub returns-in_err-put_out-clause-fed : goal.returns-in_err-put_out-clause-fed
returns-in_err-put_out-clause-fed g c =
    let p = err_from_is_err_and c.from_residual-in_err-put_out.result c.from_residual-in_err-put_out.ensures.1 in
    rw p.1 (part_then _ _ _ _ _ _ c.args.session.now _ _ _ _
    (fed_from _ _ _ _ _ _ c.args.session.now _ _ _ _ c.requires.nothing c.in_ok-feed.ensures.fed)
    c.in_err-put_out.ensures.spooled)

pub returns-in_err-put_out-clause-calls : goal.returns-in_err-put_out-clause-calls
returns-in_err-put_out-clause-calls g c =
    let p = err_from_is_err_and c.from_residual-in_err-put_out.result c.from_residual-in_err-put_out.ensures.1 in
    rw p.1 (stop_refused _ _ _ _ _ _ _ _ p.2 c.in_ok-feed.ensures.calls c.in_err-put_out.ensures.offers)

pub returns-clause-fed : goal.returns-clause-fed
returns-clause-fed g c =
    fed_then _ _ _ _ _ _ _ c.args.session.now _ _ _ _
    (fed_from _ _ _ _ _ _ c.args.session.now _ _ _ _ c.requires.nothing c.in_ok-feed.ensures.fed)
    c.in_ok-put_out.ensures.spooled

pub returns-clause-calls : goal.returns-clause-calls
returns-clause-calls g c = wrote_offers c.in_ok-feed.ensures.calls c.in_ok-put_out.ensures.offers
