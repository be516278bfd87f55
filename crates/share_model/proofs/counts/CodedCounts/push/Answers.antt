use Rattle.std.proofs.Common.{◌/◌, ◌+◌, ap}
use Rattle.share_model.proofs.lemmas.io.CountEncodingLemmas.{counts_in-resized, small-resized}
use Rattle.share_model.proofs.counts.CodedCounts.push.Goals as goal

pub returns-clause-ok : goal.returns-clause-ok
returns-clause-ok c =
    let room = ap (λ n. n + c.args.count / 255) c.len.ensures in
    rw (← c.self.view_is)
    (counts_in-resized c.resize.result c.self.inside.bytes.items _ _ _ _ c.args.count
    (cc c.in_ok-reserve.ensures.items) c.push_reserved.new.self.ok.0 room c.resize.ensures.items)

pub invariant_of-self-2 : goal.invariant_of-self-2
invariant_of-self-2 c =
    let room = ap (λ n. n + c.args.count / 255) c.len.ensures in
    small-resized c.resize.result c.self.inside.bytes.items _ _ _ _ c.args.count _
    (cc c.in_ok-reserve.ensures.items) c.push_reserved.new.self.ok.0 room c.resize.ensures.items
    c.ranges.count.fits c.self.invariant
