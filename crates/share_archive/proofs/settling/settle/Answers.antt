use Rattle.std.proofs.Common.{sym, subst}
use Rattle.share_archive.proofs.SettleLemmas.{HasMade, IsSeen, none_made, one_more, failed_step}
use Rattle.share_archive.proofs.settling.settle.Goals as goal

pub loop-looks-init : goal.loop-looks-init
loop-looks-init g c = none_made (g.B.BookFiles.known c.args.files.now)

pub returns-in-Err-make-clause-reaches : goal.returns-in-Err-make-clause-reaches
returns-in-Err-make-clause-reaches g c =
    let from = g.B.BookFiles.known c.args.files.now in
    let same = sym c.in-Ok.ensures.same in
    failed_step from (g.B.BookFiles.known c.look.new.self) (g.B.BookFiles.known c.make.new.self) c.in-Some.step
    c.in-Ok.book c.loop-looks.looks
    (subst (λ o. HasMade from o c.loop-looks.looks) same c.loop-looks.invariant)
    (subst (λ o. IsSeen o c.in-Ok.book) same c.in-Ok.ensures.seen) c.in-Some.ensures c.in-Err-make.ensures

pub loop-looks-preserved : goal.loop-looks-preserved
loop-looks-preserved g c =
    let from = g.B.BookFiles.known c.args.files.now in
    let same = sym c.in-Ok.ensures.same in
    one_more from (g.B.BookFiles.known c.look.new.self) (g.B.BookFiles.known c.make.new.self) c.in-Some.step
    c.in-Ok.book c.loop-looks.looks
    (subst (λ o. HasMade from o c.loop-looks.looks) same c.loop-looks.invariant)
    (subst (λ o. IsSeen o c.in-Ok.book) same c.in-Ok.ensures.seen) c.in-Some.ensures c.in_default-make.ensures
