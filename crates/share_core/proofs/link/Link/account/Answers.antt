use Rattle.std.proofs.Common.{◌<◌, ◌^◌, sym, arith}
use Rattle.share_model.proofs.lemmas.run.SoundLinkLemmas.{book-account}
use Rattle.share_core.proofs.link.Link.account.Goals as goal

pub returns-clause-small : goal.returns-clause-small
returns-clause-small g c =
    let sound = c.self.invariant.1 in
    let account = book-account sound c.args.flow (sym c.in_ok-book.ensures) in
    let small : c.in_ok-book.book.now.account < 2 ^ 54
    = omega (arith, account, sound.counts.events, c.self.invariant.0.0) in small
