use Rattle.std.specs.Prelude.{◌≤◌, ℕ}
use Rattle.std.proofs.Common.{ap, refl, subst, sym}
use Rattle.share_model.specs.link.View.{LinkView}
use Rattle.share_model.proofs.lemmas.run.PromiseLemmas.{promise}
use Rattle.share_model.specs.run.Sound.{max_life}
use Rattle.share_journal.proofs.AuditLemmas.{told_bytes, told_counts}
use Rattle.share_journal.proofs.laws.recorders_are_one_fold.Goals as goal

pub returns : goal.returns
returns g c =
    let few =
    subst (λ (n : ℕ). n ≤ max_life) (ap (λ (s : LinkView g.row.W.Denot). s.life) c.engine.ensures.link)
    c.events.ensures.life in
    let was = c.journal.ensures.run in
    promise _ _ _ _ _ _ _ few was.range was.may (sym was.replies_are) (sym was.ends.live)
    (told_bytes _ _ _ _ refl was.tells) (told_counts _ _ _ was.tells)
