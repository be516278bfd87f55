use Rattle.std.proofs.Common.{◌≡◌, ◌∙◌, rules}
use Rattle.std.proofs.lemmas.Result.{IfOk-weaker}
use Rattle.share_model.specs.lists.Each.{Each}
use Rattle.share_ingress.specs.Threads.{IsJobDone, Matches}
use Rattle.share_ingress.proofs.ThreadLemmas.{matches_more, each_matched, same_link}
use Rattle.share_ingress.proofs.threads.run_workers.Goals as goal

pub returns-clause-each : goal.returns-clause-each
returns-clause-each g c = search rules

pub returns-clause-linked : goal.returns-clause-linked
returns-clause-linked g c = IfOk-weaker c.scoped.result
    (λ all. Matches (IsJobDone g.R.TellingReader.gives g.R.TellingReader.left g.G.Gate.told) c.args.jobs.items
    all.items)
    (λ all. Matches (λ job done. done.end.link ≡ job.end.link) c.args.jobs.items all.items)
    (λ all is. matches_more _ _ (same_link g.R.TellingReader.gives g.R.TellingReader.left g.G.Gate.told) _ _ is)
    (returns-clause-each g c)

pub returns-clause-one_queue : goal.returns-clause-one_queue
returns-clause-one_queue g c link each = IfOk-weaker c.scoped.result
    (λ all. Matches (λ job done. done.end.link ≡ job.end.link) c.args.jobs.items all.items)
    (λ all. Each (λ done. done.end.link ≡ link) all.items)
    (λ all is. each_matched _ _ _ (λ job done h of. h ∙ of) _ _ is each)
    (returns-clause-linked g c)
