use Rattle.std.proofs.Common.{◌≡◌}
use Rattle.share_ingress.proofs.threads.start.Given as goal

abbrev pub ghosts-start_as : goal.ghosts-start_as
ghosts-start_as g a = record { is = λ job. job ≡ a.job }
