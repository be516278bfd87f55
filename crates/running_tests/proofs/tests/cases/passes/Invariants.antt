use Rattle.running_tests.proofs.tests.cases.passes.Given as goal

abbrev pub ghosts-runs : goal.ghosts-runs
ghosts-runs g a = record { link = a.new }
