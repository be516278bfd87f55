use Rattle.running_tests.proofs.tests.pacing.passes.Given as goal

abbrev pub ghosts-sends_all : goal.ghosts-sends_all
ghosts-sends_all g a = record { link = a.new }
