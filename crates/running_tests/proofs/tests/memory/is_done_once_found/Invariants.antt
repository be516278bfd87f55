use Rattle.running_tests.proofs.tests.memory.is_done_once_found.Given as goal

abbrev pub ghosts-is_refused_at : goal.ghosts-is_refused_at
ghosts-is_refused_at g a = record { link = a.new }
