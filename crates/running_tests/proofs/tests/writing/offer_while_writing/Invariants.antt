use Rattle.running_tests.proofs.tests.writing.offer_while_writing.Given as goal

abbrev pub ghosts-is_written : goal.ghosts-is_written
ghosts-is_written g a = record { link = a.new }
