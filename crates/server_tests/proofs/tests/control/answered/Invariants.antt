use Rattle.server_tests.proofs.tests.control.answered.Given as goal

abbrev pub ghosts-attended : goal.ghosts-attended
ghosts-attended g a = record { link = a.intake.link }
