use Rattle.server_tests.proofs.tests.control.connections_leave_the_rest.Given as goal

abbrev pub ghosts-leaves_the_rest : goal.ghosts-leaves_the_rest
ghosts-leaves_the_rest g a = record { link = a.intake.link }
