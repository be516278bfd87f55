use Rattle.server_tests.proofs.tests.stopping.a_refused_thread_of_a_link_is_heard_of.Given as goal

abbrev pub ghosts-is_heard_of : goal.ghosts-is_heard_of
ghosts-is_heard_of g a = record { link = a.intake.link }
