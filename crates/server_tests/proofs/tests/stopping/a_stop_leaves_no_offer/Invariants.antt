use Rattle.server_tests.proofs.tests.stopping.a_stop_leaves_no_offer.Given as goal

abbrev pub ghosts-leaves_no_offer : goal.ghosts-leaves_no_offer
ghosts-leaves_no_offer g a = record { link = a.intake.link }
