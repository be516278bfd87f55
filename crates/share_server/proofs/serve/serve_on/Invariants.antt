use Rattle.share_server.proofs.serve.serve_on.Given as goal

abbrev pub ghosts-serve_as : goal.ghosts-serve_as
ghosts-serve_as g a = record { link = a.setup.new_link.intake.link }
