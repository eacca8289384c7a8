use Rattle.fetch_tests.proofs.tests.clients.see.Given as goal

abbrev pub ghosts-see_over : goal.ghosts-see_over
ghosts-see_over g a = record { name = a.blank.name; parts = a.blank.parts }
