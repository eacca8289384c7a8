use Rattle.exchange_tests.proofs.tests.known.is_answered_under.Given as goal

abbrev pub ghosts-is_answered_over : goal.ghosts-is_answered_over
ghosts-is_answered_over g a = record { name = a.blank.name; parts = a.blank.parts }
