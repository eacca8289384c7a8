use Rattle.exchange_tests.proofs.tests.worked.are_sent.Given as goal

abbrev pub ghosts-are_sent_over : goal.ghosts-are_sent_over
ghosts-are_sent_over g a = record { name = a.blank.name; parts = a.blank.parts }
