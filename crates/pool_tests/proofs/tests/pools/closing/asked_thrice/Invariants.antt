use Rattle.pool_tests.proofs.tests.pools.closing.asked_thrice.Given as goal

abbrev pub ghosts-ask_thrice : goal.ghosts-ask_thrice
ghosts-ask_thrice g a = record { name = a.blank.name; parts = a.blank.parts }
