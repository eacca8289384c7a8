use Rattle.pool_tests.proofs.tests.pools.planned.seen_of.Given as goal

abbrev pub ghosts-asked_of : goal.ghosts-asked_of
ghosts-asked_of g a = record { name = a.blank.name; parts = a.blank.parts }
