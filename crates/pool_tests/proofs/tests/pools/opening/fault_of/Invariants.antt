use Rattle.pool_tests.proofs.tests.pools.opening.fault_of.Given as goal

abbrev pub ghosts-fault_over : goal.ghosts-fault_over
ghosts-fault_over a = record { name = a.blank.name; parts = a.blank.parts }
