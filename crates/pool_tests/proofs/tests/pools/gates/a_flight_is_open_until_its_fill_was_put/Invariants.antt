use Rattle.pool_tests.proofs.tests.pools.gates.a_flight_is_open_until_its_fill_was_put.Given as goal

abbrev pub ghosts-seen : goal.ghosts-seen
ghosts-seen g a = record { name = a.blank.name; parts = a.blank.parts }
