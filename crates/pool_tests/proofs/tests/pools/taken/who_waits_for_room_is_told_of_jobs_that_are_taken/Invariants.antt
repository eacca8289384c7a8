use Rattle.pool_tests.proofs.tests.pools.taken.who_waits_for_room_is_told_of_jobs_that_are_taken.Given as goal

abbrev pub ghosts-seen_over : goal.ghosts-seen_over
ghosts-seen_over g a = record { name = a.blank.name; parts = a.blank.parts }
