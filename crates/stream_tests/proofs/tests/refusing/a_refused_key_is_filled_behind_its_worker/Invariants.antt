use Rattle.stream_tests.proofs.tests.refusing.a_refused_key_is_filled_behind_its_worker.Given as goal

abbrev pub ghosts-run : goal.ghosts-run
ghosts-run g a = record { name = a.blank.name; parts = a.blank.parts }
