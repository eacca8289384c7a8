use Rattle.stream_tests.proofs.tests.slow_key.ends_so.Given as goal

abbrev pub ghosts-round : goal.ghosts-round
ghosts-round g a = record { name = a.blank.name; parts = a.blank.parts }
