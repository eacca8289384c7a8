use Rattle.pool_tests.proofs.tests.pools.asks.asked_stopped.Given as goal

abbrev pub ghosts-ask_stopped : goal.ghosts-ask_stopped
ghosts-ask_stopped g a = record { name = a.blank.name; parts = a.blank.parts }
