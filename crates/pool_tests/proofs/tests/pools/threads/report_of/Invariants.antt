use Rattle.pool_tests.proofs.tests.pools.threads.report_of.Given as goal

abbrev pub ghosts-report_over : goal.ghosts-report_over
ghosts-report_over g a = record { name = a.blank.name; parts = a.blank.parts }
