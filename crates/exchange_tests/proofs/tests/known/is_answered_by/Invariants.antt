use Rattle.exchange_tests.proofs.tests.known.is_answered_by.Given as goal

abbrev pub ghosts-is_answered_under : goal.ghosts-is_answered_under
ghosts-is_answered_under g a = record { may = g.S.Source.answers a.source }
