use Rattle.exchange_rate.proofs.run.Given as goal

abbrev pub ghosts-sent_for : goal.ghosts-sent_for
ghosts-sent_for g a = record { name = a.blank.name; parts = a.blank.parts }
