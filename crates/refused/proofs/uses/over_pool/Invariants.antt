use Rattle.refused.proofs.uses.over_pool.Given as goal

abbrev pub ghosts-over_ledger : goal.ghosts-over_ledger
ghosts-over_ledger g a = record { name = a.blank.name; parts = a.blank.parts }
