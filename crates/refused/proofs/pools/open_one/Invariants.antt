use Rattle.refused.proofs.pools.open_one.Given as goal

abbrev pub ghosts-opened_in : goal.ghosts-opened_in
ghosts-opened_in g a = record { name = a.blank.name; parts = a.blank.parts }
