use Rattle.peer_loop.proofs.server.serve_known.Given as goal

abbrev pub ghosts-over_pool : goal.ghosts-over_pool
ghosts-over_pool g a = record { name = a.blank.name; parts = a.blank.parts }
