use Rattle.peer_serve.proofs.serve.Given as goal

abbrev pub ghosts-serve_table : goal.ghosts-serve_table
ghosts-serve_table g a = record { text = a.table }
