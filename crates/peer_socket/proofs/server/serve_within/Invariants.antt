use Rattle.peer_socket.proofs.server.serve_within.Given as goal

abbrev pub ghosts-serve_known : goal.ghosts-serve_known
ghosts-serve_known g a = record { may = g.S.Source.answers a.source }
