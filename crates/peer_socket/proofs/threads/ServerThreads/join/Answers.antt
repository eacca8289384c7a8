use Rattle.std.proofs.Common.{rules}
use Rattle.peer_socket.proofs.threads.ServerThreads.join.Goals as goal

pub returns : goal.returns
returns g c = search rules
