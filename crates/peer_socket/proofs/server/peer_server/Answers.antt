use Rattle.std.proofs.Common.{rules}
use Rattle.peer_socket.proofs.server.peer_server.Goals as goal

pub returns : goal.returns
returns g c = search rules
