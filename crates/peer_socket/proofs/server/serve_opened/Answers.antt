use Rattle.std.proofs.Common.{rules}
use Rattle.peer_socket.proofs.server.serve_opened.Goals as goal

pub returns : goal.returns
returns g c = search rules
