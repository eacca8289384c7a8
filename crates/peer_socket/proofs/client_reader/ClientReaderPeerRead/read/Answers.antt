use Rattle.std.proofs.Common.{rules}
use Rattle.peer_socket.proofs.client_reader.ClientReaderPeerRead.read.Goals as goal

pub returns-clause-end_told : goal.returns-clause-end_told
returns-clause-end_told c = search rules

pub returns-clause-failed : goal.returns-clause-failed
returns-clause-failed c = search rules
