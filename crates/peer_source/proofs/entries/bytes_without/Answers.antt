use Rattle.std.proofs.Common.{rules}
use Rattle.peer_source.proofs.entries.bytes_without.Goals as goal

pub returns : goal.returns
returns c = search rules
