use Rattle.std.proofs.Common.{rules}
use Rattle.peer_fetch.proofs.fetcher.Fetcher.start.Goals as goal

pub begin-requires-clause-free : goal.begin-requires-clause-free
begin-requires-clause-free g c = search rules
