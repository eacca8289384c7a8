use Rattle.std.proofs.Common.{rules}
use Rattle.peer_fetch.proofs.fetcher.Fetcher.is_empty.Goals as goal

pub returns-then-total-eq0 : goal.returns-then-total-eq0
returns-then-total-eq0 g c = search rules
