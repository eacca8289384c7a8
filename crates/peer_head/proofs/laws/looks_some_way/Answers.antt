use Rattle.peer_head.proofs.LookSearch.{looks_some_way_law}
use Rattle.peer_head.proofs.laws.looks_some_way.Goals as goal

pub returns : goal.returns
returns c = looks_some_way_law
