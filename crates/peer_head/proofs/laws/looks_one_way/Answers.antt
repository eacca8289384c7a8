use Rattle.peer_head.proofs.LookLaws.{looks_one_way_law}
use Rattle.peer_head.proofs.laws.looks_one_way.Goals as goal

pub returns : goal.returns
returns c = looks_one_way_law
